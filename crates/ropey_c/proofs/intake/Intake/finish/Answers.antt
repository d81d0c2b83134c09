use Rattle.std.proofs.Common.{rules}
use Rattle.ropey_c.proofs.intake.Intake.finish.Goals as goal

pub returns-then-self-gt0 : goal.returns-then-self-gt0
returns-then-self-gt0 c = search rules
