use Rattle.std.proofs.Common.{rules}
use Rattle.ropey_c.proofs.intake.Intake.has_room.Goals as goal

pub returns : goal.returns
returns c = search rules
