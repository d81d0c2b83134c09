use Rattle.std.proofs.Common.{rules}
use Rattle.ropey_c.proofs.status.answer.Goals as goal

pub returns-in-Ok : goal.returns-in-Ok
returns-in-Ok c = search rules
