use Rattle.std.proofs.Common.{rules}
use Rattle.ropey_c.proofs.change_status.given_side.Goals as goal

pub returns-in-1 : goal.returns-in-1
returns-in-1 c = search rules
