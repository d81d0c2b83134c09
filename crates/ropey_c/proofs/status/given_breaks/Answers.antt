use Rattle.std.proofs.Common.{rules}
use Rattle.ropey_c.proofs.status.given_breaks.Goals as goal

pub returns-in-1 : goal.returns-in-1
returns-in-1 c = search rules
