use Rattle.std.proofs.Common.{rules}
use Rattle.ropey_c.proofs.status.number_of.Goals as goal

pub returns-in-CrLf : goal.returns-in-CrLf
returns-in-CrLf c = search rules
