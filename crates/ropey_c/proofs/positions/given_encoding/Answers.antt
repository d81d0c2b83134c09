use Rattle.std.proofs.Common.{rules}
use Rattle.ropey_c.proofs.positions.given_encoding.Goals as goal

pub returns-in-2 : goal.returns-in-2
returns-in-2 c = search rules
