use Rattle.std.proofs.Common.{rules}
use Rattle.ropey_c.proofs.handle.Handle.put.Goals as goal

pub returns : goal.returns
returns c = search rules
