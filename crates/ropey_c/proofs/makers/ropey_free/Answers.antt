use Rattle.std.proofs.Common.{rules}
use Rattle.ropey_c.proofs.makers.ropey_free.Goals as goal

pub returns : goal.returns
returns c = search rules
