use Rattle.std.proofs.Common.{rules}
use Rattle.ropey_c.proofs.counts.counts_of.Goals as goal

pub returns : goal.returns
returns c = search rules
