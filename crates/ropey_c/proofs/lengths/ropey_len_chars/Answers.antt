use Rattle.std.proofs.Common.{rules}
use Rattle.ropey_c.proofs.lengths.ropey_len_chars.Goals as goal

pub returns-clause-len : goal.returns-clause-len
returns-clause-len c = search rules
