use Rattle.std.proofs.Common.{rules}
use Rattle.ropey_c.proofs.copies.copy.Goals as goal

pub returns-then-len-buffer : goal.returns-then-len-buffer
returns-then-len-buffer c = search rules
