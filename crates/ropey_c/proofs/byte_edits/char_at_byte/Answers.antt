use Rattle.std.proofs.Common.{rules}
use Rattle.ropey_c.proofs.byte_edits.char_at_byte.Goals as goal

pub returns-clause-ok : goal.returns-clause-ok
returns-clause-ok c = search rules
