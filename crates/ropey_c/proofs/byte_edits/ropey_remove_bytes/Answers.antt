use Rattle.std.proofs.Common.{rules}
use Rattle.ropey_c.proofs.byte_edits.ropey_remove_bytes.Goals as goal

pub returns-clause-empty : goal.returns-clause-empty
returns-clause-empty c = search rules
