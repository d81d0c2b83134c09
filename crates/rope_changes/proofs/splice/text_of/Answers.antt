use Rattle.std.proofs.Common.{rules}
use Rattle.rope_changes.proofs.splice.text_of.Goals as goal

pub returns-in-Ok-clause-ok : goal.returns-in-Ok-clause-ok
returns-in-Ok-clause-ok c = search rules
