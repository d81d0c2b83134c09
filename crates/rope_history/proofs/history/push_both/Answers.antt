use Rattle.std.proofs.Common.{rules}
use Rattle.rope_history.proofs.history.push_both.Goals as goal

pub returns-clause-redo : goal.returns-clause-redo
returns-clause-redo c = search rules
