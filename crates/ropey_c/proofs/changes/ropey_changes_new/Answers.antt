use Rattle.std.proofs.Common.{rules}
use Rattle.ropey_c.proofs.changes.ropey_changes_new.Goals as goal

pub returns-clause-ok : goal.returns-clause-ok
returns-clause-ok c = search rules
