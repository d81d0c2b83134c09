use Rattle.std.proofs.Common.{rules}
use Rattle.ropey_c.proofs.changes.ropey_changes_apply.Goals as goal

pub returns-clause-changes : goal.returns-clause-changes
returns-clause-changes c = search rules
