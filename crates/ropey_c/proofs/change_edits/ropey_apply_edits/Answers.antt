use Rattle.std.proofs.Common.{rules}
use Rattle.ropey_c.proofs.change_edits.ropey_apply_edits.Goals as goal

pub returns-clause-changes : goal.returns-clause-changes
returns-clause-changes c = search rules
