use Rattle.std.proofs.Common.{rules}
use Rattle.ropey_c.proofs.change_edits.ropey_changes_edits.Goals as goal

pub returns : goal.returns
returns c = search rules
