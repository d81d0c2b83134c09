use Rattle.std.proofs.Common.{rules}
use Rattle.ropey_c.proofs.changes.ropey_changes_len_before.Goals as goal

pub returns : goal.returns
returns c = search rules
