use Rattle.std.proofs.Common.{rules}
use Rattle.ropey_c.proofs.char_edits.ropey_remove.Goals as goal

pub returns-clause-changes : goal.returns-clause-changes
returns-clause-changes c = search rules
