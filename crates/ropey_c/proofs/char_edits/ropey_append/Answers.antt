use Rattle.std.proofs.Common.{rules}
use Rattle.ropey_c.proofs.char_edits.ropey_append.Goals as goal

pub returns-clause-left : goal.returns-clause-left
returns-clause-left c = search rules

pub returns-clause-empty : goal.returns-clause-empty
returns-clause-empty c = search rules
