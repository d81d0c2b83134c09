use Rattle.std.proofs.Common.{rules}
use Rattle.ropey_c.proofs.change_sets.ropey_changes_compose.Goals as goal

pub returns-in-Err : goal.returns-in-Err
returns-in-Err c = search rules

pub returns : goal.returns
returns c = search rules
