use Rattle.std.proofs.Common.{rules}
use Rattle.ropey_c.proofs.change_sets.ropey_changes_map.Goals as goal

pub returns : goal.returns
returns c = search rules

pub returns-then-char_idx-len_before : goal.returns-then-char_idx-len_before
returns-then-char_idx-len_before c = search rules
