use Rattle.std.proofs.Common.{rules}
use Rattle.rope_history.proofs.history.History.checked_inverse.Goals as goal

pub returns-then-len_before-len_chars-clause-change_differs :
    goal.returns-then-len_before-len_chars-clause-change_differs
returns-then-len_before-len_chars-clause-change_differs c = search rules

pub returns-then-is_too_long-clause-too_long : goal.returns-then-is_too_long-clause-too_long
returns-then-is_too_long-clause-too_long c = search rules

pub returns-clause-ok : goal.returns-clause-ok
returns-clause-ok c = search rules
