use Rattle.ropey_c.proofs.Bounds.{bounds_are}
use Rattle.ropey_c.proofs.copies.ropey_copy_chars.Goals as goal

pub returns-clause-answer : goal.returns-clause-answer
returns-clause-answer c =
    rw c.in-Some.ensures.found (
    let found = bounds_are _ _ _ _ _ c.in-Ok.ensures in
    rw (rw c.len_chars.ensures.value at found.0)
    (rw (c.slice.ensures.text, found.1, found.2) at c.copy.ensures)
    )
