use Rattle.std.proofs.Common.{refl}
use Rattle.ropey_c.proofs.copies.ropey_copy_bytes.Goals as goal

pub returns-in-Err-clause-answer : goal.returns-in-Err-clause-answer
returns-in-Err-clause-answer c =
    rw c.in-Some.ensures.found
    (rw c.in-Err.ensures.refused (c.status_of.ensures.value, refl, refl))

pub returns-clause-answer : goal.returns-clause-answer
returns-clause-answer c =
    rw c.in-Some.ensures.found (
    let part = c.in-Ok.ensures.ok in
    rw part.0 (rw part.1.text at c.copy.ensures)
    )
