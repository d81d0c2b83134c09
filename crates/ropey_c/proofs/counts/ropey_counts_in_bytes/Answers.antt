use Rattle.std.proofs.Common.{refl}
use Rattle.ropey_c.proofs.counts.ropey_counts_in_bytes.Goals as goal

pub returns-in-Err-clause-answer : goal.returns-in-Err-clause-answer
returns-in-Err-clause-answer c =
    rw c.in-Some.ensures.found (rw c.in-Err.ensures.refused (c.status_of.ensures.value, refl))

pub returns-clause-answer : goal.returns-clause-answer
returns-clause-answer c =
    rw c.in-Some.ensures.found (
    let part = c.in-Ok.ensures.ok in
    rw part.0 (refl, rw (part.1.text, part.1.breaks) at c.counts_of.ensures)
    )
