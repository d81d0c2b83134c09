use Rattle.std.proofs.Common.{refl, ap}
use Rattle.ropey_c.proofs.Bounds.{bounds_are}
use Rattle.ropey_c.proofs.slices.ropey_counts_in_chars_with_before.Goals as goal

pub returns-clause-answer : goal.returns-clause-answer
returns-clause-answer c =
    rw c.in-Some.ensures.found (
    let found = bounds_are _ _ _ _ _ c.in-Ok.ensures in
    let part = rw (found.1, found.2) at c.part_at.ensures.part in
    rw (rw c.len_chars.ensures.value at found.0) (
      refl,
      rw (ap (λ x. x.breaks) part, ap (λ x. x.text) part) at c.counts_of.ensures,
      rw found.1 at c.part_at.ensures.before,
    )
    )
