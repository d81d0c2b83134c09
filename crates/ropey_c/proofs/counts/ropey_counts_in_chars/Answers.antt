use Rattle.std.proofs.Common.{refl}
use Rattle.ropey_c.proofs.Bounds.{bounds_are}
use Rattle.ropey_c.proofs.counts.ropey_counts_in_chars.Goals as goal

pub returns-clause-answer : goal.returns-clause-answer
returns-clause-answer c =
    rw c.in-Some.ensures.found (
    let found = bounds_are _ _ _ _ _ c.in-Ok.ensures in
    rw (rw c.len_chars.ensures.value at found.0) (
      refl,
      rw (c.slice.ensures.text, c.slice.ensures.breaks, found.1, found.2)
          at c.counts_of.ensures,
    )
    )
