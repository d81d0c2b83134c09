use Rattle.std.proofs.Common.{◌∙◌}
use Rattle.ropey_c.proofs.Bounds.{bounds_are}
use Rattle.ropey_c.proofs.makers.ropey_clone_chars.Goals as goal

pub returns-clause-answer : goal.returns-clause-answer
returns-clause-answer c =
    let found = bounds_are _ _ _ _ _ c.in-Ok.ensures in
    let made = c.in-Ok-from_slice.ensures in
    rw (c.in-Some.ensures.found, rw c.len_chars.ensures.value at found.0) (
      c.keep.ensures.status,
      c.keep.ensures.err,
      (λ ok. rw (c.keep.ensures.ok ok) (
        made.text ∙ rw (found.1, found.2) at c.slice.ensures.text,
        made.breaks ∙ c.slice.ensures.breaks,
        made.kept,
      )),
    )
