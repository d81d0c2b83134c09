use Rattle.std.proofs.Common.{refl, ap, ◌∙◌}
use Rattle.rope_text.specs.LineParts.{part_between}
use Rattle.rope_slice.proofs.PartsBetween.{same_content}
use Rattle.ropey.specs.View.{content}
use Rattle.ropey_c.specs.Slices.{shown_as}
use Rattle.ropey_c.proofs.Bounds.{bounds_are}
use Rattle.ropey_c.proofs.slices.ropey_char_slice.Goals as goal

pub returns-clause-answer : goal.returns-clause-answer
returns-clause-answer c =
    rw c.in-Some.ensures.found (
    let found = bounds_are _ _ _ _ _ c.in-Ok.ensures in
    let part =
    same_content _ (part_between (content c.in-Some.value.now) c.in-Ok.value.0 c.in-Ok.value.1)
    c.slice.ensures.text c.slice.ensures.chunks c.slice.ensures.breaks in
    rw (rw c.len_chars.ensures.value at found.0) (
      refl,
      c.from.ensures
          ∙ ap shown_as (rw (found.1, found.2) at part),
    )
    )
