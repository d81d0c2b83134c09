use Rattle.std.proofs.Common.{ap, ◌∙◌}
use Rattle.rope_text.specs.Sides.{at_place}
use Rattle.rope_slice.specs.Slice.{text_of}
use Rattle.rope_slice.proofs.slice.RopeSlice.get_chars_at.Goals as goal

pub returns : goal.returns
returns c =
    let found = c.in_ok-within.ensures in (
      rw c.len_chars.ensures at found.0,
      c.chars_at.ensures
          ∙ ap (at_place (text_of c.args.self.now)) found.1,
    )
