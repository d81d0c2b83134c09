-- The counts of a text, and the set of line breaks by which it was counted.
use Rattle.std.specs.Prelude.{ℕ, ◌*◌, ◌≤◌}
use Rattle.rope_text.specs.declared.line_breaks.LineBreaks.{LineBreaks}
use Rattle.rope_text.specs.declared.text_info.TextInfo.{TextInfo}

pub record Counted : Type 0 where
  pub breaks : LineBreaks
  pub info : TextInfo

-- counts that a text of at most `most` bytes may have: none exceeds its bytes, and a surrogate pair
-- takes four of them
pub record AreWithin (most : ℕ) (info : TextInfo) : Type 0 where
  pub chars : info.chars ≤ most
  pub pairs : 4 * info.utf16_surrogates ≤ most
  pub breaks : info.break_count ≤ most
  pub bytes : info.bytes ≤ most
