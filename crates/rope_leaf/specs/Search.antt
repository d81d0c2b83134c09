-- The unit of a search.
use Rattle.std.specs.Prelude.{ℕ, ◌+◌, ◌<◌, ◌≤◌, ◌^◌}
use Rattle.rope_text.specs.declared.text_info.TextInfo.{TextInfo}
use Rattle.rope_leaf.specs.declared.search.Unit.{Unit}
use Rattle.rope_leaf.specs.declared.search.Unit.TheVariants.{Byte, Char, CodeUnit, LineBreak}

-- the count in a unit
abbrev pub count_of : Unit → TextInfo → ℕ
count_of Byte info = info.bytes
count_of Char info = info.chars
count_of CodeUnit info = info.chars + info.utf16_surrogates
count_of LineBreak info = info.break_count

-- counts within the bounds of a rope's text
pub record IsSmall (info : TextInfo) : Type 0 where
  pub bytes : info.bytes < 2 ^ 63
  pub chars : info.chars ≤ info.bytes
  pub pairs : info.utf16_surrogates ≤ info.chars
  pub breaks : info.break_count ≤ info.chars
