-- Texts of leaves, and texts to insert.
use Rattle.std.specs.Prelude.{◌≡◌, ◌≤◌, true, length}
use Rattle.std.specs.Str.{chars, is_utf8}
use Rattle.rope_text.specs.declared.TheConstants.{MAX_BYTES}
use Rattle.rope_leaf.specs.declared.TheConstants.{MAX_MEDIUM_BYTES}
use Rattle.rope_leaf.specs.declared.short_text.ShortText.TheInside.{Inside}
use Rattle.rope_leaf.specs.declared.short_text.MediumText.TheInside as medium

-- the number of characters is known, or the number kept exceeds the number of bytes
pub record IsShort (s : Inside) : Type 0 where
  pub utf8 : is_utf8 s.text.now ≡ true
  pub fits : length s.text.now ≤ MAX_BYTES
  pub counted : s.char_count ≤ length s.text.now → s.char_count ≡ length (chars s.text.now)

-- at most `MAX_MEDIUM_BYTES` bytes
pub record IsMedium (s : medium.Inside) : Type 0 where
  pub utf8 : is_utf8 s.text.now ≡ true
  pub fits : length s.text.now ≤ MAX_MEDIUM_BYTES
