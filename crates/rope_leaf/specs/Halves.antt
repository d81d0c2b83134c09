-- A text split into two, for two leaves.
use Rattle.std.specs.Prelude.{◌≡◌, ℕ, ◌+◌, ◌≤◌, false, List, ◌++◌, length}
use Rattle.std.specs.Str.{chars, IsUtf8}
use Rattle.rope_text.specs.declared.TheConstants.{MAX_BYTES, MIN_HALF_BYTES}
use Rattle.rope_text.specs.Cutting.{parts_crlf}

-- the two halves have the bytes of the text; each has at least half a leaf's bytes less one, and
-- room for `room` more; no CR LF is split
pub record AreHalves (room : ℕ) (text front back : List ℕ) : Type 0 where
  pub front_utf8 : IsUtf8 front
  pub back_utf8 : IsUtf8 back
  pub joined : chars front ++ chars back ≡ chars text
  pub apart : parts_crlf (chars front) (chars back) ≡ false
  pub front_least : MIN_HALF_BYTES ≤ length front
  pub back_least : MIN_HALF_BYTES ≤ length back
  pub front_room : length front + room ≤ MAX_BYTES
  pub back_room : length back + room ≤ MAX_BYTES
