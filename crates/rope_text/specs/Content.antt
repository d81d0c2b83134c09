-- The content of a rope or a slice.
use Rattle.std.specs.Prelude.{◌≡◌, ℕ, ◌+◌, ◌-◌, ◌/◌, ◌^◌, ◌<◌, ◌≤◌, true, List, length}
use Rattle.std.specs.Str.{all_scalars}
use Rattle.rope_text.specs.declared.TheConstants.{MIN_CUT_BYTES}
use Rattle.rope_text.specs.declared.line_breaks.LineBreaks.{LineBreaks}
use Rattle.rope_text.specs.Text.{byte_len}
use Rattle.rope_text.specs.Cutting.{IsRopeCutting}

-- a text, its chunks, and its set of line breaks
pub record Content : Type 0 where
  pub text : List ℕ
  pub chunks : List (List ℕ)
  pub breaks : LineBreaks

-- the invariant of every rope: its chunks are a rope cutting of its text, at most one for each 246
-- bytes and one for the rest; the text consists of Unicode scalar values and has at most isize::MAX
-- bytes
pub record IsRope (c : Content) : Type 0 where
  pub cut : IsRopeCutting c.text c.chunks
  pub few : length c.chunks ≤ (byte_len c.text + 245) / 246
  pub scalars : all_scalars c.text ≡ true
  pub fits : byte_len c.text < 2 ^ 63

-- at most one chunk for each 981 bytes, and one for the rest
abbrev pub HasFewChunks : Content → Type 0
HasFewChunks c = length c.chunks ≤ (byte_len c.text + (MIN_CUT_BYTES - 1)) / MIN_CUT_BYTES
