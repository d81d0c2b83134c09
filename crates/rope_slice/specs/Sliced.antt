-- Ranges of texts, and slices of contents.
use Rattle.std.specs.Prelude.{◌≡◌, ℕ, List, length, Option, None}
use Rattle.std.specs.List.{slice_range}
use Rattle.rope_text.specs.Content.{Content}
use Rattle.rope_text.specs.Cutting.{clip}
use Rattle.rope_text.specs.Text.{byte_len}
use Rattle.rope_text.specs.Conversions.{byte_to_char}
use Rattle.rope_text.specs.Edit.{range_start, range_end, char_range_error, byte_range_error}

-- a text has the characters of a range: no bound is past its end, and the range's start is not past
-- its own end
abbrev pub HasCharRange : List ℕ → Option ℕ → Option ℕ → Type 0
HasCharRange text start end = char_range_error start end (length text) ≡ None

-- a text has the bytes of a range: no bound is past its end or inside a character, and the range's
-- start is not past its own end
abbrev pub HasByteRange : List ℕ → Option ℕ → Option ℕ → Type 0
HasByteRange text start end = byte_range_error text start end ≡ None

-- a range of characters that ends where it starts
abbrev pub IsEmptyRange : List ℕ → Option ℕ → Option ℕ → Type 0
IsEmptyRange text start end = range_start start ≡ range_end end (length text)

-- the characters from a up to b, with the chunks clipped and the same set of line breaks
pub record IsSlice (whole : Content) (a b : ℕ) (slice : Content) : Type 0 where
  pub text : slice.text ≡ slice_range whole.text a b
  pub chunks : slice.chunks ≡ clip whole.chunks a b
  pub breaks : slice.breaks ≡ whole.breaks

-- the characters of a range, given by its start and its excluded end
abbrev pub IsCharRange : Content → Option ℕ → Option ℕ → Content → Type 0
IsCharRange whole start end slice =
    IsSlice whole (range_start start) (range_end end (length whole.text)) slice

-- the slice of a range of bytes, given by its start and its excluded end
abbrev pub IsByteRange : Content → Option ℕ → Option ℕ → Content → Type 0
IsByteRange whole start end slice =
    IsSlice whole (byte_to_char whole.text (range_start start))
    (byte_to_char whole.text (range_end end (byte_len whole.text))) slice
