-- The slice of a range that a text may have or not.
use Rattle.std.specs.Prelude.{ℕ, length, Option}
use Rattle.rope_text.specs.Content.{Content}
use Rattle.rope_text.specs.Edit.{char_range_error, byte_range_error}
use Rattle.rope_slice.specs.declared.slice.RopeSlice.{RopeSlice}
use Rattle.rope_slice.specs.Found.{GivesUnless}
use Rattle.rope_slice.specs.Slice.{content_of}
use Rattle.rope_slice.specs.Sliced.{HasByteRange, IsCharRange, IsByteRange}

-- the slice of a range of characters if the text has that range, else none
abbrev pub GivesChars : Content → Option ℕ → Option ℕ → Option RopeSlice → Type 0
GivesChars whole start end result =
    GivesUnless (char_range_error start end (length whole.text)) result
    (λ slice. IsCharRange whole start end (content_of slice))

-- the slice of a range of bytes if the text has that range, else none
abbrev pub GivesBytes : Content → Option ℕ → Option ℕ → Option RopeSlice → Type 0
GivesBytes whole start end result =
    GivesUnless (byte_range_error whole.text start end) result
    (λ slice. IsByteRange whole start end (content_of slice))

-- the text has the range of bytes, and this is its slice
abbrev pub IsByteSlice : Content → Option ℕ → Option ℕ → RopeSlice → Type 0
IsByteSlice whole start end slice =
    HasByteRange whole.text start end × IsByteRange whole start end (content_of slice)
