-- Edits by byte, and edits that replace: when they are refused, and what they leave.
use Rattle.std.specs.Prelude.{ℕ, ◌+◌, List, length, Option, Some, None, if◌then◌else◌}
use Rattle.rope_text.specs.declared.error.Error.{Error}
use Rattle.rope_text.specs.declared.error.Error.TheVariants.{ByteIndexNotCharBoundary}
use Rattle.rope_text.specs.Text.{byte_len}
use Rattle.rope_text.specs.Conversions.{byte_to_char}
use Rattle.rope_text.specs.Edit.{or_else, byte_index_error, byte_range_error, char_range_error, size_error, is_char_boundary, inserted, removed}

-- a byte past the end, or inside a character
abbrev pub byte_place_error : List ℕ → ℕ → Option Error
byte_place_error text b =
    or_else (byte_index_error b (byte_len text))
    (if is_char_boundary text b then None else Some (ByteIndexNotCharBoundary b))

-- why an insert before a byte is refused, but for memory
abbrev pub byte_insert_error : List ℕ → ℕ → List ℕ → Option Error
byte_insert_error text b new =
    or_else (byte_place_error text b) (size_error (byte_len text + byte_len new))

-- the text with another in the place of the characters from a up to b
abbrev pub replaced : List ℕ → ℕ → ℕ → List ℕ → List ℕ
replaced text a b new = inserted (removed text a b) a new

-- a text that grows too long by what takes the place of the characters from a up to b
abbrev pub replaced_size_error : List ℕ → ℕ → ℕ → List ℕ → Option Error
replaced_size_error text a b new = size_error (byte_len (removed text a b) + byte_len new)

-- why a replacement is refused, but for memory
abbrev pub replace_error : List ℕ → ℕ → ℕ → List ℕ → Option Error
replace_error text a b new =
    or_else (char_range_error (Some a) (Some b) (length text)) (replaced_size_error text a b new)

abbrev pub byte_replace_error : List ℕ → ℕ → ℕ → List ℕ → Option Error
byte_replace_error text a b new =
    or_else (byte_range_error text (Some a) (Some b))
    (replaced_size_error text (byte_to_char text a) (byte_to_char text b) new)
