-- Laws of reading and writing.
use Rattle.std.specs.Prelude.{◌≡◌, ℕ, false, List, [], Option, Some, Result, IsOk, ◌↔◌}
use Rattle.std.specs.Str.{encode_utf8_all}
use Rattle.std.specs.Io.KnownBytes.{Appends}
use Rattle.rope_text.specs.Read.{IsRefused}
use Rattle.rope_io.specs.declared.error.ReadError.{ReadError}
use Rattle.rope_io.specs.Reading.{Answers, has_ended, IsInvalidData, IsRopeRefusal}

-- a text written completely to an empty device equals a text read from all of its bytes
abbrev pub ReadsBack : Type 0
ReadsBack = (written read bytes : List ℕ) → Appends (Some []) (Some bytes) (encode_utf8_all written)
    → encode_utf8_all read ≡ bytes → read ≡ written

-- if the device has not failed and the error is not of size or memory, `InvalidData` is returned
-- exactly if the bytes are refused, and a rope exactly if they aren't
abbrev pub ReadingIsExact : {R : Type 0} → (R → List ℕ) → Type 0
ReadingIsExact {R} text_of = (bytes : List ℕ) (left : Option (List ℕ)) (result : Result R ReadError)
    → Answers text_of bytes left false result → (IsRopeRefusal result → ⊥)
    → (IsInvalidData result ↔ IsRefused bytes (has_ended left))
    × (IsOk result ↔ (IsRefused bytes (has_ended left) → ⊥))
