-- The result of a read of a text.
use Rattle.std.specs.Prelude.{◌≡◌, ℕ, ◌+◌, ◌^◌, ◌<◌, ◌≤◌, Bool, true, false, List, [], ◌∷◌, length, Option, None, Some, Result, Ok, Err, ⊤}
use Rattle.std.specs.Str.{encode_utf8_all}
use Rattle.std.specs.Io.KnownBytes.{Consumes, IsAtEnd}
use Rattle.rope_text.specs.declared.TheConstants.{BUFFER_BYTES}
use Rattle.rope_text.specs.Edit.{size_error, IsRefusal}
use Rattle.rope_text.specs.Read.{text_front, text_rest, IsRefused}
use Rattle.rope_io.specs.declared.error.ReadError.{ReadError}
use Rattle.rope_io.specs.declared.error.ReadError.TheVariants.{Read, InvalidData, Rope}

-- no byte remains, as far as known
abbrev pub has_ended : Option (List ℕ) → Bool
has_ended None = true
has_ended (Some []) = true
has_ended (Some (b ∷ bs)) = false

-- the text at the front of the bytes has at most isize::MAX bytes
abbrev pub Fits : List ℕ → Type 0
Fits bytes = size_error (length (text_front bytes)) ≡ None

module _ {R : Type 0} (text_of : R → List ℕ) where
  -- the result for these bytes given, `left` remaining, and a device that has failed or not. A rope
  -- has the text of all bytes. The device's failure is returned while nothing is refused; bytes are
  -- refused as early as possible, and so is a text that is too long
  abbrev pub Answers : List ℕ → Option (List ℕ) → Bool → Result R ReadError → Type 0
  Answers bytes left failed (Ok rope) = (encode_utf8_all (text_of rope) ≡ bytes)
      × (length (text_rest bytes) ≡ 0) × IsAtEnd left × (failed ≡ false)
  Answers bytes left failed (Err (Read e)) = (length (text_rest bytes) < BUFFER_BYTES) × Fits bytes
      × (failed ≡ true)
  Answers bytes left failed (Err InvalidData) = IsRefused bytes (has_ended left)
      × (length (text_rest bytes) ≤ BUFFER_BYTES) × Fits bytes × (failed ≡ false)
  Answers bytes left failed (Err (Rope e)) = IsRefusal (size_error (length (text_front bytes))) e
      × (length bytes < 2 ^ 63 + BUFFER_BYTES) × (failed ≡ false)

  -- the bytes given, by those that the device had before and has now, decide the result
  abbrev pub Reads : Option (List ℕ) → Option (List ℕ) → Bool → Result R ReadError → Type 0
  Reads before left failed result = (bytes : List ℕ) × Consumes before left bytes
      × Answers bytes left failed result

-- the result is one of the errors: the device failed, the bytes are no text, the text is too long,
-- or out of memory
abbrev pub IsReadFailure : {R : Type 0} → Result R ReadError → Type 0
IsReadFailure (Ok rope) = ⊥
IsReadFailure (Err (Read e)) = ⊤
IsReadFailure (Err InvalidData) = ⊥
IsReadFailure (Err (Rope e)) = ⊥

abbrev pub IsInvalidData : {R : Type 0} → Result R ReadError → Type 0
IsInvalidData (Ok rope) = ⊥
IsInvalidData (Err (Read e)) = ⊥
IsInvalidData (Err InvalidData) = ⊤
IsInvalidData (Err (Rope e)) = ⊥

abbrev pub IsRopeRefusal : {R : Type 0} → Result R ReadError → Type 0
IsRopeRefusal (Ok rope) = ⊥
IsRopeRefusal (Err (Read e)) = ⊥
IsRopeRefusal (Err InvalidData) = ⊥
IsRopeRefusal (Err (Rope e)) = ⊤
