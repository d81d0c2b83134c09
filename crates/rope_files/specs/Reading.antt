-- What a reading of a file returns.
use Rattle.std.specs.Prelude.{◌≡◌, ℕ, ◌+◌, ◌-◌, ◌^◌, ◌<◌, ◌≤◌, ◌⊎◌, min, Bool, true, false, List, ◌++◌, length, nat_eq, Option, None, Some, Result, Ok, Err, ⊤}
use Rattle.std.specs.Io.KnownBytes.{Consumes, IsAtEnd, prepend_known}
use Rattle.std.specs.List.{starts_with}
use Rattle.std.specs.Str.{all_scalars}
use Rattle.rope_text.specs.declared.TheConstants.{BUFFER_BYTES}
use Rattle.rope_text.specs.Edit.{size_error, IsRefusal}
use Rattle.rope_text.specs.Read.{text_rest, IsRefused}
use Rattle.rope_text.specs.Text.{byte_len}
use Rattle.rope_io.specs.Reading.{has_ended}
use Rattle.rope_io.specs.declared.device.Failure.{Failure}
use Rattle.rope_io.specs.declared.device.Failure.TheVariants.{Returned}
use Rattle.rope_files.specs.Encodings.{mark_of, marked_encoding, encode_unmarked, layout_of}
use Rattle.rope_files.specs.Layouts.{IsPart, IsUnpaired, EndsHalf, EndsUnpaired}
use Rattle.rope_files.specs.declared.encoding.Encoding.{Encoding}
use Rattle.rope_files.specs.declared.error.ReadAnyError.{ReadAnyError}
use Rattle.rope_files.specs.declared.error.ReadAnyError.TheVariants.{Read, NoMark, InvalidUtf8, UnpairedSurrogate, HalfCodeUnit, Rope}
use Rattle.rope_files.specs.declared.layout.Layout.{Layout}
use Rattle.ropey.specs.View.{RopeView}

-- the encoding of a file that has these bytes, where they are known: the declared one, or else the
-- one that its mark says
abbrev pub IsEncodingOf : Option Encoding → Option (List ℕ) → Encoding → Type 0
IsEncodingOf (Some declared) known encoding = encoding ≡ declared
IsEncodingOf None (Some bytes) encoding = encoding ≡ marked_encoding bytes
IsEncodingOf None None encoding = ⊤

-- how the last read failed where a reading returned this: with the error that is returned
abbrev pub any_failure : {R : Type 0} → Result R ReadAnyError → Option Failure
any_failure (Ok r) = None
any_failure (Err (Read e)) = Some (Returned e)
any_failure (Err NoMark) = None
any_failure (Err InvalidUtf8) = None
any_failure (Err (UnpairedSurrogate at)) = None
any_failure (Err (HalfCodeUnit at)) = None
any_failure (Err (Rope e)) = None

-- a failure that is returned is the device's last one
abbrev pub FailedAs : {R : Type 0} → Result R ReadAnyError → Option Failure → Type 0
FailedAs (Ok r) known = ⊤
FailedAs (Err (Read e)) known = known ≡ Some (Returned e)
FailedAs (Err NoMark) known = ⊤
FailedAs (Err InvalidUtf8) known = ⊤
FailedAs (Err (UnpairedSurrogate at)) known = ⊤
FailedAs (Err (HalfCodeUnit at)) known = ⊤
FailedAs (Err (Rope e)) known = ⊤

-- what is left of the bytes once as many characters as possible were read may still become one
abbrev pub IsOpen : Option Layout → List ℕ → Type 0
IsOpen None rest = length (text_rest rest) < BUFFER_BYTES
IsOpen (Some layout) rest = (length rest ≡ 0) ⊎ IsPart layout rest

-- the bytes are those of a text, which `spell` gives, and some more; and where these come in the
-- file, after `mark` bytes of its mark
module _ (spell : List ℕ → List ℕ) (mark : ℕ) (bytes : List ℕ) where
  pub record Follow (text rest : List ℕ) : Type 0 where
    pub whole : bytes ≡ spell text ++ rest
    pub scalars : all_scalars text ≡ true

  abbrev pub IsOffset : List ℕ → ℕ → Type 0
  IsOffset text at = at ≡ min (mark + length (spell text)) (2 ^ 64 - 1)

-- what is returned where these bytes were given after the mark, `left` are left, and the device has
-- failed or not
module _ {R : Type 0} (text_of : R → List ℕ) (spell : List ℕ → List ℕ) (layout : Option Layout)
    (mark : ℕ) where
  abbrev pub Answers : List ℕ → Option (List ℕ) → Bool → Result R ReadAnyError → Type 0
  Answers bytes left failed (Ok r) = (failed ≡ false) × (bytes ≡ spell (text_of r)) × IsAtEnd left
  Answers bytes left failed (Err (Read e)) = (failed ≡ true) × (text rest : List ℕ)
      × Follow spell mark bytes text rest × IsOpen layout rest
  Answers bytes left failed (Err NoMark) = ⊥
  Answers bytes left failed (Err InvalidUtf8) = (failed ≡ false) × (layout ≡ None)
      × IsRefused bytes (has_ended left)
  Answers bytes left failed (Err (UnpairedSurrogate at)) =
      (failed ≡ false) × (text rest : List ℕ) × Follow spell mark bytes text rest
      × IsOffset spell mark bytes text at
      × (l : Layout) × (layout ≡ Some l)
      × (IsUnpaired l rest ⊎ (EndsUnpaired l rest × IsAtEnd left))
  Answers bytes left failed (Err (HalfCodeUnit at)) =
      (failed ≡ false) × (text rest : List ℕ) × Follow spell mark bytes text rest
      × IsOffset spell mark bytes text at
      × (l : Layout) × (layout ≡ Some l) × EndsHalf l rest × IsAtEnd left
  Answers bytes left failed (Err (Rope e)) = (failed ≡ false) × (text rest : List ℕ)
      × Follow spell mark bytes text rest × IsRefusal (size_error (byte_len text)) e

-- what is returned where the first bytes were given and no more were asked for: the device failed
-- before there were three, or they don't begin with the mark
abbrev pub HeadAnswers : {R : Type 0} → Encoding → List ℕ → Option (List ℕ) → Bool
    → Result R ReadAnyError → Type 0
HeadAnswers encoding bytes left failed (Ok r) = ⊥
HeadAnswers encoding bytes left failed (Err (Read e)) = (failed ≡ true) × (length bytes < 3)
HeadAnswers encoding bytes left failed (Err NoMark) = (failed ≡ false)
    × (starts_with nat_eq bytes (mark_of encoding) ≡ false) × ((length bytes ≡ 3) ⊎ IsAtEnd left)
HeadAnswers encoding bytes left failed (Err InvalidUtf8) = ⊥
HeadAnswers encoding bytes left failed (Err (UnpairedSurrogate at)) = ⊥
HeadAnswers encoding bytes left failed (Err (HalfCodeUnit at)) = ⊥
HeadAnswers encoding bytes left failed (Err (Rope e)) = ⊥

-- some bytes were given, by what the device had to give before and has now, and they decide
abbrev pub Gives : Option (List ℕ) → Option (List ℕ) → (List ℕ → Type 0) → Type 0
Gives before left Decide = (bytes : List ℕ) × Consumes before left bytes × Decide bytes

-- the text of a rope that was read, and the encoding beside it
abbrev pub text_read : RopeView × Encoding → List ℕ
text_read file = file.0.text

-- the encoding that is returned is this one
abbrev pub ReturnsEncoding : Encoding → Result (RopeView × Encoding) ReadAnyError → Type 0
ReturnsEncoding encoding (Ok file) = file.1 ≡ encoding
ReturnsEncoding encoding (Err e) = ⊤

-- the same result, with the encoding beside a rope
abbrev pub ReadsBeside : Result RopeView ReadAnyError → Encoding
    → Result (RopeView × Encoding) ReadAnyError → Type 0
ReadsBeside (Ok rope) encoding (Ok file) = (file.0 ≡ rope) × (file.1 ≡ encoding)
ReadsBeside (Ok rope) encoding (Err e) = ⊥
ReadsBeside (Err e) encoding (Ok file) = ⊥
ReadsBeside (Err e) encoding (Err same) = same ≡ e

module _ (text_of : RopeView × Encoding → List ℕ) where
  -- a file is read: its first bytes decide alone, or what follows the mark. Up to three more bytes
  -- may have been looked at, and lost
  abbrev pub ReadsAny : Option Encoding → Option (List ℕ) → Option (List ℕ) → Bool
      → Result (RopeView × Encoding) ReadAnyError → Type 0
  ReadsAny declared before left failed result = (encoding : Encoding)
      × IsEncodingOf declared before encoding × ReturnsEncoding encoding result
      × (Gives before left (λ bytes. HeadAnswers encoding bytes left failed result)
      ⊎ ((held : List ℕ) × (length held ≤ 3)
      × Gives before left (λ all. (bytes : List ℕ) × (all ≡ mark_of encoding ++ (bytes ++ held))
      × Answers text_of (encode_unmarked encoding) (layout_of encoding)
      (length (mark_of encoding)) bytes (prepend_known held left) failed result)))

-- where bytes are known, they are these
abbrev pub AreBytes : Option (List ℕ) → List ℕ → Type 0
AreBytes None bytes = ⊤
AreBytes (Some known) bytes = known ≡ bytes

-- the result is that the device failed
abbrev pub IsReadFailure : {R : Type 0} → Result R ReadAnyError → Type 0
IsReadFailure (Ok r) = ⊥
IsReadFailure (Err (Read e)) = ⊤
IsReadFailure (Err NoMark) = ⊥
IsReadFailure (Err InvalidUtf8) = ⊥
IsReadFailure (Err (UnpairedSurrogate at)) = ⊥
IsReadFailure (Err (HalfCodeUnit at)) = ⊥
IsReadFailure (Err (Rope e)) = ⊥
