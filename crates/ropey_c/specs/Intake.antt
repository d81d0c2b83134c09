-- Bytes that come in parts, and the rope that they make.
use Rattle.std.specs.Prelude.{◌≡◌, ◌≢◌, ℕ, ◌+◌, ◌^◌, ◌<◌, ◌≤◌, List, [], ◌++◌, length, take, None, Result, Ok, Err}
use Rattle.std.specs.Str.{chars}
use Rattle.std.specs.Str.Lossy.{utf8_valid_len}
use Rattle.rope_text.specs.declared.line_breaks.LineBreaks.{LineBreaks}
use Rattle.rope_text.specs.Edit.{size_error}
use Rattle.rope_text.specs.Read.{text_front, text_rest}
use Rattle.rope_text.specs.Text.{byte_len}
use Rattle.ropey.specs.Building.{Building}
use Rattle.ropey.specs.View.{RopeView, IsBuilt}
use Rattle.ropey_c.specs.declared.status.TheConstants.{OK, OUT_OF_MEMORY, INVALID_UTF8}
use Rattle.ropey_c.specs.Status.{IsStatus}

-- the text so far, the bytes of a character following it that isn't whole yet, the set of line
-- breaks, and the status of a
-- refusal, or `OK`
pub record Taking : Type 0 where
  pub text : List ℕ
  pub rest : List ℕ
  pub breaks : LineBreaks
  pub refused : ℕ

-- a builder that was given nothing
abbrev pub nothing_taken : LineBreaks → Taking
nothing_taken breaks = record { text = []; rest = []; breaks = breaks; refused = OK }

-- what was given and isn't text yet
abbrev pub pending : Taking → List ℕ → List ℕ
pending old bytes = old.rest ++ bytes

-- bytes follow: the longest front that is text goes following the text, and up to 3 bytes following
-- it wait. Where more are left
-- they are no text, and the place of the first is told. Refusals come in this order: bytes that are
-- no text, size, memory
pub record Takes (old : Taking) (bytes : List ℕ) (status : ℕ) (valid_old valid_new : ℕ)
    (new : Taking) : Type 0 where
  pub earlier : old.refused ≢ OK → (status ≡ old.refused) × (new ≡ old) × (valid_new ≡ valid_old)
  pub faulty : old.refused ≡ OK → 4 ≤ length (text_rest (pending old bytes)) → status ≡ INVALID_UTF8
  pub fine : old.refused ≡ OK → length (text_rest (pending old bytes)) < 4
      → IsStatus (size_error (byte_len old.text + length (text_front (pending old bytes)))) status
  pub place : old.refused ≡ OK → status ≡ INVALID_UTF8
      → valid_new ≡ byte_len old.text + utf8_valid_len (pending old bytes)
  pub kept : status ≢ INVALID_UTF8 → valid_new ≡ valid_old
  pub taken : status ≡ OK → (new.text ≡ old.text ++ chars (text_front (pending old bytes)))
      × (new.rest ≡ text_rest (pending old bytes))
  pub empty : old.refused ≡ OK → length bytes ≡ 0 → (status ≡ OK) × (new ≡ old)
  pub refused : new.refused ≡ status
  pub breaks : new.breaks ≡ old.breaks

-- the rope of what was given, if all of it is text
abbrev pub Finishes : Taking → Result RopeView ℕ → ℕ → ℕ → Type 0
Finishes old (Ok rope) valid_old valid_new = (old.refused ≡ OK) × (old.rest ≡ [])
    × (rope.text ≡ old.text) × IsBuilt old.breaks rope × (valid_new ≡ valid_old)
Finishes old (Err status) valid_old valid_new =
    (old.refused ≢ OK → (status ≡ old.refused) × (valid_new ≡ valid_old))
    × (old.refused ≡ OK → 0 < length old.rest → (status ≡ INVALID_UTF8)
    × (valid_new ≡ byte_len old.text))
    × (old.refused ≡ OK → length old.rest ≡ 0 → (status ≡ OUT_OF_MEMORY) × (valid_new ≡ valid_old))

-- what every intake keeps: where it isn't refused, how long its text is, and that no text was
-- refused; and that the bytes
-- that wait begin with no text
pub record IsIntake (texts : Building) (taken : ℕ) (rest : List ℕ) (rest_len refused : ℕ) : Type 0
  where
    pub taken_is : refused ≡ OK → taken ≡ byte_len texts.text
    pub fits : taken < 2 ^ 63
    pub short : rest_len ≤ 3
    pub no_text : utf8_valid_len (take rest_len rest) ≡ 0
    pub sound : refused ≡ OK → texts.failed ≡ None
