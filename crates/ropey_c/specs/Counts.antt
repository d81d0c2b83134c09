-- Counts and indices of texts, as C sees them.
use Rattle.std.specs.Prelude.{◌≡◌, ℕ, List, length, Option, None, Some}
use Rattle.std.specs.Str.{chars, IsUtf8}
use Rattle.rope_text.specs.declared.error.Error.{Error}
use Rattle.rope_text.specs.declared.line_breaks.LineBreaks.{LineBreaks}
use Rattle.rope_text.specs.Text.{byte_len, utf16_len}
use Rattle.rope_text.specs.Breaks.{break_count}
use Rattle.ropey.specs.View.{RopeView}
use Rattle.ropey_c.specs.Status.{status_of}
use Rattle.ropey_c.specs.declared.status.TheConstants.{OK, NO_ROPE_HELD, INVALID_UTF8, UNKNOWN_BREAK_SET}
use Rattle.ropey_c.specs.declared.counts.Counts.{Counts}

-- how much text there is, in each of the units
pub record IsCounts (breaks : LineBreaks) (text : List ℕ) (counts : Counts) : Type 0 where
  pub bytes : counts.bytes ≡ byte_len text
  pub chars : counts.chars ≡ length text
  pub utf16 : counts.utf16 ≡ utf16_len text
  pub line_breaks : counts.line_breaks ≡ break_count breaks text

-- the counts are written, unless the range has a fault
abbrev pub CountsOf : Option Error → LineBreaks → List ℕ → ℕ → Counts → Counts → Type 0
CountsOf None breaks text status old new = (status ≡ OK) × IsCounts breaks text new
CountsOf (Some e) breaks text status old new = (status ≡ status_of e) × (new ≡ old)

abbrev pub CountsAt : Option RopeView → (RopeView → Option Error) → (RopeView → List ℕ) → ℕ → Counts
    → Counts → Type 0
CountsAt None fault part status old new = (status ≡ NO_ROPE_HELD) × (new ≡ old)
CountsAt (Some rope) fault part status old new =
    CountsOf (fault rope) rope.breaks (part rope) status old new

-- the same of a plain text, with the set of line breaks that a number stands for
abbrev pub CountsText : Option LineBreaks → List ℕ → ℕ → Counts → Counts → Type 0
CountsText None bytes status old new = (status ≡ UNKNOWN_BREAK_SET) × (new ≡ old)
CountsText (Some breaks) bytes status old new =
    (¬ IsUtf8 bytes → (status ≡ INVALID_UTF8) × (new ≡ old))
    × (IsUtf8 bytes → (status ≡ OK) × IsCounts breaks (chars bytes) new)

-- a number about a plain text is written, unless the bytes are none
abbrev pub AnswersText : List ℕ → (List ℕ → ℕ) → ℕ → ℕ → ℕ → Type 0
AnswersText bytes value status old new =
    (¬ IsUtf8 bytes → (status ≡ INVALID_UTF8) × (new ≡ old))
    × (IsUtf8 bytes → (status ≡ OK) × (new ≡ value (chars bytes)))

-- the same by a set of line breaks
abbrev pub AnswersTextWith : Option LineBreaks → List ℕ → (LineBreaks → List ℕ → ℕ) → ℕ → ℕ → ℕ
    → Type 0
AnswersTextWith None bytes value status old new = (status ≡ UNKNOWN_BREAK_SET) × (new ≡ old)
AnswersTextWith (Some breaks) bytes value status old new =
    AnswersText bytes (value breaks) status old new
