-- Positions as C sees them.
use Rattle.std.specs.Prelude.{◌≡◌, ℕ, ◌==◌, if◌then◌else◌, Option, Some, None, Result, Ok, Err}
use Rattle.rope_text.specs.declared.error.Error.{Error}
use Rattle.rope_position.specs.declared.Position.{Position}
use Rattle.rope_position.specs.declared.Encoding.{Encoding}
use Rattle.rope_position.specs.declared.Encoding.TheVariants.{Utf8, Utf16, Utf32}
use Rattle.ropey.specs.View.{RopeView}
use Rattle.ropey_c.specs.Status.{status_of}
use Rattle.ropey_c.specs.Answers.{Answers}
use Rattle.ropey_c.specs.declared.status.TheConstants.{OK, NO_ROPE_HELD, UNKNOWN_ENCODING, UTF8, UTF16, UTF32}
use Rattle.ropey_c.specs.declared.positions.Place.{Place}

-- a position is written where there is one; a refusal writes nothing
abbrev pub IsPlace : Result Position Error → ℕ → Place → Place → Type 0
IsPlace (Ok position) status old new = (status ≡ OK) × (new.line ≡ position.line)
    × (new.column ≡ position.column)
IsPlace (Err e) status old new = (status ≡ status_of e) × (new ≡ old)

abbrev pub PlacesAt : Option RopeView → (RopeView → Result Position Error) → ℕ → Place → Place
    → Type 0
PlacesAt None found status old new = (status ≡ NO_ROPE_HELD) × (new ≡ old)
PlacesAt (Some rope) found status old new = IsPlace (found rope) status old new

-- the encoding that a number stands for
abbrev pub given_encoding : ℕ → Option Encoding
given_encoding number =
    if number == UTF8 then Some Utf8
    else if number == UTF16 then Some Utf16
    else if number == UTF32 then Some Utf32
    else None

-- a position, from its two numbers
abbrev pub place_of : ℕ → ℕ → Position
place_of line column = record { line = line; column = column }

-- a position, or a value, in an encoding, if the number that was given stands for one
abbrev pub PlacesIn : Option RopeView → Option Encoding
    → (Encoding → RopeView → Result Position Error) → ℕ → Place → Place → Type 0
PlacesIn None encoding found status old new = (status ≡ NO_ROPE_HELD) × (new ≡ old)
PlacesIn (Some rope) None found status old new = (status ≡ UNKNOWN_ENCODING) × (new ≡ old)
PlacesIn (Some rope) (Some encoding) found status old new =
    IsPlace (found encoding rope) status old new

abbrev pub AnswersIn : Option RopeView → Option Encoding
    → (Encoding → RopeView → Result ℕ Error) → ℕ → ℕ → ℕ → Type 0
AnswersIn None encoding found status old new = (status ≡ NO_ROPE_HELD) × (new ≡ old)
AnswersIn (Some rope) None found status old new = (status ≡ UNKNOWN_ENCODING) × (new ≡ old)
AnswersIn (Some rope) (Some encoding) found status old new =
    Answers (found encoding rope) status old new
