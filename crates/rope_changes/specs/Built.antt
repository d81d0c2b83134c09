-- Changes that are built from a list of edits.
use Rattle.std.specs.Prelude.{◌≡◌, ◌⊎◌, ℕ, ◌^◌, List, [], ◌∷◌, Option, Some, None, if◌then◌else◌, nat_lt, nat_le}
use Rattle.std.specs.Str.{chars}
use Rattle.rope_changes.specs.Change.{Change, before, last_end, replaced, replaced_len}
use Rattle.rope_changes.specs.declared.error.ChangeError.{ChangeError}
use Rattle.rope_changes.specs.declared.error.ChangeError.TheVariants.{RangeInvalid, RangeOutOfBounds, OutOfOrder, TooLong, OutOfMemory}
use Rattle.rope_changes.specs.declared.edit.Edit.{Edit}

-- the change of a text of `len` characters that changes nothing
abbrev pub unchanged : ℕ → Change
unchanged len = record { edits = []; rest = len }

-- the change with each range replaced in turn
abbrev pub built : Change → List Edit → Change
built c [] = c
built c (e ∷ edits) = built (replaced c e.start e.end (chars e.text.now)) edits

-- why a range can't be replaced, where there is memory
abbrev pub replace_error : Change → ℕ → ℕ → List ℕ → Option ChangeError
replace_error c start end text =
    if nat_lt end start then Some (RangeInvalid start end)
    else if nat_lt (before c) end then Some (RangeOutOfBounds end (before c))
    else if nat_lt start (last_end c) then Some (OutOfOrder start (last_end c))
    else if nat_le (2 ^ 63) (replaced_len c start end text) then Some TooLong
    else None

-- why a call is refused: for the error of its arguments, or else for memory
abbrev pub IsRefusal : Option ChangeError → ChangeError → Type 0
IsRefusal (Some error) e = e ≡ error
IsRefusal None e = e ≡ OutOfMemory

abbrev pub or_next : Option ChangeError → Option ChangeError → Option ChangeError
or_next (Some error) next = Some error
or_next None next = next

-- the error of the first edit that can't be made
abbrev pub first_error : Change → List Edit → Option ChangeError
first_error c [] = None
first_error c (e ∷ edits) =
    or_next (replace_error c e.start e.end (chars e.text.now))
    (first_error (replaced c e.start e.end (chars e.text.now)) edits)

-- one of the edits is refused so, and those before it are made
abbrev pub RefusesOne : Change → List Edit → ChangeError → Type 0
RefusesOne c [] error = ⊥
RefusesOne c (e ∷ edits) error =
    IsRefusal (replace_error c e.start e.end (chars e.text.now)) error
    ⊎ ((replace_error c e.start e.end (chars e.text.now) ≡ None)
    × RefusesOne (replaced c e.start e.end (chars e.text.now)) edits error)
