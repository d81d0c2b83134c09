-- The statuses of calls on changes, and the numbers of sides.
use Rattle.std.specs.Prelude.{◌≡◌, ◌≢◌, ℕ, ◌+◌, ◌==◌, ◌^◌, ◌<◌, ◌≤◌, List, length, Option, Some, None, if◌then◌else◌}
use Rattle.std.specs.Str.{IsUtf8, chars}
use Rattle.rope_text.specs.Text.{byte_len}
use Rattle.rope_changes.specs.declared.ChangeError.{ChangeError}
use Rattle.rope_changes.specs.declared.ChangeError.TheVariants.{RangeInvalid, RangeOutOfBounds, OutOfOrder, LengthDiffers, TooLong, OutOfMemory}
use Rattle.rope_changes.specs.declared.Side.{Side}
use Rattle.rope_changes.specs.declared.Side.TheVariants.{Before, After}
use Rattle.rope_changes.specs.Built.{replace_error}
use Rattle.rope_changes.specs.Applied.{inserted_bytes}
use Rattle.rope_changes.specs.Change.{Change, before}
use Rattle.ropey_c.specs.Status.{IsStatus}
use Rattle.ropey_c.specs.declared.status.TheConstants.{OUT_OF_MEMORY, INVALID_UTF8, CHAR_RANGE_INVALID, CHAR_RANGE_OUT_OF_BOUNDS, CHAR_RANGE_OUT_OF_ORDER, LENGTHS_DIFFER, TOO_LONG, BEFORE, AFTER}

-- the status of an error of a change
abbrev pub status_of_change : ChangeError → ℕ
status_of_change (RangeInvalid start end) = CHAR_RANGE_INVALID
status_of_change (RangeOutOfBounds end len) = CHAR_RANGE_OUT_OF_BOUNDS
status_of_change (OutOfOrder start last) = CHAR_RANGE_OUT_OF_ORDER
status_of_change (LengthDiffers expected len) = LENGTHS_DIFFER
status_of_change TooLong = TOO_LONG
status_of_change OutOfMemory = OUT_OF_MEMORY

-- the side that a number stands for
abbrev pub given_side : ℕ → Option Side
given_side number =
    if number == BEFORE then Some Before else if number == AFTER then Some After else None

-- the status of a call that takes memory: that of the error of its arguments; without one the call
-- is done, or out of memory
abbrev pub IsChangeStatus : Option ChangeError → ℕ → Type 0
IsChangeStatus (Some error) status = status ≡ status_of_change error
IsChangeStatus None status = IsStatus None status

-- the status of a replacement; bytes that are not UTF-8 are refused first
abbrev pub IsReplaceStatus : Change → ℕ → ℕ → List ℕ → ℕ → Type 0
IsReplaceStatus c start end bytes status =
    (¬ IsUtf8 bytes → status ≡ INVALID_UTF8)
    × (IsUtf8 bytes → IsChangeStatus (replace_error c start end (chars bytes)) status)

-- the status of a change that is applied to a text
pub record IsApplyStatus (c : Change) (text : List ℕ) (status : ℕ) : Type 0 where
  pub differs : length text ≢ before c → status ≡ LENGTHS_DIFFER
  pub too_long : length text ≡ before c → 2 ^ 63 ≤ byte_len text + inserted_bytes c.edits
      → status ≡ TOO_LONG
  pub memory : length text ≡ before c → byte_len text + inserted_bytes c.edits < 2 ^ 63
      → IsStatus None status

-- the status of a call that makes a change of two values, one of which must have the length that
-- the other is for
pub record IsMadeStatus (expected len status : ℕ) : Type 0 where
  pub differs : len ≢ expected → status ≡ LENGTHS_DIFFER
  pub memory : len ≡ expected → IsStatus None status
