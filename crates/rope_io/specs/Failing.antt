-- Failures of devices, and the errors returned for them.
use Rattle.std.specs.Prelude.{◌≡◌, ℕ, ◌+◌, ◌-◌, ◌^◌, min, ◌==◌, if◌then◌else◌, List, length, Option, None, Some, Result, Ok, Err}
use Rattle.std.specs.IoError.{error_kind}
use Rattle.std.specs.declared.io.Error.{Error}
use Rattle.std.specs.declared.io.ErrorKind.TheVariants.{WriteZero}
use Rattle.rope_io.specs.declared.device.Failure.{Failure}
use Rattle.rope_io.specs.declared.device.Failure.TheVariants.{Returned, TookNone}
use Rattle.rope_io.specs.declared.error.ReadError.{ReadError}
use Rattle.rope_io.specs.declared.error.ReadError.TheVariants.{Read, InvalidData, Rope}

-- the failure of a call with this result: its error
abbrev pub failure_of : {T : Type 0} → Result T Error → Option Failure
failure_of (Ok x) = None
failure_of (Err e) = Some (Returned e)

-- the failure of a write of these bytes with this result: taking none of some bytes is a failure
-- too
abbrev pub write_failure : Result ℕ Error → List ℕ → Option Failure
write_failure (Ok n) bytes =
    if n == 0 then (if length bytes == 0 then None else Some TookNone) else None
write_failure (Err e) bytes = Some (Returned e)

-- the failure of the last read, for a read of a text with this result: the error returned
abbrev pub reader_failure : {R : Type 0} → Result R ReadError → Option Failure
reader_failure (Ok rope) = None
reader_failure (Err (Read e)) = Some (Returned e)
reader_failure (Err InvalidData) = None
reader_failure (Err (Rope e)) = None

-- the number of failures after a call with or without a failure; the count stops at u64::MAX
abbrev pub count_failure : Option Failure → ℕ → ℕ
count_failure None n = n
count_failure (Some failure) n = min (n + 1) (2 ^ 64 - 1)

-- the failure of a device's last call, if any, is the one known, and counts once
abbrev pub IsCounted : Option Failure → Option Failure → ℕ → ℕ → Type 0
IsCounted failure known before after = (known ≡ failure) × (after ≡ count_failure failure before)

-- the result of a write of a text whose last write had this failure, if any: the write's own error,
-- or one of the kind `WriteZero` if the write took none of its bytes
abbrev pub Reports : {T : Type 0} → Result T Error → Option Failure → Type 0
Reports (Ok x) known = known ≡ None
Reports (Err e) None = ⊥
Reports (Err e) (Some (Returned own)) = e ≡ own
Reports (Err e) (Some TookNone) = error_kind e ≡ WriteZero

-- the result of a write of a text reports the failure of its last write, which counts once
abbrev pub IsWriteCounted : {T : Type 0} → Result T Error → Option Failure → ℕ → ℕ → Type 0
IsWriteCounted result known before after = Reports result known
    × (after ≡ count_failure known before)
