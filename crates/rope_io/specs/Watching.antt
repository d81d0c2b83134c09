-- The fields of a watched device that clauses read.
use Rattle.std.specs.Prelude.{ℕ, Bool, false, Option, None}
use Rattle.rope_io.specs.declared.device.Failure.{Failure}
use Rattle.rope_io.specs.declared.device.Watched.{Watched}

-- the device
abbrev pub watched_inner : {T : Type 0} → Watched T → T
watched_inner w = w.inner

-- whether the mark is set
abbrev pub watched_failed : {T : Type 0} → Watched T → Bool
watched_failed w = w.failed

-- the failure of the last call
abbrev pub watched_failure : {T : Type 0} → Watched T → Option Failure
watched_failure w = w.log.last

-- the number of failed calls
abbrev pub watched_failures : {T : Type 0} → Watched T → ℕ
watched_failures w = w.log.count

-- the device without its mark
abbrev pub unmarked : {T : Type 0} → Watched T → Watched T
unmarked w = record {
  inner = w.inner;
  failed = false;
  log = record { last = None; count = w.log.count };
}
