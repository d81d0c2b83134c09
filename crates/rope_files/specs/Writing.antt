-- What a writing of a file returns and leaves.
use Rattle.std.specs.Prelude.{◌≡◌, ℕ, List, ◌++◌, nat_lt, ⊤, Option, None, Some, Result, Ok, Err}
use Rattle.std.specs.Io.KnownBytes.{Appends}
use Rattle.std.specs.List.{position_from}
use Rattle.rope_io.specs.Failing.{Reports}
use Rattle.rope_io.specs.declared.device.Failure.{Failure}
use Rattle.rope_files.specs.Encodings.{layout_of}
use Rattle.rope_files.specs.declared.encoding.Encoding.{Encoding}
use Rattle.rope_files.specs.declared.error.WriteAsError.{WriteAsError}
use Rattle.rope_files.specs.declared.error.WriteAsError.TheVariants.{Unencodable, Write}
use Rattle.rope_files.specs.declared.layout.Layout.{Layout}
use Rattle.rope_files.specs.declared.layout.Layout.TheVariants.{Bytes, CodeUnits}

-- the first character above U+00FF, by its index from i on
abbrev pub first_above : ℕ → List ℕ → Option ℕ
first_above i text = position_from (λ c. nat_lt 0xFF c) i text

-- the index of the first character that the encoding can't have: in Latin-1 those above U+00FF
abbrev pub unencodable_in : Option Layout → List ℕ → Option ℕ
unencodable_in None text = None
unencodable_in (Some Bytes) text = first_above 0 text
unencodable_in (Some (CodeUnits order)) text = None

abbrev pub unencodable : Encoding → List ℕ → Option ℕ
unencodable encoding text = unencodable_in (layout_of encoding) text

-- where a character can't be had, its index is returned, and nothing was done that `Untouched`
-- doesn't say; and nowhere else
abbrev pub IsRefusedWrite : Option ℕ → Type 0 → Result Unit WriteAsError → Type 0
IsRefusedWrite None Untouched (Ok u) = ⊤
IsRefusedWrite None Untouched (Err (Unencodable i)) = ⊥
IsRefusedWrite None Untouched (Err (Write e)) = ⊤
IsRefusedWrite (Some first) Untouched (Ok u) = ⊥
IsRefusedWrite (Some first) Untouched (Err (Unencodable i)) = (i ≡ first) × Untouched
IsRefusedWrite (Some first) Untouched (Err (Write e)) = ⊥

-- the writer failed
abbrev pub IsWriteFailure : {R : Type 0} → Result R WriteAsError → Type 0
IsWriteFailure (Ok r) = ⊥
IsWriteFailure (Err (Unencodable i)) = ⊥
IsWriteFailure (Err (Write e)) = ⊤

-- a writing reports how its last write failed, if one did, and a failure counts once
abbrev pub ReportsWrite : {R : Type 0} → Result R WriteAsError → Option Failure → Type 0
ReportsWrite (Ok r) known = known ≡ None
ReportsWrite (Err (Unencodable i)) known = known ≡ None
ReportsWrite (Err (Write e)) known = Reports {T = Unit} (Err e) known

-- the front of what was gathered was appended, and the rest is kept
pub record Sends (old new : Option (List ℕ)) (gathered kept : List ℕ) : Type 0 where
  pub sent : List ℕ
  pub whole : gathered ≡ sent ++ kept
  pub appended : Appends old new sent
