-- The first bytes of a file, and a source whose first bytes were looked at.
use Rattle.std.specs.Prelude.{◌≡◌, ℕ, ◌<◌, ◌⊎◌, List, length, take, drop, Option, Result, Ok, Err}
use Rattle.std.specs.Io.KnownBytes.{Consumes, IsAtEnd}
use Rattle.std.specs.declared.io.Error.{Error}
use Rattle.rope_files.specs.declared.ahead.Ahead.{Ahead}
use Rattle.rope_files.specs.declared.ahead.Head.{Head}

-- the bytes that were looked at
abbrev pub head_bytes : Head → List ℕ
head_bytes h = take h.len h.bytes

-- those of them that are still to be given, and the source
abbrev pub held_bytes : {S : Type 0} → Ahead S → List ℕ
held_bytes a = drop a.at (head_bytes a.head)

abbrev pub source_of : {S : Type 0} → Ahead S → S
source_of a = a.source

-- what a reading of the first bytes returns: three of them or all, and fewer before a failure
abbrev pub ReadsHead : Option (List ℕ) → Option (List ℕ) → Result Head Error → Type 0
ReadsHead before left (Ok h) = Consumes before left (head_bytes h)
    × ((length (head_bytes h) ≡ 3) ⊎ IsAtEnd left)
ReadsHead before left (Err e) = (bytes : List ℕ) × Consumes before left bytes × (length bytes < 3)
