-- Runs of operations of one kind.
use Rattle.std.specs.Prelude.{◌≡◌, ◌≤◌, List, [], length}
use Rattle.std.specs.Str.{chars}
use Rattle.rope_changes.specs.Ops.{Op}
use Rattle.rope_changes.specs.Change.{keeping, inserting, deleting}
use Rattle.rope_changes.specs.declared.run.Run.{Run}
use Rattle.rope_changes.specs.declared.run.Run.TheVariants.{Keep, Insert, Delete, Nothing}

abbrev pub run_ops : Run → List Op
run_ops (Keep n) = keeping n []
run_ops (Insert text n) = inserting (chars text.now) []
run_ops (Delete n) = deleting n []
run_ops Nothing = []

-- its text is counted, and it has one operation at least, if any
abbrev pub IsRun : Run → Type 0
IsRun (Keep n) = 1 ≤ n
IsRun (Insert text n) = (1 ≤ n) × (n ≡ length (chars text.now))
IsRun (Delete n) = 1 ≤ n
IsRun Nothing = Unit {0}
