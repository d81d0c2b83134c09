-- The marks before the index have moved.
use Rattle.std.proofs.Common.{◌≡◌, ◌++◌, take, drop}
use Rattle.std.specs.Prelude.{map}
use Rattle.rope_changes.specs.Change.{ops}
use Rattle.rope_history.specs.Marking.{moved_mark}
use Rattle.rope_history.proofs.marks.move_all.Given as goal

abbrev pub invariant-loop-mark : goal.invariant-loop-mark
invariant-loop-mark l =
    l.marks ≡ map (moved_mark (ops l.change)) (take l.mark-index l.fn.marks)
    ++ drop l.mark-index l.fn.marks
