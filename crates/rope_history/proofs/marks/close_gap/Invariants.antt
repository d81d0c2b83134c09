-- The indices before the loop's index are lowered.
use Rattle.std.proofs.Common.{◌≡◌, ◌++◌, take, drop}
use Rattle.std.specs.Prelude.{map}
use Rattle.rope_history.specs.MarkLists.{closed}
use Rattle.rope_history.proofs.marks.close_gap.Given as goal

abbrev pub invariant-loop-index : goal.invariant-loop-index
invariant-loop-index l =
    l.order ≡ map (closed l.gap) (take l.index-index l.fn.order)
    ++ drop l.index-index l.fn.order
