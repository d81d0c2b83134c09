-- The bytes passed are equal.
use Rattle.std.proofs.Common.{◌-◌, ◌≤◌}
use Rattle.rope_slice.specs.Same.{IsSameFrom}
use Rattle.rope_slice.proofs.order.are_same.Given as goal

abbrev pub invariant-loop-at : goal.invariant-loop-at
invariant-loop-at l = IsSameFrom l.left l.right 0 l.at × (l.at ≤ l.size)

abbrev pub decreases-loop-at : goal.decreases-loop-at
decreases-loop-at l = l.size - l.at
