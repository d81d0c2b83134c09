-- The marks from the position on start after `start`.
use Rattle.std.proofs.Common.{ℕ, ◌<◌, ◌≤◌, length, get_or}
use Rattle.rope_history.specs.declared.marks.Mark.{Mark}
use Rattle.rope_history.specs.MarkLists.{marks_in}
use Rattle.rope_history.proofs.marks.position_after.Given as goal

abbrev pub invariant-loop-position : goal.invariant-loop-position
invariant-loop-position l = record {
  within : l.position ≤ length l.order;
  after : (k : ℕ) (d : Mark) → l.position ≤ k → k < length l.order
      → l.start ≤ (get_or (marks_in l.marks l.order) k d).start;
}

abbrev pub decreases-loop-position : goal.decreases-loop-position
decreases-loop-position l = l.position
