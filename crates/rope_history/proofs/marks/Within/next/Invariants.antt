-- The marks that are left touch the range or were left at first.
use Rattle.std.proofs.Common.{◌≡◌, ◌-◌, ◌<◌, ◌≤◌, length}
use Rattle.std.specs.List.{All}
use Rattle.std.specs.List.Sorted.{IsNonDecreasingBy}
use Rattle.rope_history.specs.Marking.{start_of}
use Rattle.rope_history.specs.MarkLists.{marks_in}
use Rattle.rope_history.specs.MarkViews.{left_of}
use Rattle.rope_history.proofs.marks.Within.next.Given as goal

abbrev pub invariant-loop-self : goal.invariant-loop-self
invariant-loop-self l = record {
  within : l.self-inside.index ≤ length l.self-inside.order.now;
  in_range : All (λ i. i < length l.self-inside.marks.now) l.self-inside.order.now;
  in_order : IsNonDecreasingBy start_of
      (marks_in l.self-inside.marks.now l.self-inside.order.now);
  left : left_of l.self-inside ≡ left_of l.initial.self-inside;
}

abbrev pub decreases-loop-self : goal.decreases-loop-self
decreases-loop-self l = length l.self-inside.order.now - l.self-inside.index
