-- The indices so far are moved.
use Rattle.std.proofs.Common.{◌≡◌, ◌-◌, ◌≤◌, ℕ, List, length}
use Rattle.rope_changes.specs.Change.{ops}
use Rattle.rope_changes.specs.Moved.{moved}
use Rattle.rope_changes.specs.Passed.{mapped}
use Rattle.rope_changes.specs.declared.side.Side.{Side}
use Rattle.rope_changes.proofs.change_set.ChangeSet.map_between.Given as goal

abbrev pub invariant-loop-next : goal.invariant-loop-next
invariant-loop-next l = record {
  moved : (side : Side) (all : List ℕ)
      → l.fn.char_indices ≡ mapped (moved side (ops l.self)) l.from all
      → l.char_indices ≡ mapped (moved side (ops l.self)) l.next all;
  later : l.from ≤ l.next;
  within : l.next ≤ length l.char_indices;
}

abbrev pub decreases-loop-next : goal.decreases-loop-next
decreases-loop-next l = length l.char_indices - l.next
