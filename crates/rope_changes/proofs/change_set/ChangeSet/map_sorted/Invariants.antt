-- The indices so far are moved.
use Rattle.std.proofs.Common.{◌≡◌, ◌-◌, length}
use Rattle.rope_changes.specs.Change.{ops}
use Rattle.rope_changes.specs.Moved.{moved}
use Rattle.rope_changes.specs.Passed.{IsPassed, mapped}
use Rattle.rope_changes.proofs.change_set.ChangeSet.map_sorted.Given as goal

abbrev pub invariant-loop-next : goal.invariant-loop-next
invariant-loop-next l = record {
  moved : l.char_indices
      ≡ mapped (moved l.side (ops l.self)) l.next l.initial.char_indices;
  passed : IsPassed l.self l.passed;
}

abbrev pub decreases-loop-next : goal.decreases-loop-next
decreases-loop-next l = length l.char_indices - l.next
