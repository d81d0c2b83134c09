-- The characters that are left to be added, and those for which there is room.
use Rattle.std.proofs.Common.{◌≡◌, ◌+◌, ◌^◌, length}
use Rattle.rope_changes.specs.Ops.{len_before, len_after}
use Rattle.rope_changes.specs.Normal.{carried}
use Rattle.rope_changes.specs.Change.{ops}
use Rattle.rope_changes.specs.Left.{left}
use Rattle.rope_changes.proofs.rebase.is_too_long.Given as goal

abbrev pub invariant-loop-first : goal.invariant-loop-first
invariant-loop-first l = record {
  room : l.room + 1 + len_after (carried l.side (ops l.own) (ops l.over))
      ≡ 2 ^ 63 + len_after (carried l.side (left l.first) (left l.second));
  meet : len_before (left l.first) ≡ len_before (left l.second);
}

abbrev pub decreases-loop-first : goal.decreases-loop-first
decreases-loop-first l = length (left l.first) + length (left l.second)
