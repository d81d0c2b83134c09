-- What is made and what is left of both changes are the rebased change.
use Rattle.std.proofs.Common.{◌≡◌, ◌+◌, ◌++◌, length}
use Rattle.rope_changes.specs.Ops.{len_before}
use Rattle.rope_changes.specs.Normal.{normal_form, carried, rebased}
use Rattle.rope_changes.specs.Change.{ops}
use Rattle.rope_changes.specs.Left.{left}
use Rattle.rope_changes.proofs.change_set.ChangeSet.rebase.Given as goal

abbrev pub invariant-loop-first : goal.invariant-loop-first
invariant-loop-first l = record {
  carried : normal_form (ops l.made ++ carried l.side (left l.first) (left l.second))
      ≡ rebased l.side (ops l.self) (ops l.over);
  meet : len_before (left l.first) ≡ len_before (left l.second);
  normal : normal_form (ops l.made) ≡ ops l.made;
}

abbrev pub decreases-loop-first : goal.decreases-loop-first
decreases-loop-first l = length (left l.first) + length (left l.second)
