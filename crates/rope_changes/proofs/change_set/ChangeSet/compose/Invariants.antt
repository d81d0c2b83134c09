-- What is made and what is left of both changes are their composition.
use Rattle.std.proofs.Common.{◌≡◌, ◌+◌, ◌++◌, length}
use Rattle.rope_changes.specs.Ops.{len_before, len_after}
use Rattle.rope_changes.specs.Combined.{compose}
use Rattle.rope_changes.specs.Normal.{normal_form, composed}
use Rattle.rope_changes.specs.Change.{ops}
use Rattle.rope_changes.specs.Left.{left}
use Rattle.rope_changes.proofs.change_set.ChangeSet.compose.Given as goal

abbrev pub invariant-loop-first : goal.invariant-loop-first
invariant-loop-first l = record {
  composed : normal_form (ops l.made ++ compose (left l.first) (left l.second))
      ≡ composed (ops l.self) (ops l.later);
  meet : len_after (left l.first) ≡ len_before (left l.second);
  normal : normal_form (ops l.made) ≡ ops l.made;
}

abbrev pub decreases-loop-first : goal.decreases-loop-first
decreases-loop-first l = length (left l.first) + length (left l.second)
