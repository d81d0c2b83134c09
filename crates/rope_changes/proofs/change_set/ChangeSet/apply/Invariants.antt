-- The text so far is changed up to `at`, and what follows is changed by the replacements that are
-- left.
use Rattle.std.proofs.Common.{◌≡◌, ◌+◌, ◌++◌, take, drop, length}
use Rattle.ropey.specs.View.{IsRope}
use Rattle.rope_changes.specs.Ops.{run, len_before, len_after}
use Rattle.rope_changes.specs.Change.{ops_of, ops, after}
use Rattle.rope_changes.proofs.change_set.ChangeSet.apply.Given as goal

abbrev pub invariant-loop-edit : goal.invariant-loop-edit
invariant-loop-edit l = record {
  text : run (ops l.self) l.rope.text
      ≡ take l.at l.edited.text ++ run (ops_of l.edits l.self.rest) (drop l.at l.edited.text);
  within : l.at + len_before (ops_of l.edits l.self.rest) ≡ length l.edited.text;
  fits : l.at + len_after (ops_of l.edits l.self.rest) ≡ after l.self;
  breaks : l.edited.breaks ≡ l.rope.breaks;
  kept : IsRope l.edited;
}

abbrev pub decreases-loop-edit : goal.decreases-loop-edit
decreases-loop-edit l = length l.edits
