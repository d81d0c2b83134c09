-- What is made, and what the replacements that are left make of the rest of the text.
use Rattle.std.proofs.Common.{◌≡◌, ◌+◌, ◌++◌, drop, length}
use Rattle.rope_changes.specs.Ops.{len_before}
use Rattle.rope_changes.specs.Change.{ops_of}
use Rattle.rope_changes.specs.Inverted.{inverted_edits}
use Rattle.rope_changes.proofs.change_set.ChangeSet.invert.Given as goal

abbrev pub invariant-loop-edit : goal.invariant-loop-edit
invariant-loop-edit l = record {
  made : inverted_edits l.self.edits l.rope.text
      ≡ l.inverse ++ inverted_edits l.edits (drop l.at l.rope.text);
  within : l.at + len_before (ops_of l.edits l.self.rest) ≡ length l.rope.text;
}

abbrev pub decreases-loop-edit : goal.decreases-loop-edit
decreases-loop-edit l = length l.edits
