-- No character before those that are left is above U+00FF.
use Rattle.std.proofs.Common.{◌≡◌, ◌-◌, ◌≤◌, length}
use Rattle.rope_text.specs.Sides.{ahead}
use Rattle.rope_files.specs.Writing.{first_above}
use Rattle.ropey_c.proofs.file_writing.first_unencodable.Given as goal

abbrev pub invariant-loop-c : goal.invariant-loop-c
invariant-loop-c l = record {
  same : first_above 0 l.rope.text ≡ first_above (l.len - l.left) (ahead l.c-iterator);
  left : l.left ≡ length (ahead l.c-iterator);
  within : l.left ≤ l.len;
}

abbrev pub decreases-loop-c : goal.decreases-loop-c
decreases-loop-c l = length (ahead l.c-iterator)
