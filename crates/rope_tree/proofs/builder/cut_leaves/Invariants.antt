-- The leaves so far are a front of the text, each with at least 981 bytes, and the rest is not
-- empty.
use Rattle.std.proofs.Common.{◌+◌, ◌*◌, ◌<◌, ◌≤◌, ◌++◌, length}
use denote.Text.{Utf8}
use denote.Shadow.{shadow}
use Rattle.std.specs.Str.{chars}
use Rattle.rope_text.specs.Text.{byte_len}
use Rattle.rope_leaf.specs.Tree.{joined, leaves_of}
use Rattle.rope_tree.specs.Fronts.{AreFrontNodes}
use Rattle.rope_tree.proofs.builder.cut_leaves.Given as goal

abbrev pub invariant-loop-left : goal.invariant-loop-left
invariant-loop-left l = record {
  utf8 : shadow (Utf8 l.left);
  within : length l.left ≤ length l.fn.text;
  some : 0 < byte_len l.rest + length l.left;
  nodes : AreFrontNodes l.fn.breaks (joined l.fn.leaves.items ++ (l.fn.rest ++ chars l.fn.text))
      l.leaves.items (l.rest ++ chars l.left);
  long : 981 * length (leaves_of l.leaves.items) + byte_len l.rest + length l.left ≤ 981 * length
      (leaves_of l.fn.leaves.items) + byte_len l.fn.rest + length l.fn.text;
}

abbrev pub decreases-loop-left : goal.decreases-loop-left
decreases-loop-left l = byte_len l.rest + length l.left
