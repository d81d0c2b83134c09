-- The leaves so far have a front of the text, each with at least 981 bytes.
use Rattle.std.proofs.Common.{◌+◌, ◌*◌, ◌<◌, ◌≤◌, length}
use denote.Text.{Utf8}
use denote.Shadow.{shadow}
use Rattle.std.specs.Str.{chars}
use Rattle.rope_leaf.specs.Tree.{leaves_of}
use Rattle.rope_tree.specs.Fronts.{AreFrontNodes}
use Rattle.rope_tree.proofs.build.build.Given as goal

abbrev pub invariant-loop-rest : goal.invariant-loop-rest
invariant-loop-rest l = record {
  utf8 : shadow (Utf8 l.rest);
  some : 0 < length l.rest;
  nodes : AreFrontNodes l.fn.breaks (chars l.fn.whole) l.leaves.items (chars l.rest);
  long : 981 * length (leaves_of l.leaves.items) + length l.rest ≤ length l.fn.whole;
  made : l.maker.made ≤ l.fn.maker.made + length l.leaves.items;
}

abbrev pub decreases-loop-rest : goal.decreases-loop-rest
decreases-loop-rest l = length l.rest
