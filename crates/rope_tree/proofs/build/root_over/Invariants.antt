-- The nodes of each level have the leaves of the first level.
use Rattle.std.proofs.Common.{◌≡◌, ◌+◌, ◌≤◌, length}
use Rattle.rope_leaf.specs.Tree.{breaks_of, height_of, leaves_of}
use Rattle.rope_leaf.specs.Siblings.{AreSiblings}
use Rattle.rope_tree.proofs.build.root_over.Given as goal

abbrev pub invariant-loop-level : goal.invariant-loop-level
invariant-loop-level l = record {
  siblings : AreSiblings (breaks_of l.fn.nodes.items) (height_of l.level.items) l.level.items;
  some : 1 ≤ length l.level.items;
  same : leaves_of l.level.items ≡ leaves_of l.fn.nodes.items;
  made : l.maker.made + length l.level.items ≤ l.fn.maker.made + length l.fn.nodes.items;
}

abbrev pub decreases-loop-level : goal.decreases-loop-level
decreases-loop-level l = length l.level.items
