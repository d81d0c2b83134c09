use Rattle.std.proofs.Common.{◌≡◌, length, take}
use Rattle.rope_leaf.specs.Tree.{leaves_of}
use Rattle.rope_tree.proofs.lookup.+leaf_count.Given as goal

abbrev pub decreases-leaf_count : goal.decreases-leaf_count
decreases-leaf_count l = l.node.now.height

abbrev pub invariant-loop-child : goal.invariant-loop-child
invariant-loop-child l = l.count ≡ length (leaves_of (take l.child-index l.children))
