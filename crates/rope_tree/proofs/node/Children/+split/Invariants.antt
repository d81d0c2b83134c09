use Rattle.std.proofs.Common.{◌+◌, ◌*◌, ◌++◌}
use Rattle.rope_leaf.specs.Tree.{height_of}
use Rattle.rope_tree.proofs.node.Children.+split.Given as goal

abbrev pub decreases-split : goal.decreases-split
decreases-split l = 2 * height_of l.self.now + 1

abbrev pub decreases-split_list : goal.decreases-split_list
decreases-split_list l = 2 * height_of (l.self.now ++ l.rest.now)
