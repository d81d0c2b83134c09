use Rattle.std.proofs.Common.{◌+◌, ◌*◌}
use Rattle.rope_leaf.specs.Tree.{height_of}
use Rattle.rope_tree.proofs.node.Children.+split_front.Given as goal

abbrev pub decreases-split_front : goal.decreases-split_front
decreases-split_front l = 2 * height_of l.self.now + 1

abbrev pub decreases-split_first : goal.decreases-split_first
decreases-split_first l = 2 * height_of l.self.now
