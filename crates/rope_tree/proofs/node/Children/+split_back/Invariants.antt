use Rattle.std.proofs.Common.{◌+◌, ◌*◌}
use Rattle.rope_leaf.specs.Tree.{height_of}
use Rattle.rope_tree.proofs.node.Children.+split_back.Given as goal

abbrev pub decreases-split_back : goal.decreases-split_back
decreases-split_back l = 2 * height_of l.self.now + 1

abbrev pub decreases-split_last : goal.decreases-split_last
decreases-split_last l = 2 * height_of l.self.now
