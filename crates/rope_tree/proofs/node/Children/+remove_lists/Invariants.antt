use Rattle.std.proofs.Common.{◌+◌, ◌*◌}
use Rattle.rope_leaf.specs.Tree.{height_of}
use Rattle.rope_tree.proofs.node.Children.+remove_lists.Given as goal

abbrev pub decreases-remove_lists : goal.decreases-remove_lists
decreases-remove_lists l = 3 * height_of l.self.now + 2

abbrev pub decreases-remove_up_to_last : goal.decreases-remove_up_to_last
decreases-remove_up_to_last l = 3 * height_of l.self.now + 1

abbrev pub decreases-remove_in_last : goal.decreases-remove_in_last
decreases-remove_in_last l = 3 * height_of l.self.now
