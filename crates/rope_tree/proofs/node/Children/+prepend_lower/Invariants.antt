use Rattle.rope_leaf.specs.Tree.{height_of}
use Rattle.rope_tree.proofs.node.Children.+prepend_lower.Given as goal

abbrev pub decreases-prepend_lower : goal.decreases-prepend_lower
decreases-prepend_lower l = height_of l.self.now
