use Rattle.rope_leaf.specs.Tree.{height_of}
use Rattle.rope_tree.proofs.node.Children.+append_lower.Given as goal

abbrev pub decreases-append_lower : goal.decreases-append_lower
decreases-append_lower l = height_of l.self.now
