use Rattle.std.proofs.Common.{◌+◌, ◌*◌}
use Rattle.rope_leaf.specs.Tree.{height_of}
use Rattle.rope_tree.proofs.node.+pad.Given as goal

abbrev pub decreases-Children::pad_path : goal.decreases-Children::pad_path
decreases-Children::pad_path l = 2 * height_of l.self.now + 1

abbrev pub decreases-Node::pad_path : goal.decreases-Node::pad_path
decreases-Node::pad_path l = 2 * l.self.now.height
