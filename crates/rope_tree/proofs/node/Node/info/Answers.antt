use Rattle.rope_tree.proofs.FormLaws.{node_tree, node_low}
use Rattle.rope_tree.proofs.node.Node.info.Goals as goal

pub returns-in-Leaf-clause-low : goal.returns-in-Leaf-clause-low
returns-in-Leaf-clause-low c =
    node_low c.self.inside c.args.self.now c.self.invariant c.self.view_is

pub returns-in-Leaf-clause-tree : goal.returns-in-Leaf-clause-tree
returns-in-Leaf-clause-tree c =
    node_tree c.self.inside c.args.self.now c.self.invariant c.self.view_is

pub returns-in-Inner-clause-low : goal.returns-in-Inner-clause-low
returns-in-Inner-clause-low c =
    node_low c.self.inside c.args.self.now c.self.invariant c.self.view_is

pub returns-in-Inner-clause-tree : goal.returns-in-Inner-clause-tree
returns-in-Inner-clause-tree c =
    node_tree c.self.inside c.args.self.now c.self.invariant c.self.view_is
