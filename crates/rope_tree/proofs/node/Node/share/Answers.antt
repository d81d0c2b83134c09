-- A reference to the node has the value of the node.
use Rattle.std.proofs.Common.{◌≡◌, sym, ap, ◌∙◌, subst}
use Rattle.rope_leaf.specs.Tree.{IsTree, tree_over}
use Rattle.rope_tree.specs.Shape.{form_tree}
use Rattle.rope_tree.proofs.FormLaws.{node_tree}
use Rattle.rope_tree.proofs.node.Node.share.Goals.{in-Empty, in-Leaf+in_ok-clone-in-Leaf, in-Inner+in_ok-clone-in-Inner}
use Rattle.rope_tree.proofs.node.Node.share.Goals as goal

pub returns-clause-tree : goal.returns-clause-tree
returns-clause-tree c =
    let own = node_tree c.self.inside c.args.self.now c.self.invariant c.self.view_is in
    let same : form_tree c.match-self.form ≡ c.args.self.now = elim c.match-self.branch [
      | in-Empty w ↦ ap form_tree (w.form-is ∙ sym w.in-Empty.is) ∙ c.self.view_is
      | in-Leaf+in_ok-clone-in-Leaf w ↦ ap form_tree w.form-is
          ∙ (w.in_ok-clone-in-Leaf.ensures.cases
          ∙ (ap form_tree (sym w.in-Leaf.is) ∙ c.self.view_is))
      | in-Inner+in_ok-clone-in-Inner w ↦ ap form_tree w.form-is
          ∙ (ap tree_over w.in_ok-clone-in-Inner.ensures.cases
          ∙ (ap form_tree (sym w.in-Inner.is) ∙ c.self.view_is))
    ] in
    subst IsTree (sym same) own
