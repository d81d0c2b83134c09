use Rattle.std.proofs.Common.{subst}
use Rattle.rope_leaf.specs.LeafTree.{IsLeafNode}
use Rattle.rope_tree.specs.Shape.{IsForm}
use Rattle.rope_tree.proofs.FormLaws.{cut_leaf}
use Rattle.rope_tree.proofs.node.Node.cut.Goals as goal

pub invariant_of-self-2 : goal.invariant_of-self-2
invariant_of-self-2 c =
    let old : IsLeafNode c.in-Leaf.leaf.value = subst IsForm c.in-Leaf.is c.self.invariant.form in
    let own : IsLeafNode c.in-Some.leaf.now =
    rw (c.in-Some.ensures.value, c.own_leaf.ensures.same) old in
    record {
      form =
          cut_leaf c.cut.result (λ back. back.value) _ _ _ own c.cut.ensures.cut
          c.cut.ensures.kept c.cut.ensures.err;
    }
