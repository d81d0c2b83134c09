use Rattle.std.proofs.Common.{◌≡◌, Some, None, Option, IfSome, IfNone, subst}
use Rattle.rope_leaf.specs.Tree.{Tree}
use Rattle.rope_leaf.specs.LeafTree.{IsLeafNode}
use Rattle.rope_tree.specs.Shape.{IsForm}
use Rattle.rope_tree.proofs.node.Node.split_leaf.Goals.{Joined-branch-2}
use Rattle.rope_tree.proofs.node.Node.split_leaf.Goals as goal

-- the first part of a leaf, or the leaf as it was
part : {A : Type 0} (found : Option A) (old new : Tree) → IsLeafNode old
    → IfSome found (λ back. IsLeafNode new) → IfNone found (new ≡ old) → IsLeafNode new
part (Some back) old new own here kept = here
part None old new own here kept = rw kept own

now : (c : Joined-branch-2) → IsLeafNode c.split.new.self
now c =
    let old : IsLeafNode c.in-Leaf.leaf.value = subst IsForm c.in-Leaf.is c.self.invariant.form in
    let own : IsLeafNode c.in-Some.leaf.now = rw c.in-Some.ensures.value old in
    part c.in_ok-back.field-0 c.in-Some.leaf.now c.split.new.self own
    c.in_ok-back.ensures.own_leaf c.in_ok-back.ensures.kept

pub invariant_of-self-2 : goal.invariant_of-self-2
invariant_of-self-2 c = record { form = now (goal.at.invariant_of-self-2 c).Joined-branch-2 }

pub returns-clause-front_tree : goal.returns-clause-front_tree
returns-clause-front_tree c = (now (goal.at.returns-clause-front_tree c).Joined-branch-2).tree
