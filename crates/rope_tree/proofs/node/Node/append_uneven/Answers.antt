use Rattle.std.proofs.Common.{◌≡◌, List, ◌++◌, sym, ap, ap₂, subst, ◌∙◌}
use Rattle.std.specs.List.{concat}
use Rattle.rope_text.specs.Dense.{IsDenseAfter, last_bytes}
use Rattle.rope_text.proofs.DenseLaws.{dense-append}
use Rattle.rope_text.proofs.CuttingLaws.{concat-append}
use Rattle.rope_leaf.specs.Leaves.{AreLeaves, IsSeam}
use Rattle.rope_leaf.specs.Tree.{Tree, text, joined, leaves_of}
use Rattle.rope_leaf.proofs.LeafLaws.{leaves-append}
use Rattle.rope_leaf.proofs.TreeLaws.{is_tree_over}
use Rattle.rope_tree.proofs.node.Node.append_uneven.Goals.{In-Some}
use Rattle.rope_tree.proofs.node.Node.append_uneven.Goals as goal

module _ (c : In-Some) where
  abbrev l : List Tree
  l = c.in-Some.left.value

  abbrev r : List Tree
  r = c.in-Some.right.value

  seam : IsSeam (joined l) (joined r)
  seam =
      subst (λ t. IsSeam (joined l) (text t)) c.in-Some.ensures.right
      (subst (λ t. IsSeam (text t) (text c.args.other.now)) c.in-Some.ensures.left c.requires.seam)

  near : IsDenseAfter (last_bytes 492 (leaves_of l)) (leaves_of r)
  near =
      subst (λ t. IsDenseAfter (last_bytes 492 (leaves_of l)) t.leaves) c.in-Some.ensures.right
      (subst (λ t. IsDenseAfter (last_bytes 492 t.leaves) c.args.other.now.leaves)
      c.in-Some.ensures.left c.requires.near)

  all : AreLeaves (leaves_of l ++ leaves_of r)
  all =
      leaves-append (leaves_of l) (leaves_of r) c.in-Some.ensures.first.leaves
      c.in-Some.ensures.second.leaves seam
      (dense-append 492 (leaves_of l) (leaves_of r) c.in-Some.ensures.first.leaves.dense near)

  -- the text of both
  whole : concat (leaves_of l ++ leaves_of r) ≡ text c.args.self.now ++ text c.args.other.now
  whole = concat-append (leaves_of l) (leaves_of r)
      ∙ ap₂ (λ x y. text x ++ text y) (sym c.in-Some.ensures.left) (sym c.in-Some.ensures.right)

pub append_lower-lower-requires-clause-leaves : goal.append_lower-lower-requires-clause-leaves
append_lower-lower-requires-clause-leaves c =
    rw c.as_mut.ensures.value (all (goal.at.append_lower-lower-requires-clause-leaves c).In-Some)

pub returns-in_default-lower-clause-done : goal.returns-in_default-lower-clause-done
returns-in_default-lower-clause-done c = λ _.
    let n = (goal.at.returns-in_default-lower-clause-done c).In-Some in
    ap text c.over.ensures ∙ ap concat (c.in_default-lower.ensures.leaves
    ∙ ap (λ x. leaves_of x ++ leaves_of (r n)) c.as_mut.ensures.value) ∙ whole n

pub returns-in_default-lower-clause-tree : goal.returns-in_default-lower-clause-tree
returns-in_default-lower-clause-tree c =
    rw c.over.ensures (is_tree_over _ _ _ c.append_lower-lower.ensures.children)

pub prepend_lower-lower-requires-clause-leaves : goal.prepend_lower-lower-requires-clause-leaves
prepend_lower-lower-requires-clause-leaves c =
    rw c.as_mut-then-levels-2.ensures.value
    (all (goal.at.prepend_lower-lower-requires-clause-leaves c).In-Some)

pub returns-in_default-lower-2-clause-done : goal.returns-in_default-lower-2-clause-done
returns-in_default-lower-2-clause-done c = λ _.
    let n = (goal.at.returns-in_default-lower-2-clause-done c).In-Some in
    ap text c.over-in_default-lower-2.ensures ∙ ap concat (c.in_default-lower-2.ensures.leaves
    ∙ ap (λ x. leaves_of (l n) ++ leaves_of x) c.as_mut-then-levels-2.ensures.value) ∙ whole n

pub returns-in_default-lower-2-clause-tree : goal.returns-in_default-lower-2-clause-tree
returns-in_default-lower-2-clause-tree c =
    rw c.over-in_default-lower-2.ensures
    (is_tree_over _ _ _ c.prepend_lower-lower.ensures.children)
