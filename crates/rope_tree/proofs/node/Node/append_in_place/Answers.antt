use Rattle.std.proofs.Common.{◌≡◌, ◌+◌, ◌^◌, ◌<◌, List, [], ◌∷◌, ◌++◌, length, sym, ap, ap₂, subst, ◌∙◌, arith}
use Rattle.std.specs.List.{concat}
use Rattle.std.proofs.lemmas.List.{length-append}
use Rattle.rope_text.specs.Text.{byte_len}
use Rattle.rope_text.specs.Dense.{IsDenseAfter, last_bytes}
use Rattle.rope_leaf.specs.Leaves.{IsSeam}
use Rattle.rope_leaf.specs.Tree.{Tree, text, joined, leaves_of, tree_over, IsTree, AreFamily}
use Rattle.rope_leaf.specs.Siblings.{AreLevel}
use Rattle.rope_leaf.proofs.TreeLaws.{is_tree_over}
use Rattle.rope_tree.proofs.MoveLaws.{AreMovable, movable_left}
use Rattle.rope_tree.proofs.AppendLaws.{AreAppendable, appended_movable, appended_family, appended_text, first_family, second_family, root_movable, root_family, root_leaves}
use Rattle.rope_tree.proofs.node.Node.append_in_place.Goals.{In-Some, After-count-2, After-settle, After-over-2, After-over-3}
use Rattle.rope_tree.proofs.node.Node.append_in_place.Goals as goal

module _ (c : In-Some) where
  abbrev l : List Tree
  l = c.in-Some.left.value

  abbrev r : List Tree
  r = c.in-Some.right.value

  left_is : c.args.self.now ≡ tree_over l
  left_is = c.in-Some.ensures.left

  right_is : c.args.other.now ≡ tree_over r
  right_is = c.in-Some.ensures.right

  appendable : AreAppendable l r
  appendable = record {
    left = c.in-Some.ensures.first;
    right = c.in-Some.ensures.second;
    same_breaks = ap (λ t. t.breaks) (sym right_is) ∙ c.requires.same_breaks
        ∙ ap (λ t. t.breaks) left_is;
    level = omega (
      arith,
      c.requires.level,
      ap (λ t. t.height) left_is,
      ap (λ t. t.height) right_is,
    );
    seam = subst (λ t. IsSeam (joined l) (text t)) right_is
        (subst (λ t. IsSeam (text t) (text c.args.other.now)) left_is c.requires.seam);
    near = subst (λ t. IsDenseAfter (last_bytes 492 (leaves_of l)) t.leaves) right_is
        (subst (λ t. IsDenseAfter (last_bytes 492 t.leaves) c.args.other.now.leaves) left_is
        c.requires.near);
    few = omega (
      arith,
      c.if-info-gt-MAX_NARROW_BYTES.false,
      ap (λ i. i.bytes) c.info.ensures.value,
      ap (λ i. i.bytes) c.info-2.ensures.value,
      ap (λ t. byte_len (text t)) left_is,
      ap (λ t. byte_len (text t)) right_is,
    );
  }

  -- the text of both
  whole : joined (l ++ r) ≡ text c.args.self.now ++ text c.args.other.now
  whole = appended_text l r appendable
      ∙ ap₂ (λ x y. text x ++ text y) (sym left_is) (sym right_is)

-- the number of children of both
module _ (c : After-count-2) where
  lengths : c.count.result + c.count-2.result ≡ length c.in-Some.left.value
      + length c.in-Some.right.value
  lengths =
      omega (
        arith,
        c.count.ensures,
        c.count-2.ensures,
        ap length c.as_ref.ensures,
        ap length c.as_ref-2.ensures,
      )

module _ (c : After-settle) where
  abbrev k : In-Some
  k = (goal.at.After-settle c).In-Some

  same : c.settle.new.self ++ c.settle.new.right ≡ l k ++ r k
  same = c.settle.ensures.same
      ∙ ap₂ (λ x y. x ++ y) c.as_mut-2.ensures.value c.as_mut-3.ensures.value

  many : 24 < length (l k ++ r k)
  many = omega (
    arith,
    length-append (l k) (r k),
    lengths (goal.at.After-settle c).After-count-2,
    c.if-count-le-MAX_CHILDREN.false,
  )

  nodes_family : AreFamily (tree_over c.settle.new.self ∷ tree_over c.settle.new.right ∷ [])
  nodes_family =
      root_family (l k) (r k) (appendable k) c.settle.new.self c.settle.new.right same many
      c.settle.ensures.least c.settle.ensures.most c.settle.ensures.least_right
      c.settle.ensures.most_right

  nodes_movable : AreMovable (tree_over c.settle.new.self ∷ tree_over c.settle.new.right ∷ [])
  nodes_movable =
      root_movable (l k) (r k) (appendable k) c.settle.new.self c.settle.new.right same many
      c.settle.ensures.least c.settle.ensures.most c.settle.ensures.least_right
      c.settle.ensures.most_right

-- the nodes that the root gets, one after the other
module _ (c : After-over-2) where
  abbrev one : List Tree
  one = tree_over c.settle.new.self ∷ []

  first_is : c.as_mut-5.result.now ++ c.over-2.result ∷ [] ≡ one
  first_is = ap₂ (λ x t. x ++ t ∷ []) (c.as_mut-5.ensures.value ∙ c.settle.ensures.none)
      c.over-2.ensures

  first_movable : AreMovable one
  first_movable =
      movable_left one (tree_over c.settle.new.right ∷ [])
      (nodes_movable (goal.at.After-over-2 c).After-settle)

module _ (c : After-over-3) where
  both_are : c.as_mut-6.result.now ++ c.over-3.result ∷ []
      ≡ tree_over c.settle.new.self ∷ tree_over c.settle.new.right ∷ []
  both_are = ap₂ (λ x t. x ++ t ∷ [])
      (c.as_mut-6.ensures.value ∙ c.push.ensures
      ∙ first_is (goal.at.After-over-3 c).After-over-2) c.over-3.ensures

pub take_from-requires-clause-level : goal.take_from-requires-clause-level
take_from-requires-clause-level c =
    let k = (goal.at.take_from-requires-clause-level c).In-Some in
    rw (c.as_mut.ensures.value, c.as_mut-then-count-le-MAX_CHILDREN.ensures.value)
    (appended_movable (l k) (r k) (appendable k)).level

pub take_from-requires-clause-few : goal.take_from-requires-clause-few
take_from-requires-clause-few c =
    let k = (goal.at.take_from-requires-clause-few c).In-Some in
    rw (c.as_mut.ensures.value, c.as_mut-then-count-le-MAX_CHILDREN.ensures.value)
    (appended_movable (l k) (r k) (appendable k)).few

pub over-requires : goal.over-requires
over-requires c =
    let k = (goal.at.over-requires c).In-Some in
    let v = (goal.at.over-requires c).After-count-2 in
    subst AreFamily (sym (c.take_from.ensures.moved
    ∙ ap₂ (λ x y. x ++ y) c.as_mut.ensures.value c.as_mut-then-count-le-MAX_CHILDREN.ensures.value))
    (appended_family (l k) (r k) (appendable k)
    (omega (arith, length-append (l k) (r k), lengths v, c.if-count-le-MAX_CHILDREN.true)))

pub returns-then-count-le-MAX_CHILDREN-clause-done :
    goal.returns-then-count-le-MAX_CHILDREN-clause-done
returns-then-count-le-MAX_CHILDREN-clause-done c =
    let k = (goal.at.returns-then-count-le-MAX_CHILDREN-clause-done c).In-Some in
    λ _. ap text (c.over.ensures ∙ ap tree_over
    (c.take_from.ensures.moved
    ∙ ap₂ (λ x y. x ++ y) c.as_mut.ensures.value
    c.as_mut-then-count-le-MAX_CHILDREN.ensures.value)) ∙ whole k

pub returns-then-count-le-MAX_CHILDREN-clause-tree :
    goal.returns-then-count-le-MAX_CHILDREN-clause-tree
returns-then-count-le-MAX_CHILDREN-clause-tree c =
    let k = (goal.at.returns-then-count-le-MAX_CHILDREN-clause-tree c).In-Some in
    let v = (goal.at.returns-then-count-le-MAX_CHILDREN-clause-tree c).After-count-2 in
    subst IsTree (sym (c.over.ensures ∙ ap tree_over
    (c.take_from.ensures.moved
    ∙ ap₂ (λ x y. x ++ y) c.as_mut.ensures.value
    c.as_mut-then-count-le-MAX_CHILDREN.ensures.value)))
    (is_tree_over _ _ _ (appended_family (l k) (r k) (appendable k)
    (omega (arith, length-append (l k) (r k), lengths v, c.if-count-le-MAX_CHILDREN.true))))

pub settle-requires-clause-level : goal.settle-requires-clause-level
settle-requires-clause-level c =
    let k = (goal.at.settle-requires-clause-level c).In-Some in
    rw (c.as_mut-2.ensures.value, c.as_mut-3.ensures.value)
    (appended_movable (l k) (r k) (appendable k)).level

pub settle-requires-clause-few : goal.settle-requires-clause-few
settle-requires-clause-few c =
    let k = (goal.at.settle-requires-clause-few c).In-Some in
    rw (c.as_mut-2.ensures.value, c.as_mut-3.ensures.value)
    (appended_movable (l k) (r k) (appendable k)).few

pub over-requires-2 : goal.over-requires-2
over-requires-2 c =
    let e = (goal.at.over-requires-2 c).After-settle in
    first_family (l (k e)) (r (k e)) (appendable (k e)) _ _ (same e) (many e)
    c.settle.ensures.least c.settle.ensures.most c.settle.ensures.least_right
    c.settle.ensures.most_right

pub over-requires-3 : goal.over-requires-3
over-requires-3 c =
    let e = (goal.at.over-requires-3 c).After-settle in
    second_family (l (k e)) (r (k e)) (appendable (k e)) _ _ (same e) (many e)
    c.settle.ensures.least c.settle.ensures.most c.settle.ensures.least_right
    c.settle.ensures.most_right

pub push-requires-clause-level : goal.push-requires-clause-level
push-requires-clause-level c =
    let k = (goal.at.push-requires-clause-level c).After-over-2 in
    subst AreLevel (sym (first_is k)) (first_movable k).level

pub push-requires-clause-few : goal.push-requires-clause-few
push-requires-clause-few c =
    let k = (goal.at.push-requires-clause-few c).After-over-2 in
    subst (λ l. byte_len (joined l) < 2 ^ 32) (sym (first_is k)) (first_movable k).few

pub push-requires-2-clause-level : goal.push-requires-2-clause-level
push-requires-2-clause-level c =
    let k = (goal.at.push-requires-2-clause-level c).After-over-3 in
    let e = (goal.at.push-requires-2-clause-level c).After-settle in
    subst AreLevel (sym (both_are k)) (nodes_movable e).level

pub push-requires-2-clause-few : goal.push-requires-2-clause-few
push-requires-2-clause-few c =
    let k = (goal.at.push-requires-2-clause-few c).After-over-3 in
    let e = (goal.at.push-requires-2-clause-few c).After-settle in
    subst (λ l. byte_len (joined l) < 2 ^ 32) (sym (both_are k)) (nodes_movable e).few

pub over-requires-4 : goal.over-requires-4
over-requires-4 c =
    let k = (goal.at.over-requires-4 c).After-over-3 in
    let e = (goal.at.over-requires-4 c).After-settle in
    subst AreFamily (sym (c.push-2.ensures ∙ both_are k)) (nodes_family e)

pub returns-clause-done : goal.returns-clause-done
returns-clause-done c =
    let k = (goal.at.returns-clause-done c).After-over-3 in
    let e = (goal.at.returns-clause-done c).After-settle in
    let i = (goal.at.returns-clause-done c).In-Some in
    λ _. ap text (c.over-4.ensures ∙ ap tree_over (c.push-2.ensures ∙ both_are k))
    ∙ ap concat (root_leaves (l i) (r i) (appendable i) _ _ (same e) (many e)
    c.settle.ensures.least c.settle.ensures.most c.settle.ensures.least_right
    c.settle.ensures.most_right) ∙ whole i

pub returns-clause-tree : goal.returns-clause-tree
returns-clause-tree c =
    let k = (goal.at.returns-clause-tree c).After-over-3 in
    let e = (goal.at.returns-clause-tree c).After-settle in
    subst IsTree (sym (c.over-4.ensures ∙ ap tree_over (c.push-2.ensures ∙ both_are k)))
    (is_tree_over _ _ _ (nodes_family e))
