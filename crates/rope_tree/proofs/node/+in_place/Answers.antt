use Rattle.std.proofs.Common.{◌≡◌, ℕ, true, [], ◌∷◌, get_or, ap, sym, subst, refl, ◌∙◌, arith}
use Rattle.std.proofs.lemmas.Result.{IfOk-weaker}
use Rattle.rope_text.specs.Edit.{inserted}
use Rattle.rope_leaf.specs.LeafTree.{IsLeafNode}
use Rattle.rope_tree.specs.Shape.{IsForm, IsNode}
use Rattle.rope_tree.specs.Falls.{tallest_below}
use Rattle.rope_leaf.specs.Tree.{text, joined, breaks_of, height_of, tree_over, IsTree}
use Rattle.rope_text.specs.TextInfo.{info_of}
use Rattle.rope_leaf.specs.Change.{IsChange, no_counts}
use Rattle.rope_leaf.specs.Insert.{TakesShort, MayInsert, IsInserted}
use Rattle.rope_leaf.proofs.NodeLaws.{small_totals}
use Rattle.rope_tree.proofs.ListedLaws.{tallest_above}
use Rattle.rope_tree.proofs.FormLaws.{inner_of, inner_seen, leaf_seen, node_tree, grown_leaf, by_answer, by_outcome, not_tried, tried_in, still_children, grown_children, grown_node}
use Rattle.rope_tree.proofs.ChildLaws.{if_idle, Finds, found_at, read, child_fits, may, change_narrow, fields_changed, all_changed, list_changed}
use Rattle.rope_tree.proofs.KeptLaws.{unset, same_seen, same_listed, refused, right_within}
use Rattle.rope_tree.proofs.node.+in_place.Goals.{Children::insert_in_place-After-index-self-place-2, Node::insert_in_place-Joined-self, Node::insert_in_place-in-Empty, Node::insert_in_place-in-Leaf+in_ok-own_leaf-in-Leaf+in-Some, Node::insert_in_place-in-Leaf+in_ok-own_leaf-in-Leaf+in-None, Node::insert_in_place-in-Inner+in_ok-own_children-in-Inner+in-Some-get_mut, Node::insert_in_place-in-Inner+in_ok-own_children-in-Inner+in-None-get_mut}
use Rattle.rope_tree.proofs.node.+in_place.Goals as goal

-- the child that takes the text
found : (t : ℕ) (c : Children::insert_in_place-After-index-self-place-2 t)
    → Finds c.self.inside c.args.self.now c.in-Some.descent.place
    (get_or c.self.inside.nodes c.in-Some.descent.place c.index-self-place-2.result)
    c.args.at c.in-Some.descent.inside c.args.to_right
found t c =
    found_at c.self.inside c.args.self.now c.in-Some.descent.place c.index-self-place-2.result
    c.args.at c.in-Some.descent.inside c.args.to_right c.self.view_is c.self.invariant
    c.requires.children
    (rw c.in-Some.is at c.locate.ensures.child) (rw c.in-Some.is at c.locate.ensures.place)
    (rw c.in-Some.is at c.locate.ensures.goes)

pub Children::insert_in_place-insert_in_place-requires :
    goal.Children::insert_in_place-insert_in_place-requires
Children::insert_in_place-insert_in_place-requires t c =
    let f = found t (goal.at.Children::insert_in_place-insert_in_place-requires t
    c).After-index-self-place-2 in
    let low =
    rw f.taken.child_is at (tallest_above c.args.self.now c.in-Some.descent.place
    (get_or c.self.inside.nodes c.in-Some.descent.place c.index-self-place-2.result)
    f.taken.within) in
    let fits =
    child_fits _ _ _ _ _ _ _ f c.args.added.now c.requires.takes.some c.requires.side
    c.requires.takes.fits in
    let side =
    may _ _ _ _ _ _ _ f c.args.added.now c.requires.takes.some c.requires.side
    c.requires.takes.fits in (
      omega (arith, c.decreases, low),
      (
        record {
          within = f.taken.goes.within;
          some = c.requires.takes.some;
          short = c.requires.takes.short;
          fits = fits;
        },
        side,
      ),
    )

pub Children::insert_in_place-grow-requires-clause-small :
    goal.Children::insert_in_place-grow-requires-clause-small
Children::insert_in_place-grow-requires-clause-small t c =
    let f = found t (goal.at.Children::insert_in_place-grow-requires-clause-small t
    c).After-index-self-place-2 in
    small_totals (breaks_of c.args.self.now) c.self.inside.totals c.args.self.now
    (read _ _ _ _ _ _ _ f c.self.inside.totals refl) c.requires.children.fits

pub Children::insert_in_place-grow-requires-clause-more :
    goal.Children::insert_in_place-grow-requires-clause-more
Children::insert_in_place-grow-requires-clause-more t c =
    (c.in_ok-insert_in_place.ensures.change c.if-not-branch.false).low

pub Children::insert_in_place-grow-requires-clause-fits :
    goal.Children::insert_in_place-grow-requires-clause-fits
Children::insert_in_place-grow-requires-clause-fits t c =
    change_narrow _ _ _ _ _ _ _
    (found t (goal.at.Children::insert_in_place-grow-requires-clause-fits t
    c).After-index-self-place-2) c.args.added.now c.requires.takes.some c.requires.side
    c.requires.takes.fits
    c.insert_in_place.new.self (c.in_ok-insert_in_place.ensures.tried.done c.if-not-branch.false)
    no_counts c.insert_in_place.new.more
    (c.in_ok-insert_in_place.ensures.change c.if-not-branch.false) c.self.inside.totals refl
    (rw c.len.ensures.value at c.has_room_for.ensures.room c.if-not-has_room_for.false)

pub Children::insert_in_place-invariant_of-self-2 :
    goal.Children::insert_in_place-invariant_of-self-2
Children::insert_in_place-invariant_of-self-2 t c =
    fields_changed _ _ _ _ _ _ _
    (found t (goal.at.Children::insert_in_place-invariant_of-self-2 t c).After-index-self-place-2)
    c.args.added.now c.requires.takes.some c.requires.side c.requires.takes.fits
    c.insert_in_place.new.self (c.in_ok-insert_in_place.ensures.tried.done c.if-not-branch.false)
    no_counts c.insert_in_place.new.more
    (c.in_ok-insert_in_place.ensures.change c.if-not-branch.false) _ refl refl refl
    c.self.inside.totals c.grow.new.self refl c.grow.ensures.len c.grow.ensures.before
    c.grow.ensures.after refl

pub Children::insert_in_place-returns-clause-tried :
    goal.Children::insert_in_place-returns-clause-tried
Children::insert_in_place-returns-clause-tried t c = record {
  done = λ yes.
      all_changed _ _ _ _ _ _ _
      (found t (goal.at.Children::insert_in_place-returns-clause-tried t
      c).After-index-self-place-2) c.args.added.now c.requires.takes.some c.requires.side
      c.requires.takes.fits
      c.insert_in_place.new.self (c.in_ok-insert_in_place.ensures.tried.done c.if-not-branch.false)
      no_counts c.insert_in_place.new.more
      (c.in_ok-insert_in_place.ensures.change c.if-not-branch.false)
      (record { height = _; breaks = _; last = c.self.inside.last; totals = _; nodes = _ }) refl
      refl refl
      c.self.inside.totals c.grow.new.self refl c.grow.ensures.len c.grow.ensures.before
      c.grow.ensures.after refl;
  kept = λ no. cc;
  err = tt;
}

pub Children::insert_in_place-returns-clause-change :
    goal.Children::insert_in_place-returns-clause-change
Children::insert_in_place-returns-clause-change t c =
    λ yes. list_changed _ _ _ _ _ _ _
    (found t (goal.at.Children::insert_in_place-returns-clause-change t c).After-index-self-place-2)
    c.args.added.now c.requires.takes.some c.requires.side c.requires.takes.fits
    c.insert_in_place.new.self (c.in_ok-insert_in_place.ensures.tried.done c.if-not-branch.false)
    no_counts c.insert_in_place.new.more
    (c.in_ok-insert_in_place.ensures.change c.if-not-branch.false)
    (record { height = _; breaks = _; last = c.self.inside.last; totals = _; nodes = _ }) refl refl
    refl
    c.self.inside.totals c.grow.new.self refl c.grow.ensures.len c.grow.ensures.before
    c.grow.ensures.after refl

pub Children::insert_in_place-returns-in_err-insert_in_place-clause-made :
    goal.Children::insert_in_place-returns-in_err-insert_in_place-clause-made
Children::insert_in_place-returns-in_err-insert_in_place-clause-made t c =
    omega (
      arith,
      c.insert_in_place.ensures.made,
      (found t (goal.at.Children::insert_in_place-returns-in_err-insert_in_place-clause-made t
          c).After-index-self-place-2).taken.own.at_height,
    )

pub Children::insert_in_place-returns-clause-made :
    goal.Children::insert_in_place-returns-clause-made
Children::insert_in_place-returns-clause-made t c =
    let f = found t (goal.at.Children::insert_in_place-returns-clause-made t
    c).After-index-self-place-2 in
    omega (arith, c.insert_in_place.ensures.made, f.taken.own.at_height)

pub Node::insert_in_place-insert_in_place-requires-in-Some-get_mut :
    goal.Node::insert_in_place-insert_in_place-requires-in-Some-get_mut
Node::insert_in_place-insert_in_place-requires-in-Some-get_mut t c =
    let ts = c.in-Some-get_mut.children.now in
    let i = inner_seen c.self.inside c.args.self.now c.in-Inner.children ts c.self.invariant
    c.in-Inner.is c.self.view_is (c.in-Some-get_mut.ensures.value ∙ c.own_children.ensures.same) in
    let low = tallest_below (breaks_of ts) (height_of ts) ts i.children.each in (
      omega (arith, c.decreases, low, ap (λ x. x.height) i.is),
      (
        i.children,
        (
          subst (λ x. TakesShort x c.args.at c.args.added.now) i.is c.requires.takes,
          subst (λ x. MayInsert x c.args.at c.args.added.now c.args.to_right) i.is c.requires.side,
        ),
      ),
    )

-- the node after the edit
ended : (t : ℕ) (c : Node::insert_in_place-Joined-self t) → IsNode c.match-self.self-inside
ended t c =
    elim c.match-self.branch [
      | Node::insert_in_place-in-Empty w ↦ rw w.self-inside-is c.self.invariant
      | Node::insert_in_place-in-Leaf+in_ok-own_leaf-in-Leaf+in-Some w ↦
          let did = w.insert_in_place in
          let own : IsLeafNode w.in-Some.leaf.now =
          rw (w.in-Some.ensures.value, w.own_leaf.ensures.same)
          (subst IsForm w.in-Leaf.is c.self.invariant.form) in
          rw w.self-inside-is (record {
            form =
                by_answer did.result (λ yes. grown_leaf _ _ [] _ own (did.ensures.done yes))
                (λ no. rw (did.ensures.kept no) own);
          })
      | Node::insert_in_place-in-Leaf+in_ok-own_leaf-in-Leaf+in-None w ↦
          rw (w.self-inside-is, w.own_leaf.ensures.same)
          (record { form = subst IsForm w.in-Leaf.is c.self.invariant.form })
      | Node::insert_in_place-in-Inner+in_ok-own_children-in-Inner+in-Some-get_mut w ↦
          let did = w.insert_in_place-in-Some-get_mut in
          let ts = w.in-Some-get_mut.children.now in
          let us = did.new.self in
          let i = inner_seen c.self.inside c.args.self.now w.in-Inner.children ts c.self.invariant
          w.in-Inner.is c.self.view_is (w.in-Some-get_mut.ensures.value
          ∙ w.own_children.ensures.same) in
          rw w.self-inside-is (record {
            form = by_outcome did.result ts us did.ensures.tried
                (grown_children c.args.self.now ts us c.args.at c.args.added.now i)
                (still_children c.args.self.now ts us i);
          })
      | Node::insert_in_place-in-Inner+in_ok-own_children-in-Inner+in-None-get_mut w ↦
          rw (w.self-inside-is, w.own_children.ensures.same)
          (record {
            form =
                (inner_of c.self.inside c.args.self.now w.in-Inner.children c.self.invariant
                w.in-Inner.is c.self.view_is).children;
          })
    ]

pub Node::insert_in_place-invariant_of-self-2 : goal.Node::insert_in_place-invariant_of-self-2
Node::insert_in_place-invariant_of-self-2 t c =
    ended t (goal.at.Node::insert_in_place-invariant_of-self-2 t c).Joined-self

pub Node::insert_in_place-returns-clause-tree : goal.Node::insert_in_place-returns-clause-tree
Node::insert_in_place-returns-clause-tree t c =
    node_tree _ _ (ended t (goal.at.Node::insert_in_place-returns-clause-tree t c).Joined-self) refl

pub Node::insert_in_place-returns-in_err-own_children-in-Inner-clause-tree :
    goal.Node::insert_in_place-returns-in_err-own_children-in-Inner-clause-tree
Node::insert_in_place-returns-in_err-own_children-in-Inner-clause-tree t c =
    let i = inner_of c.self.inside c.args.self.now c.in-Inner.children c.self.invariant
    c.in-Inner.is c.self.view_is in
    rw c.own_children.ensures.same
    (subst IsTree i.is (node_tree c.self.inside c.args.self.now c.self.invariant c.self.view_is))

pub Node::insert_in_place-returns-clause-tried : goal.Node::insert_in_place-returns-clause-tried
Node::insert_in_place-returns-clause-tried t c =
    elim c.match-self.branch [
      | Node::insert_in_place-in-Empty w ↦
          rw (w.result-is, w.self-inside-is) (not_tried c.args.self.now _ c.self.view_is)
      | Node::insert_in_place-in-Leaf+in_ok-own_leaf-in-Leaf+in-Some w ↦
          let same =
          leaf_seen c.self.inside c.args.self.now w.in-Leaf.leaf w.in-Some.leaf.now w.in-Leaf.is
          c.self.view_is (w.in-Some.ensures.value ∙ w.own_leaf.ensures.same) in
          rw (w.result-is, w.self-inside-is) (record {
            done = λ yes. subst (λ x. IsInserted x (w.insert_in_place.new.self ∷ [])
                (inserted (text x) c.args.at c.args.added.now)) (sym same)
                (w.insert_in_place.ensures.done yes);
            kept = λ no. w.insert_in_place.ensures.kept no ∙ sym same;
            err = tt;
          })
      | Node::insert_in_place-in-Leaf+in_ok-own_leaf-in-Leaf+in-None w ↦
          rw (w.result-is, w.self-inside-is)
          (not_tried c.args.self.now _
          (sym (leaf_seen c.self.inside c.args.self.now w.in-Leaf.leaf _ w.in-Leaf.is c.self.view_is
          w.own_leaf.ensures.same)))
      | Node::insert_in_place-in-Inner+in_ok-own_children-in-Inner+in-Some-get_mut w ↦
          let did = w.insert_in_place-in-Some-get_mut in
          let ts = w.in-Some-get_mut.children.now in
          let us = did.new.self in
          let i = inner_seen c.self.inside c.args.self.now w.in-Inner.children ts c.self.invariant
          w.in-Inner.is c.self.view_is (w.in-Some-get_mut.ensures.value
          ∙ w.own_children.ensures.same) in
          rw (w.result-is, w.self-inside-is)
          (tried_in did.result tree_over ts us c.args.self.now (tree_over us) i.is refl
          (grown_node c.args.self.now ts us c.args.at c.args.added.now i) did.ensures.tried)
      | Node::insert_in_place-in-Inner+in_ok-own_children-in-Inner+in-None-get_mut w ↦
          rw (w.result-is, w.self-inside-is)
          (not_tried c.args.self.now _ (ap tree_over w.own_children.ensures.same
          ∙ sym (inner_of c.self.inside c.args.self.now w.in-Inner.children c.self.invariant
          w.in-Inner.is c.self.view_is).is))
    ]

pub Node::insert_in_place-returns-clause-change : goal.Node::insert_in_place-returns-clause-change
Node::insert_in_place-returns-clause-change t c =
    elim c.match-self.branch [
      | Node::insert_in_place-in-Empty w ↦ rw w.result-is (λ no. cc)
      | Node::insert_in_place-in-Leaf+in_ok-own_leaf-in-Leaf+in-Some w ↦
          let same =
          leaf_seen c.self.inside c.args.self.now w.in-Leaf.leaf w.in-Some.leaf.now w.in-Leaf.is
          c.self.view_is (w.in-Some.ensures.value ∙ w.own_leaf.ensures.same) in
          rw (w.result-is, w.self-inside-is, w.more-is)
          (λ yes. subst (λ x. IsChange no_counts w.insert_in_place.new.more
          (info_of x.breaks (text x)) (info_of x.breaks (text w.insert_in_place.new.self)))
          (sym same) (w.insert_in_place.ensures.change yes))
      | Node::insert_in_place-in-Leaf+in_ok-own_leaf-in-Leaf+in-None w ↦ rw w.result-is (λ no. cc)
      | Node::insert_in_place-in-Inner+in_ok-own_children-in-Inner+in-Some-get_mut w ↦
          let did = w.insert_in_place-in-Some-get_mut in
          let ts = w.in-Some-get_mut.children.now in
          let us = did.new.self in
          let i = inner_seen c.self.inside c.args.self.now w.in-Inner.children ts c.self.invariant
          w.in-Inner.is c.self.view_is (w.in-Some-get_mut.ensures.value
          ∙ w.own_children.ensures.same) in
          let now = did.new.more in
          rw (w.result-is, w.self-inside-is, w.more-is)
          (IfOk-weaker did.result (λ did. did ≡ true
          → IsChange no_counts now (info_of (breaks_of ts) (joined ts))
          (info_of (breaks_of ts) (joined us)))
          (λ did. did ≡ true → IsChange no_counts now
          (info_of c.args.self.now.breaks (text c.args.self.now))
          (info_of c.args.self.now.breaks (text (tree_over us)))) (λ did g yes. rw i.is (g yes))
          did.ensures.change)
      | Node::insert_in_place-in-Inner+in_ok-own_children-in-Inner+in-None-get_mut w ↦
          rw w.result-is (λ no. cc)
    ]

pub Children::insert_in_place-returns-then-not-branch-clause-made :
    goal.Children::insert_in_place-returns-then-not-branch-clause-made
Children::insert_in_place-returns-then-not-branch-clause-made t c =
    omega (
      arith,
      c.insert_in_place.ensures.made,
      (found t (goal.at.Children::insert_in_place-returns-then-not-branch-clause-made t
          c).After-index-self-place-2).taken.own.at_height,
    )

pub Children::insert_in_place-returns-then-not-branch-clause-idle :
    goal.Children::insert_in_place-returns-then-not-branch-clause-idle
Children::insert_in_place-returns-then-not-branch-clause-idle t c =
    let f = found t (goal.at.Children::insert_in_place-returns-then-not-branch-clause-idle t
    c).After-index-self-place-2 in
    if_idle _ (omega (
      arith,
      c.in_ok-insert_in_place.ensures.idle c.if-not-branch.true,
      f.taken.own.at_height,
    ))

pub Children::insert_in_place-returns-in_err-insert_in_place-clause-searched :
    goal.Children::insert_in_place-returns-in_err-insert_in_place-clause-searched
Children::insert_in_place-returns-in_err-insert_in_place-clause-searched t c =
    let w =
    goal.at.Children::insert_in_place-returns-in_err-insert_in_place-clause-searched t c in
    let h = (found t w.After-index-self-place-2).taken.own.at_height in
    record { rise = omega (arith, h); nodes = omega (arith, h); compares = omega (arith, h) }

pub Children::insert_in_place-returns-then-not-branch-clause-searched :
    goal.Children::insert_in_place-returns-then-not-branch-clause-searched
Children::insert_in_place-returns-then-not-branch-clause-searched t c =
    let h = (found t (goal.at.Children::insert_in_place-returns-then-not-branch-clause-searched t
    c).After-index-self-place-2).taken.own.at_height in
    record { rise = omega (arith, h); nodes = omega (arith, h); compares = omega (arith, h) }

pub Children::insert_in_place-returns-clause-searched :
    goal.Children::insert_in_place-returns-clause-searched
Children::insert_in_place-returns-clause-searched t c =
    let h = (found t (goal.at.Children::insert_in_place-returns-clause-searched t
    c).After-index-self-place-2).taken.own.at_height in
    record { rise = omega (arith, h); nodes = omega (arith, h); compares = omega (arith, h) }

pub Children::insert_in_place-locate-requires-clause-right :
    goal.Children::insert_in_place-locate-requires-clause-right
Children::insert_in_place-locate-requires-clause-right t c =
    right_within c.args.self.now c.args.at c.args.added.now c.args.to_right c.requires.side

-- the list is unchanged where the child is
pub Children::insert_in_place-invariant_of-self : goal.Children::insert_in_place-invariant_of-self
Children::insert_in_place-invariant_of-self t c =
    same_listed c.self.inside _ c.self.invariant
    (unset c.self.inside.nodes c.in-Some.descent.place c.insert_in_place.new.self
    c.index-self-place-2.result c.in_err-insert_in_place.ensures.tried.err) refl refl refl

pub Children::insert_in_place-returns-in_err-insert_in_place-clause-tried :
    goal.Children::insert_in_place-returns-in_err-insert_in_place-clause-tried
Children::insert_in_place-returns-in_err-insert_in_place-clause-tried t c =
    refused c.from_residual.result c.args.self.now _ c.from_residual.ensures.0
    (same_seen c.self.inside c.args.self.now _
    (unset c.self.inside.nodes c.in-Some.descent.place c.insert_in_place.new.self
    c.index-self-place-2.result c.in_err-insert_in_place.ensures.tried.err) c.self.view_is)

pub Children::insert_in_place-invariant_of-self-then-not-branch :
    goal.Children::insert_in_place-invariant_of-self-then-not-branch
Children::insert_in_place-invariant_of-self-then-not-branch t c =
    same_listed c.self.inside _ c.self.invariant
    (unset c.self.inside.nodes c.in-Some.descent.place c.insert_in_place.new.self
    c.index-self-place-2.result (c.in_ok-insert_in_place.ensures.tried.kept c.if-not-branch.true))
    refl refl refl

pub Children::insert_in_place-returns-then-not-branch-clause-tried :
    goal.Children::insert_in_place-returns-then-not-branch-clause-tried
Children::insert_in_place-returns-then-not-branch-clause-tried t c =
    rw c.unchanged-then-not-branch.ensures
    (not_tried c.args.self.now _ (same_seen c.self.inside c.args.self.now _
    (unset c.self.inside.nodes c.in-Some.descent.place c.insert_in_place.new.self
    c.index-self-place-2.result (c.in_ok-insert_in_place.ensures.tried.kept c.if-not-branch.true))
    c.self.view_is))
