use Rattle.std.proofs.lemmas.Result.{IfOk-weaker}
use Rattle.rope_leaf.specs.LeafTree.{IsLeafNode}
use Rattle.rope_tree.specs.Shape.{IsForm, IsNode}
use Rattle.rope_tree.specs.Falls.{tallest_below}
use Rattle.std.proofs.Common.{◌≡◌, true, ℕ, ◌-◌, ◌<◌, ◌^◌, length, get_or, set, sym, ap, subst, refl, ◌∙◌, arith}
use Rattle.rope_text.specs.Text.{byte_len}
use Rattle.rope_text.specs.TextInfo.{info_of}
use Rattle.rope_leaf.specs.Tree.{Tree, text, joined, height_of, breaks_of, tree_over, IsTree}
use Rattle.rope_tree.specs.Listed.{listed}
use Rattle.rope_leaf.specs.Totals.{AreBelow}
use Rattle.rope_leaf.specs.Change.{IsChange, no_counts}
use Rattle.rope_leaf.specs.Removal.{IsRemoved, AreRemoved}
use Rattle.rope_leaf.proofs.ChangeLaws.{change_to, part_of_part, part_fits, whole_changed, change_by, change_own, change_of_list}
use Rattle.rope_leaf.proofs.NodeLaws.{small_totals}
use Rattle.rope_tree.proofs.ChildLaws.{taken_at, if_idle}
use Rattle.rope_leaf.proofs.InsertDescents.{Takes, last_total}
use Rattle.rope_leaf.proofs.TotalLaws.{has_part, fits_after}
use Rattle.rope_leaf.proofs.GrownLaws.{totals_seen}
use Rattle.rope_tree.proofs.ListedLaws.{tallest_above}
use Rattle.rope_tree.proofs.ListedLaws.{set_seen, set_listed, set_totals}
use Rattle.rope_tree.proofs.FormLaws.{inner_of, inner_seen, leaf_seen, node_tree, fallen_leaf, by_answer, by_outcome, not_tried, tried_in, still_children, removed_children, removed_node}
use Rattle.rope_leaf.proofs.RemovalLaws.{Holds, holds, byte_len-removed, children_removed}
use Rattle.rope_tree.proofs.KeptLaws.{unset, same_seen, same_listed, refused}
use Rattle.rope_tree.proofs.node.+in_place_removal.Goals as goal
use Rattle.rope_tree.proofs.node.+in_place_removal.Goals.{Children::remove_in_place-After-index-self-place, Node::remove_in_place-Joined-self, Node::remove_in_place-in-Empty, Node::remove_in_place-in-Leaf+in_ok-own_leaf-in-Leaf+in-Some, Node::remove_in_place-in-Leaf+in_ok-own_leaf-in-Leaf+in-None, Node::remove_in_place-in-Inner+in_ok-own_children-in-Inner+in-Some-get_mut, Node::remove_in_place-in-Inner+in_ok-own_children-in-Inner+in-None-get_mut}

-- the child that contains the characters
down : (t : ℕ) (c : Children::remove_in_place-After-index-self-place t)
    → Takes c.args.self.now c.in-Some.descent.place
    (get_or c.self.inside.nodes c.in-Some.descent.place c.index-self-place.result) c.args.start
    c.in-Some.descent.inside true
down t c =
    taken_at c.self.inside c.args.self.now c.in-Some.descent.place c.index-self-place.result
    c.args.start c.in-Some.descent.inside true c.self.view_is c.requires.children
    (rw c.in-Some.is at c.locate.ensures.child) (rw c.in-Some.is at c.locate.ensures.place)
    (rw c.in-Some.is at c.locate.ensures.goes)

held : (t : ℕ) (c : Children::remove_in_place-After-index-self-place t)
    → Holds c.args.self.now c.in-Some.descent.place
    (get_or c.self.inside.nodes c.in-Some.descent.place c.index-self-place.result)
    c.in-Some.descent.inside (c.args.end - (c.args.start - c.in-Some.descent.inside)) c.args.start
    c.args.end
held t c =
    let ts = c.args.self.now in
    let totals =
    totals_seen (listed c.self.inside) ts c.self.inside.totals c.self.inside.totals c.self.view_is
    refl c.self.invariant.totals_right in
    holds ts c.in-Some.descent.place
    (get_or c.self.inside.nodes c.in-Some.descent.place c.index-self-place.result)
    c.in-Some.descent.inside c.args.start c.args.end c.self.inside.totals no_counts
    (down t c) totals c.requires.ordered (rw (c.get.ensures no_counts) at c.if-get-end.false)

pub Children::remove_in_place-remove_in_place-requires :
    goal.Children::remove_in_place-remove_in_place-requires
Children::remove_in_place-remove_in_place-requires t c =
    let e = (goal.at.Children::remove_in_place-remove_in_place-requires t
    c).After-index-self-place in
    let d = down t e in
    let g = held t e in
    let low =
    rw d.child_is at (tallest_above c.args.self.now c.in-Some.descent.place
    (get_or c.self.inside.nodes c.in-Some.descent.place c.index-self-place.result) d.within) in
    (omega (arith, c.decreases, low), (g.order, g.within))

pub Children::remove_in_place-retotal-requires-clause-small :
    goal.Children::remove_in_place-retotal-requires-clause-small
Children::remove_in_place-retotal-requires-clause-small t c =
    small_totals (breaks_of c.args.self.now) c.self.inside.totals c.args.self.now
    (totals_seen (listed c.self.inside) c.args.self.now c.self.inside.totals c.self.inside.totals
    c.self.view_is refl c.self.invariant.totals_right) c.requires.children.fits

pub Children::remove_in_place-retotal-requires-clause-part :
    goal.Children::remove_in_place-retotal-requires-clause-part
Children::remove_in_place-retotal-requires-clause-part t c = λ j e from within.
    let ts = c.args.self.now in
    let child = get_or c.self.inside.nodes c.in-Some.descent.place c.index-self-place.result in
    let u = c.remove_in_place.new.self in
    let d = down t (goal.at.Children::remove_in_place-retotal-requires-clause-part t
    c).After-index-self-place in
    let totals =
    totals_seen (listed c.self.inside) ts c.self.inside.totals c.self.inside.totals c.self.view_is
    refl c.self.invariant.totals_right in
    let inside : j < length ts = omega (arith, totals.as_many) in
    let change =
    change_by (breaks_of ts) child u c.remove_in_place.new.less c.new.result d.own.same_breaks
    (change_to c.new.result c.remove_in_place.new.less _ _ c.new.ensures
    (c.in_ok-remove_in_place.ensures.change c.if-not-branch.false)) in
    part_of_part _ _ _ _ change _
    (rw (totals.total_at j e inside)
    (has_part (breaks_of ts) (height_of ts) ts ts c.in-Some.descent.place child child d.children
    d.within d.child_is j from inside))

pub Children::remove_in_place-retotal-requires-clause-new :
    goal.Children::remove_in_place-retotal-requires-clause-new
Children::remove_in_place-retotal-requires-clause-new t c =
    (change_to c.new.result c.remove_in_place.new.less _ _ c.new.ensures
    (c.in_ok-remove_in_place.ensures.change c.if-not-branch.false)).low

-- the children after the removal
left : (t : ℕ) (c : Children::remove_in_place-After-index-self-place t) (u : Tree)
    → IsRemoved c.least_at-least.result.first c.least_at-least.result.last
    (get_or c.self.inside.nodes c.in-Some.descent.place c.index-self-place.result) u
    c.in-Some.descent.inside (c.args.end - (c.args.start - c.in-Some.descent.inside))
    → AreRemoved c.args.least.first c.args.least.last c.args.self.now
    (set c.args.self.now c.in-Some.descent.place u) c.args.start c.args.end
left t c u done =
    let ts = c.args.self.now in
    let d = down t c in
    let totals =
    totals_seen (listed c.self.inside) ts c.self.inside.totals c.self.inside.totals c.self.view_is
    refl c.self.invariant.totals_right in
    let below : AreBelow c.from.result c.self.inside.totals ts =
    record {
      above =
          omega (arith, c.from.ensures, c.self.invariant.above, ap height_of c.self.view_is);
      children = d.children;
      totals_right = totals;
    } in
    children_removed (breaks_of ts) (height_of ts) ts c.in-Some.descent.place
    (get_or c.self.inside.nodes c.in-Some.descent.place c.index-self-place.result)
    d.children d.within d.child_is _ _ c.args.start c.args.end (held t c) c.args.least.first
    c.args.least.last c.least_at-least.result.first c.least_at-least.result.last u done
    (c.least_at-least.ensures.first ts below) (c.least_at-least.ensures.last ts below) refl refl

pub Children::remove_in_place-retotal-requires-clause-fits :
    goal.Children::remove_in_place-retotal-requires-clause-fits
Children::remove_in_place-retotal-requires-clause-fits t c = λ narrow j e from within.
    let i = (goal.at.Children::remove_in_place-retotal-requires-clause-fits t
    c).After-index-self-place in
    let ts = c.args.self.now in
    let child = get_or c.self.inside.nodes c.in-Some.descent.place c.index-self-place.result in
    let u = c.remove_in_place.new.self in
    let d = down t i in
    let totals =
    totals_seen (listed c.self.inside) ts c.self.inside.totals c.self.inside.totals c.self.view_is
    refl c.self.invariant.totals_right in
    let inside : j < length ts = omega (arith, totals.as_many, within) in
    let r = left t i u (c.in_ok-remove_in_place.ensures.tried.done c.if-not-branch.false) in
    let last =
    last_total (breaks_of ts) c.self.inside.totals ts totals
    (omega (arith, c.requires.children.at_least_two)) e in
    let few : byte_len (joined (set ts c.in-Some.descent.place u)) < 2 ^ 32 =
    omega (
      arith,
      (narrow (length c.self.inside.totals - 1) e (omega (arith, within))).bytes,
      ap (λ x. x.bytes) last,
      ap byte_len r.text_is,
      byte_len-removed (joined ts) c.args.start c.args.end (omega (arith, c.requires.ordered)),
    ) in
    let change =
    change_by (breaks_of ts) child u c.remove_in_place.new.less c.new.result d.own.same_breaks
    (change_to c.new.result c.remove_in_place.new.less _ _ c.new.ensures
    (c.in_ok-remove_in_place.ensures.change c.if-not-branch.false)) in
    part_fits _ _ _ _ change _ (rw (totals.total_at j e inside)
    (fits_after (breaks_of ts) (height_of ts) ts (set ts c.in-Some.descent.place u)
    c.in-Some.descent.place child u d.children d.within d.child_is r.children refl few j from
    inside))

pub Children::remove_in_place-invariant_of-self-2 :
    goal.Children::remove_in_place-invariant_of-self-2
Children::remove_in_place-invariant_of-self-2 t c =
    let i = (goal.at.Children::remove_in_place-invariant_of-self-2 t c).After-index-self-place in
    let ts = c.args.self.now in
    let d = down t i in
    let done = c.in_ok-remove_in_place.ensures.tried.done c.if-not-branch.false in
    let b = (left t i c.remove_in_place.new.self done).children in
    let seen =
    totals_seen (listed c.self.inside) ts c.self.inside.totals c.self.inside.totals c.self.view_is
    refl c.self.invariant.totals_right in
    let change =
    change_own (get_or c.self.inside.nodes c.in-Some.descent.place c.index-self-place.result)
    c.remove_in_place.new.self c.remove_in_place.new.less c.new.result done.same_breaks
    (change_to c.new.result c.remove_in_place.new.less _ _ c.new.ensures
    (c.in_ok-remove_in_place.ensures.change c.if-not-branch.false)) in
    let totals =
    set_totals _ _ _ _ _ _ _ _ _ d.children d.within d.child_is d.own.same_breaks b
    (done.same_breaks ∙ d.own.same_breaks) seen refl refl refl
    c.retotal.ensures.len c.retotal.ensures.before
    (λ j e from within. whole_changed _ _ _ _ change _ _
    (c.retotal.ensures.after j e from within)) in
    set_listed c.self.inside _ ts c.in-Some.descent.place c.remove_in_place.new.self
    c.self.invariant c.self.view_is d.within b refl refl refl totals

pub Children::remove_in_place-returns-clause-tried :
    goal.Children::remove_in_place-returns-clause-tried
Children::remove_in_place-returns-clause-tried t c = record {
  done = λ yes.
      let i = (goal.at.Children::remove_in_place-returns-clause-tried t c).After-index-self-place in
      let ts = c.args.self.now in
      let d = down t i in
      let done = c.in_ok-remove_in_place.ensures.tried.done c.if-not-branch.false in
      let r = left t i c.remove_in_place.new.self done in
      let seen =
      totals_seen (listed c.self.inside) ts c.self.inside.totals c.self.inside.totals c.self.view_is
      refl c.self.invariant.totals_right in
      let change =
      change_own (get_or c.self.inside.nodes c.in-Some.descent.place c.index-self-place.result)
      c.remove_in_place.new.self c.remove_in_place.new.less c.new.result done.same_breaks
      (change_to c.new.result c.remove_in_place.new.less _ _ c.new.ensures
      (c.in_ok-remove_in_place.ensures.change c.if-not-branch.false)) in
      let totals =
      set_totals _ _ _ _ _ _ _ _ _ d.children d.within d.child_is d.own.same_breaks r.children
      (done.same_breaks ∙ d.own.same_breaks) seen refl refl refl
      c.retotal.ensures.len c.retotal.ensures.before
      (λ j e from within. whole_changed _ _ _ _ change _ _
      (c.retotal.ensures.after j e from within)) in
      rw (set_seen c.self.inside (record {
        height = _;
        breaks = _;
        last = c.self.inside.last;
        totals = _;
        nodes = _;
      }) ts c.in-Some.descent.place c.remove_in_place.new.self c.self.invariant c.self.view_is
      d.within r.children refl refl refl totals) r;
  kept = λ no. cc;
  err = tt;
}

pub Children::remove_in_place-returns-clause-change :
    goal.Children::remove_in_place-returns-clause-change
Children::remove_in_place-returns-clause-change t c = λ yes.
    let i = (goal.at.Children::remove_in_place-returns-clause-change t c).After-index-self-place in
    let ts = c.args.self.now in
    let child = get_or c.self.inside.nodes c.in-Some.descent.place c.index-self-place.result in
    let u = c.remove_in_place.new.self in
    let d = down t i in
    let done = c.in_ok-remove_in_place.ensures.tried.done c.if-not-branch.false in
    let r = left t i u done in
    let seen =
    totals_seen (listed c.self.inside) ts c.self.inside.totals c.self.inside.totals c.self.view_is
    refl c.self.invariant.totals_right in
    let change =
    change_own child u c.remove_in_place.new.less c.new.result done.same_breaks
    (change_to c.new.result c.remove_in_place.new.less _ _ c.new.ensures
    (c.in_ok-remove_in_place.ensures.change c.if-not-branch.false)) in
    let totals =
    set_totals _ _ _ _ _ _ _ _ _ d.children d.within d.child_is d.own.same_breaks r.children
    (done.same_breaks ∙ d.own.same_breaks) seen refl refl refl
    c.retotal.ensures.len c.retotal.ensures.before
    (λ j e from within. whole_changed _ _ _ _ change _ _
    (c.retotal.ensures.after j e from within)) in
    rw (set_seen c.self.inside (record {
      height = _;
      breaks = _;
      last = c.self.inside.last;
      totals = _;
      nodes = _;
    }) ts c.in-Some.descent.place u c.self.invariant c.self.view_is d.within r.children refl refl
    refl totals)
    (change_of_list (breaks_of ts) (height_of ts) ts c.in-Some.descent.place child u d.children
    d.within d.child_is r.children _ _
    (change_by (breaks_of ts) child u _ _ d.own.same_breaks
    (c.in_ok-remove_in_place.ensures.change c.if-not-branch.false)))

pub Children::remove_in_place-returns-in_err-remove_in_place-clause-made :
    goal.Children::remove_in_place-returns-in_err-remove_in_place-clause-made
Children::remove_in_place-returns-in_err-remove_in_place-clause-made t c =
    omega (
      arith,
      c.remove_in_place.ensures.made,
      (down t (goal.at.Children::remove_in_place-returns-in_err-remove_in_place-clause-made t
          c).After-index-self-place).own.at_height,
    )

pub Children::remove_in_place-returns-then-not-branch-clause-made :
    goal.Children::remove_in_place-returns-then-not-branch-clause-made
Children::remove_in_place-returns-then-not-branch-clause-made t c =
    omega (
      arith,
      c.remove_in_place.ensures.made,
      (down t (goal.at.Children::remove_in_place-returns-then-not-branch-clause-made t
          c).After-index-self-place).own.at_height,
    )

pub Children::remove_in_place-returns-clause-made :
    goal.Children::remove_in_place-returns-clause-made
Children::remove_in_place-returns-clause-made t c =
    omega (
      arith,
      c.remove_in_place.ensures.made,
      (down t (goal.at.Children::remove_in_place-returns-clause-made t
          c).After-index-self-place).own.at_height,
    )

pub Node::remove_in_place-remove_in_place-requires-in-Some-get_mut :
    goal.Node::remove_in_place-remove_in_place-requires-in-Some-get_mut
Node::remove_in_place-remove_in_place-requires-in-Some-get_mut t c =
    let ts = c.in-Some-get_mut.children.now in
    let i = inner_seen c.self.inside c.args.self.now c.in-Inner.children ts c.self.invariant
    c.in-Inner.is c.self.view_is (c.in-Some-get_mut.ensures.value ∙ c.own_children.ensures.same) in
    let low = tallest_below (breaks_of ts) (height_of ts) ts i.children.each in (
      omega (arith, c.decreases, low, ap (λ x. x.height) i.is),
      (
        i.children,
        (
          c.requires.ordered,
          omega (arith, c.requires.within, ap (λ x. length (text x)) i.is),
        ),
      ),
    )

-- the node after the edit
ended : (t : ℕ) (c : Node::remove_in_place-Joined-self t) → IsNode c.match-self.self-inside
ended t c =
    elim c.match-self.branch [
      | Node::remove_in_place-in-Empty w ↦ rw w.self-inside-is c.self.invariant
      | Node::remove_in_place-in-Leaf+in_ok-own_leaf-in-Leaf+in-Some w ↦
          let did = w.remove_in_place in
          let own : IsLeafNode w.in-Some.leaf.now =
          rw (w.in-Some.ensures.value, w.own_leaf.ensures.same)
          (subst IsForm w.in-Leaf.is c.self.invariant.form) in
          rw w.self-inside-is (record {
            form =
                by_answer did.result (λ yes. fallen_leaf _ _ _ _ c.args.start c.args.end
                c.requires.ordered own (did.ensures.done yes)) (λ no. rw (did.ensures.kept no) own);
          })
      | Node::remove_in_place-in-Leaf+in_ok-own_leaf-in-Leaf+in-None w ↦
          rw (w.self-inside-is, w.own_leaf.ensures.same)
          (record { form = subst IsForm w.in-Leaf.is c.self.invariant.form })
      | Node::remove_in_place-in-Inner+in_ok-own_children-in-Inner+in-Some-get_mut w ↦
          let did = w.remove_in_place-in-Some-get_mut in
          let ts = w.in-Some-get_mut.children.now in
          let us = did.new.self in
          let i = inner_seen c.self.inside c.args.self.now w.in-Inner.children ts c.self.invariant
          w.in-Inner.is c.self.view_is (w.in-Some-get_mut.ensures.value
          ∙ w.own_children.ensures.same) in
          rw w.self-inside-is (record {
            form = by_outcome {Q =
                AreRemoved c.args.least.first c.args.least.last ts us c.args.start c.args.end}
                did.result ts us did.ensures.tried
                (removed_children c.args.least.first c.args.least.last c.args.self.now ts us
                c.args.start c.args.end i) (still_children c.args.self.now ts us i);
          })
      | Node::remove_in_place-in-Inner+in_ok-own_children-in-Inner+in-None-get_mut w ↦
          rw (w.self-inside-is, w.own_children.ensures.same)
          (record {
            form =
                (inner_of c.self.inside c.args.self.now w.in-Inner.children c.self.invariant
                w.in-Inner.is c.self.view_is).children;
          })
    ]

pub Node::remove_in_place-invariant_of-self-2 : goal.Node::remove_in_place-invariant_of-self-2
Node::remove_in_place-invariant_of-self-2 t c =
    ended t (goal.at.Node::remove_in_place-invariant_of-self-2 t c).Joined-self

pub Node::remove_in_place-returns-clause-tree : goal.Node::remove_in_place-returns-clause-tree
Node::remove_in_place-returns-clause-tree t c =
    node_tree _ _ (ended t (goal.at.Node::remove_in_place-returns-clause-tree t c).Joined-self) refl

pub Node::remove_in_place-returns-in_err-own_children-in-Inner-clause-tree :
    goal.Node::remove_in_place-returns-in_err-own_children-in-Inner-clause-tree
Node::remove_in_place-returns-in_err-own_children-in-Inner-clause-tree t c =
    let i = inner_of c.self.inside c.args.self.now c.in-Inner.children c.self.invariant
    c.in-Inner.is c.self.view_is in
    rw c.own_children.ensures.same
    (subst IsTree i.is (node_tree c.self.inside c.args.self.now c.self.invariant c.self.view_is))

pub Node::remove_in_place-returns-clause-tried : goal.Node::remove_in_place-returns-clause-tried
Node::remove_in_place-returns-clause-tried t c =
    elim c.match-self.branch [
      | Node::remove_in_place-in-Empty w ↦
          rw (w.result-is, w.self-inside-is) (not_tried c.args.self.now _ c.self.view_is)
      | Node::remove_in_place-in-Leaf+in_ok-own_leaf-in-Leaf+in-Some w ↦
          let same =
          leaf_seen c.self.inside c.args.self.now w.in-Leaf.leaf w.in-Some.leaf.now w.in-Leaf.is
          c.self.view_is (w.in-Some.ensures.value ∙ w.own_leaf.ensures.same) in
          rw (w.result-is, w.self-inside-is) (record {
            done = λ yes. subst (λ x. IsRemoved c.args.least.first c.args.least.last x
                w.remove_in_place.new.self c.args.start c.args.end) (sym same)
                (w.remove_in_place.ensures.done yes);
            kept = λ no. w.remove_in_place.ensures.kept no ∙ sym same;
            err = tt;
          })
      | Node::remove_in_place-in-Leaf+in_ok-own_leaf-in-Leaf+in-None w ↦
          rw (w.result-is, w.self-inside-is)
          (not_tried c.args.self.now _
          (sym (leaf_seen c.self.inside c.args.self.now w.in-Leaf.leaf _ w.in-Leaf.is c.self.view_is
          w.own_leaf.ensures.same)))
      | Node::remove_in_place-in-Inner+in_ok-own_children-in-Inner+in-Some-get_mut w ↦
          let did = w.remove_in_place-in-Some-get_mut in
          let ts = w.in-Some-get_mut.children.now in
          let us = did.new.self in
          let i = inner_seen c.self.inside c.args.self.now w.in-Inner.children ts c.self.invariant
          w.in-Inner.is c.self.view_is (w.in-Some-get_mut.ensures.value
          ∙ w.own_children.ensures.same) in
          rw (w.result-is, w.self-inside-is)
          (tried_in did.result tree_over ts us c.args.self.now (tree_over us) i.is refl
          (removed_node c.args.least.first c.args.least.last c.args.self.now ts us c.args.start
          c.args.end i) did.ensures.tried)
      | Node::remove_in_place-in-Inner+in_ok-own_children-in-Inner+in-None-get_mut w ↦
          rw (w.result-is, w.self-inside-is)
          (not_tried c.args.self.now _ (ap tree_over w.own_children.ensures.same
          ∙ sym (inner_of c.self.inside c.args.self.now w.in-Inner.children c.self.invariant
          w.in-Inner.is c.self.view_is).is))
    ]

pub Node::remove_in_place-returns-clause-change : goal.Node::remove_in_place-returns-clause-change
Node::remove_in_place-returns-clause-change t c =
    elim c.match-self.branch [
      | Node::remove_in_place-in-Empty w ↦ rw w.result-is (λ no. cc)
      | Node::remove_in_place-in-Leaf+in_ok-own_leaf-in-Leaf+in-Some w ↦
          let same =
          leaf_seen c.self.inside c.args.self.now w.in-Leaf.leaf w.in-Some.leaf.now w.in-Leaf.is
          c.self.view_is (w.in-Some.ensures.value ∙ w.own_leaf.ensures.same) in
          rw (w.result-is, w.self-inside-is, w.less-is)
          (λ yes. subst (λ x. IsChange w.remove_in_place.new.less no_counts
          (info_of x.breaks (text x)) (info_of x.breaks (text w.remove_in_place.new.self)))
          (sym same) (w.remove_in_place.ensures.change yes))
      | Node::remove_in_place-in-Leaf+in_ok-own_leaf-in-Leaf+in-None w ↦ rw w.result-is (λ no. cc)
      | Node::remove_in_place-in-Inner+in_ok-own_children-in-Inner+in-Some-get_mut w ↦
          let did = w.remove_in_place-in-Some-get_mut in
          let ts = w.in-Some-get_mut.children.now in
          let us = did.new.self in
          let i = inner_seen c.self.inside c.args.self.now w.in-Inner.children ts c.self.invariant
          w.in-Inner.is c.self.view_is (w.in-Some-get_mut.ensures.value
          ∙ w.own_children.ensures.same) in
          let now = did.new.less in
          rw (w.result-is, w.self-inside-is, w.less-is)
          (IfOk-weaker did.result (λ did. did ≡ true
          → IsChange now no_counts (info_of (breaks_of ts) (joined ts))
          (info_of (breaks_of ts) (joined us)))
          (λ did. did ≡ true → IsChange now no_counts
          (info_of c.args.self.now.breaks (text c.args.self.now))
          (info_of c.args.self.now.breaks (text (tree_over us)))) (λ did g yes. rw i.is (g yes))
          did.ensures.change)
      | Node::remove_in_place-in-Inner+in_ok-own_children-in-Inner+in-None-get_mut w ↦
          rw w.result-is (λ no. cc)
    ]

pub Children::remove_in_place-returns-in_err-remove_in_place-clause-searched :
    goal.Children::remove_in_place-returns-in_err-remove_in_place-clause-searched
Children::remove_in_place-returns-in_err-remove_in_place-clause-searched t c =
    let w =
    goal.at.Children::remove_in_place-returns-in_err-remove_in_place-clause-searched t c in
    let h = (down t w.After-index-self-place).own.at_height in
    record { rise = omega (arith, h); nodes = omega (arith, h); compares = omega (arith, h) }

pub Children::remove_in_place-returns-then-not-branch-clause-searched :
    goal.Children::remove_in_place-returns-then-not-branch-clause-searched
Children::remove_in_place-returns-then-not-branch-clause-searched t c =
    let h = (down t (goal.at.Children::remove_in_place-returns-then-not-branch-clause-searched t
    c).After-index-self-place).own.at_height in
    record { rise = omega (arith, h); nodes = omega (arith, h); compares = omega (arith, h) }

pub Children::remove_in_place-returns-clause-searched :
    goal.Children::remove_in_place-returns-clause-searched
Children::remove_in_place-returns-clause-searched t c =
    let h = (down t (goal.at.Children::remove_in_place-returns-clause-searched t
    c).After-index-self-place).own.at_height in
    record { rise = omega (arith, h); nodes = omega (arith, h); compares = omega (arith, h) }

pub Children::remove_in_place-returns-then-not-branch-clause-idle :
    goal.Children::remove_in_place-returns-then-not-branch-clause-idle
Children::remove_in_place-returns-then-not-branch-clause-idle t c =
    let d = down t (goal.at.Children::remove_in_place-returns-then-not-branch-clause-idle t
    c).After-index-self-place in
    if_idle _ (omega (
      arith,
      c.in_ok-remove_in_place.ensures.idle c.if-not-branch.true,
      d.own.at_height,
    ))

pub Children::remove_in_place-remove_across-requires-clause-inside :
    goal.Children::remove_in_place-remove_across-requires-clause-inside
Children::remove_in_place-remove_across-requires-clause-inside t c =
    let goes = rw c.in-Some.is at c.locate.ensures.goes in
    λ d. (goes d).inside refl

-- the list is unchanged where the child is
pub Children::remove_in_place-invariant_of-self : goal.Children::remove_in_place-invariant_of-self
Children::remove_in_place-invariant_of-self t c =
    same_listed c.self.inside _ c.self.invariant
    (unset c.self.inside.nodes c.in-Some.descent.place c.remove_in_place.new.self
    c.index-self-place.result c.in_err-remove_in_place.ensures.tried.err) refl refl refl

pub Children::remove_in_place-returns-in_err-remove_in_place-clause-tried :
    goal.Children::remove_in_place-returns-in_err-remove_in_place-clause-tried
Children::remove_in_place-returns-in_err-remove_in_place-clause-tried t c =
    refused c.from_residual.result c.args.self.now _ c.from_residual.ensures.0
    (same_seen c.self.inside c.args.self.now _
    (unset c.self.inside.nodes c.in-Some.descent.place c.remove_in_place.new.self
    c.index-self-place.result c.in_err-remove_in_place.ensures.tried.err) c.self.view_is)

pub Children::remove_in_place-invariant_of-self-then-not-branch :
    goal.Children::remove_in_place-invariant_of-self-then-not-branch
Children::remove_in_place-invariant_of-self-then-not-branch t c =
    same_listed c.self.inside _ c.self.invariant
    (unset c.self.inside.nodes c.in-Some.descent.place c.remove_in_place.new.self
    c.index-self-place.result (c.in_ok-remove_in_place.ensures.tried.kept c.if-not-branch.true))
    refl refl refl

pub Children::remove_in_place-returns-then-not-branch-clause-tried :
    goal.Children::remove_in_place-returns-then-not-branch-clause-tried
Children::remove_in_place-returns-then-not-branch-clause-tried t c =
    rw c.unchanged-then-not-branch.ensures
    (not_tried c.args.self.now _ (same_seen c.self.inside c.args.self.now _
    (unset c.self.inside.nodes c.in-Some.descent.place c.remove_in_place.new.self
    c.index-self-place.result (c.in_ok-remove_in_place.ensures.tried.kept c.if-not-branch.true))
    c.self.view_is))
