use Rattle.std.proofs.Common.{◌≡◌, ℕ, length, get_or, set, take, sym, refl, ap, arith}
use Rattle.rope_tree.specs.Shape.{IsNode}
use Rattle.rope_leaf.specs.Tree.{Tree, height_of, breaks_of, tree_over}
use Rattle.rope_leaf.proofs.Infos.{small_below}
use Rattle.rope_leaf.proofs.NodeLaws.{small_totals}
use Rattle.rope_tree.proofs.KeptLaws.{unset, same_seen, same_listed, refused, right_within}
use Rattle.rope_tree.proofs.ListedLaws.{tallest_above}
use Rattle.rope_tree.proofs.FormLaws.{inner_of, inner_seen, node_tree, by_outcome, not_tried, tried_in, still_children, grown_children, grown_node}
use Rattle.rope_tree.proofs.ChildLaws.{Finds, found_at, read, part, child_fits, may, small, still_narrow, fields_after, all_grown}
use Rattle.rope_tree.proofs.node.+splitting.Goals.{Children::insert_splitting-After-info-old, Node::insert_splitting-Joined-self, Node::insert_splitting-in-Inner+in-Some, Node::insert_splitting-in-Inner+in-None, Node::insert_splitting-in_default}
use Rattle.rope_tree.proofs.node.+splitting.Goals as goal

-- the child that takes the text
abbrev child : (t : ℕ) → Children::insert_splitting-After-info-old t → Tree
child t c = get_or c.self.inside.nodes c.branch_at-place.result.place c.index-self-place.result

found : (t : ℕ) (c : Children::insert_splitting-After-info-old t)
    → Finds c.self.inside c.args.self.now c.branch_at-place.result.place (child t c) c.args.at
    c.branch_at-place.result.inside c.args.to_right
found t c =
    found_at c.self.inside c.args.self.now c.branch_at-place.result.place c.index-self-place.result
    c.args.at c.branch_at-place.result.inside c.args.to_right
    c.self.view_is c.self.invariant c.requires.children c.branch_at-place.ensures.child
    c.branch_at-place.ensures.place c.branch_at-place.ensures.goes

pub Children::insert_splitting-insert_splitting-requires :
    goal.Children::insert_splitting-insert_splitting-requires
Children::insert_splitting-insert_splitting-requires t c =
    let f = found t (goal.at.Children::insert_splitting-insert_splitting-requires t
    c).After-info-old in
    let low =
    rw f.taken.child_is at (tallest_above c.args.self.now c.branch_at-place.result.place
    (child t (goal.at.Children::insert_splitting-insert_splitting-requires t c).After-info-old)
    f.taken.within) in
    let fits =
    child_fits _ _ _ _ _ _ _ f c.args.added.now c.requires.takes.some c.requires.side
    c.requires.takes.fits in
    let side =
    may _ _ _ _ _ _ _ f c.args.added.now c.requires.takes.some c.requires.side
    c.requires.takes.fits in (
      omega (arith, c.decreases, low),
      (record { within = f.taken.goes.within; some = c.requires.takes.some; fits = fits }, side),
    )

pub Children::insert_splitting-returns-in_err-insert_splitting-clause-made :
    goal.Children::insert_splitting-returns-in_err-insert_splitting-clause-made
Children::insert_splitting-returns-in_err-insert_splitting-clause-made t c =
    omega (
      arith,
      c.insert_splitting.ensures.made,
      (found t (goal.at.Children::insert_splitting-returns-in_err-insert_splitting-clause-made t
          c).After-info-old).taken.own.at_height,
    )

pub Children::insert_splitting-retotal-requires-clause-small :
    goal.Children::insert_splitting-retotal-requires-clause-small
Children::insert_splitting-retotal-requires-clause-small t c =
    let f = found t (goal.at.Children::insert_splitting-retotal-requires-clause-small t
    c).After-info-old in
    small_totals (breaks_of c.args.self.now) c.self.inside.totals c.args.self.now
    (read _ _ _ _ _ _ _ f c.self.inside.totals refl) c.requires.children.fits

pub Children::insert_splitting-retotal-requires-clause-part :
    goal.Children::insert_splitting-retotal-requires-clause-part
Children::insert_splitting-retotal-requires-clause-part t c =
    part _ _ _ _ _ _ _ (found t
    (goal.at.Children::insert_splitting-retotal-requires-clause-part t c).After-info-old)
    c.self.inside.totals refl c.info-old.result c.info-old.ensures.value

pub Children::insert_splitting-retotal-requires-clause-new :
    goal.Children::insert_splitting-retotal-requires-clause-new
Children::insert_splitting-retotal-requires-clause-new t c =
    small_below c.info-grown.result
    (small _ _ _ _ _ _ _ (found t
    (goal.at.Children::insert_splitting-retotal-requires-clause-new t c).After-info-old)
    c.args.added.now c.requires.takes.some c.requires.side c.requires.takes.fits
    c.insert_splitting.new.self (c.in_ok-insert_splitting.ensures.tried.done c.if-not-branch.false)
    c.info-grown.result c.info-grown.ensures.value)

pub Children::insert_splitting-retotal-requires-clause-fits :
    goal.Children::insert_splitting-retotal-requires-clause-fits
Children::insert_splitting-retotal-requires-clause-fits t c =
    still_narrow _ _ _ _ _ _ _
    (found t (goal.at.Children::insert_splitting-retotal-requires-clause-fits t c).After-info-old)
    c.args.added.now c.requires.takes.some c.requires.side c.requires.takes.fits
    c.insert_splitting.new.self (c.in_ok-insert_splitting.ensures.tried.done c.if-not-branch.false)
    c.self.inside.totals refl
    (rw c.len.ensures.value at c.has_room_for.ensures.room c.if-not-has_room_for.false)
    c.info-old.result c.info-grown.result c.info-old.ensures.value c.info-grown.ensures.value

pub Children::insert_splitting-invariant_of-self-2 :
    goal.Children::insert_splitting-invariant_of-self-2
Children::insert_splitting-invariant_of-self-2 t c =
    fields_after _ _ _ _ _ _ _
    (found t (goal.at.Children::insert_splitting-invariant_of-self-2 t c).After-info-old)
    c.args.added.now c.requires.takes.some c.requires.side c.requires.takes.fits
    c.insert_splitting.new.self (c.in_ok-insert_splitting.ensures.tried.done c.if-not-branch.false)
    _ refl refl refl c.self.inside.totals c.retotal.new.self c.info-old.result c.info-grown.result
    refl c.info-old.ensures.value c.info-grown.ensures.value c.retotal.ensures.len
    c.retotal.ensures.before c.retotal.ensures.after refl

pub Children::insert_splitting-returns-clause-made :
    goal.Children::insert_splitting-returns-clause-made
Children::insert_splitting-returns-clause-made t c =
    omega (
      arith,
      c.insert_splitting.ensures.made,
      (found t (goal.at.Children::insert_splitting-returns-clause-made t
          c).After-info-old).taken.own.at_height,
    )

pub Children::insert_splitting-returns-clause-tried :
    goal.Children::insert_splitting-returns-clause-tried
Children::insert_splitting-returns-clause-tried t c = record {
  done = λ yes.
      all_grown _ _ _ _ _ _ _ (found t
      (goal.at.Children::insert_splitting-returns-clause-tried t c).After-info-old) c.args.added.now
      c.requires.takes.some c.requires.side c.requires.takes.fits
      c.insert_splitting.new.self
      (c.in_ok-insert_splitting.ensures.tried.done c.if-not-branch.false)
      (record { height = _; breaks = _; last = c.self.inside.last; totals = _; nodes = _ }) refl
      refl refl c.self.inside.totals c.retotal.new.self c.info-old.result c.info-grown.result refl
      c.info-old.ensures.value c.info-grown.ensures.value c.retotal.ensures.len
      c.retotal.ensures.before c.retotal.ensures.after refl;
  kept = λ no. cc;
  err = tt;
}

-- the node after the edit
ended : (t : ℕ) (c : Node::insert_splitting-Joined-self t) → IsNode c.match-self.self-inside
ended t c =
    elim c.match-self.branch [
      | Node::insert_splitting-in-Inner+in-Some w ↦
          let did = w.insert_splitting in
          let ts = w.in-Some.children.now in
          let us = did.new.self in
          let i = inner_seen c.self.inside c.args.self.now w.in-Inner.children ts c.self.invariant
          w.in-Inner.is c.self.view_is w.in-Some.ensures.value in
          rw w.self-inside-is (record {
            form = by_outcome did.result ts us did.ensures.tried
                (grown_children c.args.self.now ts us c.args.at c.args.added.now i)
                (still_children c.args.self.now ts us i);
          })
      | Node::insert_splitting-in-Inner+in-None w ↦
          rw w.self-inside-is (record {
            form =
                (inner_of c.self.inside c.args.self.now w.in-Inner.children c.self.invariant
                w.in-Inner.is c.self.view_is).children;
          })
      | Node::insert_splitting-in_default w ↦ rw w.self-inside-is c.self.invariant
    ]

pub Node::insert_splitting-invariant_of-self : goal.Node::insert_splitting-invariant_of-self
Node::insert_splitting-invariant_of-self t c =
    ended t (goal.at.Node::insert_splitting-invariant_of-self t c).Joined-self

pub Node::insert_splitting-returns-clause-tree : goal.Node::insert_splitting-returns-clause-tree
Node::insert_splitting-returns-clause-tree t c =
    node_tree _ _ (ended t (goal.at.Node::insert_splitting-returns-clause-tree t c).Joined-self)
    refl

pub Node::insert_splitting-returns-clause-tried : goal.Node::insert_splitting-returns-clause-tried
Node::insert_splitting-returns-clause-tried t c =
    elim c.match-self.branch [
      | Node::insert_splitting-in-Inner+in-Some w ↦
          let did = w.insert_splitting in
          let ts = w.in-Some.children.now in
          let us = did.new.self in
          let i = inner_seen c.self.inside c.args.self.now w.in-Inner.children ts c.self.invariant
          w.in-Inner.is c.self.view_is w.in-Some.ensures.value in
          rw (w.result-is, w.self-inside-is)
          (tried_in did.result tree_over ts us c.args.self.now (tree_over us) i.is refl
          (grown_node c.args.self.now ts us c.args.at c.args.added.now i) did.ensures.tried)
      | Node::insert_splitting-in-Inner+in-None w ↦
          rw (w.result-is, w.self-inside-is)
          (not_tried c.args.self.now _
          (sym (inner_of c.self.inside c.args.self.now w.in-Inner.children c.self.invariant
          w.in-Inner.is c.self.view_is).is))
      | Node::insert_splitting-in_default w ↦
          rw (w.result-is, w.self-inside-is) (not_tried c.args.self.now _ c.self.view_is)
    ]

pub Children::insert_splitting-returns-in_err-insert_splitting-clause-searched :
    goal.Children::insert_splitting-returns-in_err-insert_splitting-clause-searched
Children::insert_splitting-returns-in_err-insert_splitting-clause-searched t c =
    let w =
    goal.at.Children::insert_splitting-returns-in_err-insert_splitting-clause-searched t c in
    let h = (found t w.After-info-old).taken.own.at_height in
    record { rise = omega (arith, h); nodes = omega (arith, h); compares = omega (arith, h) }

pub Children::insert_splitting-returns-clause-searched :
    goal.Children::insert_splitting-returns-clause-searched
Children::insert_splitting-returns-clause-searched t c =
    let h = (found t (goal.at.Children::insert_splitting-returns-clause-searched t
    c).After-info-old).taken.own.at_height in
    record { rise = omega (arith, h); nodes = omega (arith, h); compares = omega (arith, h) }

pub Children::insert_splitting-branch_at-place-requires-clause-right :
    goal.Children::insert_splitting-branch_at-place-requires-clause-right
Children::insert_splitting-branch_at-place-requires-clause-right t c =
    right_within c.args.self.now c.args.at c.args.added.now c.args.to_right c.requires.side

-- the list is unchanged where the child is
pub Children::insert_splitting-invariant_of-self : goal.Children::insert_splitting-invariant_of-self
Children::insert_splitting-invariant_of-self t c =
    same_listed c.self.inside _ c.self.invariant
    (unset c.self.inside.nodes c.branch_at-place.result.place c.insert_splitting.new.self
    c.index-self-place.result c.in_err-insert_splitting.ensures.tried.err) refl refl refl

pub Children::insert_splitting-returns-in_err-insert_splitting-clause-tried :
    goal.Children::insert_splitting-returns-in_err-insert_splitting-clause-tried
Children::insert_splitting-returns-in_err-insert_splitting-clause-tried t c =
    refused c.from_residual.result c.args.self.now _ c.from_residual.ensures.0
    (same_seen c.self.inside c.args.self.now _
    (unset c.self.inside.nodes c.branch_at-place.result.place c.insert_splitting.new.self
    c.index-self-place.result c.in_err-insert_splitting.ensures.tried.err) c.self.view_is)

-- the children before the second step, which are those before the first
same_nodes : (t : ℕ) (c : Children::insert_splitting-After-info-old t) (u : Tree) → u ≡ child t c
    → set c.self.inside.nodes c.branch_at-place.result.place u ≡ c.self.inside.nodes
same_nodes t c u same = unset c.self.inside.nodes c.branch_at-place.result.place u
    c.index-self-place.result same

same_children : (t : ℕ) (c : Children::insert_splitting-After-info-old t) (u : Tree) → u ≡ child t c
    → take (length c.self.inside.totals) (set c.self.inside.nodes c.branch_at-place.result.place u)
    ≡ c.args.self.now
same_children t c u same =
    same_seen c.self.inside c.args.self.now _ (same_nodes t c u same) c.self.view_is

pub Children::insert_splitting-invariant_of-self-then-not-branch :
    goal.Children::insert_splitting-invariant_of-self-then-not-branch
Children::insert_splitting-invariant_of-self-then-not-branch t c =
    same_listed c.self.inside _ c.self.invariant
    (unset c.self.inside.nodes c.branch_at-place.result.place c.insert_splitting.new.self
    c.index-self-place.result (c.in_ok-insert_splitting.ensures.tried.kept c.if-not-branch.true))
    refl refl refl

pub Children::insert_splitting-split_child-requires-clause-children :
    goal.Children::insert_splitting-split_child-requires-clause-children
Children::insert_splitting-split_child-requires-clause-children t c =
    let same =
    same_children t (goal.at.Children::insert_splitting-split_child-requires-clause-children t
    c).After-info-old c.insert_splitting.new.self
    (c.in_ok-insert_splitting.ensures.tried.kept c.if-not-branch.true) in
    rw same c.requires.children

pub Children::insert_splitting-split_child-requires-clause-takes :
    goal.Children::insert_splitting-split_child-requires-clause-takes
Children::insert_splitting-split_child-requires-clause-takes t c =
    let same =
    same_children t (goal.at.Children::insert_splitting-split_child-requires-clause-takes t
    c).After-info-old c.insert_splitting.new.self
    (c.in_ok-insert_splitting.ensures.tried.kept c.if-not-branch.true) in
    rw same c.requires.takes

pub Children::insert_splitting-split_child-requires-clause-side :
    goal.Children::insert_splitting-split_child-requires-clause-side
Children::insert_splitting-split_child-requires-clause-side t c =
    let same =
    same_children t (goal.at.Children::insert_splitting-split_child-requires-clause-side t
    c).After-info-old c.insert_splitting.new.self
    (c.in_ok-insert_splitting.ensures.tried.kept c.if-not-branch.true) in
    rw same c.requires.side

pub Children::insert_splitting-returns-then-not-branch-clause-tried :
    goal.Children::insert_splitting-returns-then-not-branch-clause-tried
Children::insert_splitting-returns-then-not-branch-clause-tried t c =
    let same =
    same_children t (goal.at.Children::insert_splitting-returns-then-not-branch-clause-tried t
    c).After-info-old c.insert_splitting.new.self
    (c.in_ok-insert_splitting.ensures.tried.kept c.if-not-branch.true) in
    rw same at c.split_child.ensures.tried

pub Children::insert_splitting-returns-then-not-branch-clause-searched :
    goal.Children::insert_splitting-returns-then-not-branch-clause-searched
Children::insert_splitting-returns-then-not-branch-clause-searched t c =
    let e = (goal.at.Children::insert_splitting-returns-then-not-branch-clause-searched t
    c).After-info-old in
    let h = (found t e).taken.own.at_height in
    let same = ap height_of (same_children t e c.insert_splitting.new.self
    (c.in_ok-insert_splitting.ensures.tried.kept c.if-not-branch.true)) in
    let down = c.in_ok-insert_splitting.ensures.idle_searched c.if-not-branch.true in
    record {
      rise = omega (arith, down.rise);
      nodes = omega (arith, h, same, down.nodes);
      compares = omega (arith, h, same, down.compares);
    }
