use Rattle.std.proofs.Common.{◌≡◌, ◌+◌, ◌/◌, ◌<◌, List, ◌++◌, length, take, drop, refl, ap, ◌∙◌, arith}
use Rattle.std.proofs.lemmas.List.{length-append}
use Rattle.rope_leaf.specs.Tree.{Tree, tree_over}
use Rattle.rope_leaf.proofs.SiblingLaws.{one_part, first_half, second_half, two_parts, two_leaves}
use Rattle.rope_tree.proofs.RowLaws.{front_row, back_row, children_seen}
use Rattle.rope_tree.proofs.node.row.pack_over.Goals.{After-first-3, After-rest-3}
use Rattle.rope_tree.proofs.node.row.pack_over.Goals as goal

counted : (xs ys zs : List Tree) → length (xs ++ (ys ++ zs)) ≡ length xs + length ys + length zs
counted xs ys zs = omega (arith, length-append xs (ys ++ zs), length-append ys zs)

pub returns-then-count-le-MAX_CHILDREN-clause-shape :
    goal.returns-then-count-le-MAX_CHILDREN-clause-shape
returns-then-count-le-MAX_CHILDREN-clause-shape c =
    let ts = c.args.before.nodes.now ++ (c.args.middle.nodes.now ++ c.args.after.nodes.now) in
    one_part _ _ ts c.requires.siblings c.requires.at_least_two
    (omega (
      arith,
      counted c.args.before.nodes.now c.args.middle.nodes.now c.args.after.nodes.now,
      c.if-count-le-MAX_CHILDREN.true,
    )) _ c.in_ok-node.ensures.ok

many : (c : After-first-3)
    → 24 < length (c.args.before.nodes.now ++ (c.args.middle.nodes.now ++ c.args.after.nodes.now))
many c = omega (
  arith,
  counted c.args.before.nodes.now c.args.middle.nodes.now
      c.args.after.nodes.now,
  c.if-count-le-MAX_CHILDREN.false,
)

front : (c : After-first-3) → c.first.result.nodes.now
    ++ (c.first-2.result.nodes.now ++ c.first-3.result.nodes.now)
    ≡ take (length (c.args.before.nodes.now ++ (c.args.middle.nodes.now ++ c.args.after.nodes.now))
    / 2) (c.args.before.nodes.now ++ (c.args.middle.nodes.now ++ c.args.after.nodes.now))
front c =
    front_row c.args.before.nodes.now c.args.middle.nodes.now c.args.after.nodes.now _
    c.saturating_sub-more.result c.saturating_sub-most.result refl c.saturating_sub-more.ensures
    c.saturating_sub-most.ensures
    _ _ _ c.first.ensures.nodes c.first-2.ensures.nodes c.first-3.ensures.nodes

back : (c : After-rest-3) → c.rest.result.nodes.now
    ++ (c.rest-2.result.nodes.now ++ c.rest-3.result.nodes.now)
    ≡ drop (length (c.args.before.nodes.now ++ (c.args.middle.nodes.now ++ c.args.after.nodes.now))
    / 2) (c.args.before.nodes.now ++ (c.args.middle.nodes.now ++ c.args.after.nodes.now))
back c =
    back_row c.args.before.nodes.now c.args.middle.nodes.now c.args.after.nodes.now _
    c.saturating_sub-more.result c.saturating_sub-most.result refl c.saturating_sub-more.ensures
    c.saturating_sub-most.ensures
    _ _ _ c.rest.ensures.nodes c.rest-2.ensures.nodes c.rest-3.ensures.nodes

pub make_over-requires-2-clause-children : goal.make_over-requires-2-clause-children
make_over-requires-2-clause-children c =
    let e = (goal.at.make_over-requires-2-clause-children c).After-first-3 in
    children_seen _ _ _ _ (front e)
    (first_half _ _ _ c.requires.siblings (many e) c.requires.at_most_48)

pub make_over-requires-3-clause-children : goal.make_over-requires-3-clause-children
make_over-requires-3-clause-children c =
    let m = many (goal.at.make_over-requires-3-clause-children c).After-first-3 in
    children_seen _ _ _ _ (back (goal.at.make_over-requires-3-clause-children c).After-rest-3)
    (second_half _ _ _ c.requires.siblings m c.requires.at_most_48)

pub returns-clause-leaves : goal.returns-clause-leaves
returns-clause-leaves c =
    let e = (goal.at.returns-clause-leaves c).After-first-3 in
    two_leaves _ _ _ c.requires.siblings (many e) c.requires.at_most_48 _ _
    (c.in_ok-first.ensures.ok ∙ ap tree_over (front e)) (c.in_ok-second.ensures.ok
    ∙ ap tree_over (back (goal.at.returns-clause-leaves c).After-rest-3))

pub returns-clause-shape : goal.returns-clause-shape
returns-clause-shape c =
    let e = (goal.at.returns-clause-shape c).After-first-3 in
    two_parts _ _ _ c.requires.siblings (many e) c.requires.at_most_48 _ _ (c.in_ok-first.ensures.ok
    ∙ ap tree_over (front e)) (c.in_ok-second.ensures.ok
    ∙ ap tree_over (back (goal.at.returns-clause-shape c).After-rest-3))
