use Rattle.std.proofs.Common.{◌≡◌, ◌-◌, ◌≤◌, ◌<◌, List, ◌++◌, length, take, drop, refl, sym, ap, subst, arith}
use Rattle.std.specs.List.{All}
use Rattle.std.proofs.lemmas.Result.{IfOk-weaker}
use Rattle.rope_leaf.specs.Leaves.{Recuts}
use Rattle.rope_leaf.specs.Tree.{Tree, leaves_of, height_of, breaks_of, IsTree, IsChild}
use Rattle.rope_tree.specs.View.{trees_in}
use Rattle.rope_leaf.proofs.NodeLaws.{first_height}
use Rattle.rope_join.specs.Put.{IsPut, leaves_before, leaves_after}
use Rattle.rope_join.proofs.Puts.{put_level, put_family, put_is, put_tree, level_each, level_count, level_recuts, left_join, united_each, united_count, united_recuts}
use Rattle.rope_join.proofs.gap.put.Goals.{After-new, After-index-children-first, After-first-2}
use Rattle.rope_join.proofs.gap.put.Goals as goal

-- nodes of the children's height
all : (c : After-new) → List Tree
all c = c.first.result.nodes.now ++ (c.new.result.nodes.now ++ c.rest-after.result.nodes.now)

rows : (c : After-new) → all c ≡ take c.args.first c.args.children.now
    ++ (c.in-Inner.nodes.now ++ drop c.args.past c.args.children.now)
unfolding all
rows c = rw (
  c.first.ensures.nodes,
  c.new.ensures.nodes,
  c.rest-after.ensures.nodes,
  c.of-row.ensures.nodes,
) refl

high : (c : After-new) → height_of c.args.children.now < c.args.part.now.height
high c =
    let ts = c.args.children.now in
    let first =
    first_height ts c.index-children-0.result (omega (arith, c.requires.children.at_least_two)) in
    omega (
      arith,
      c.if-height.true,
      c.height.ensures.value,
      c.height-2.ensures.value,
      ap (λ t. t.height) c.index-children-0.is,
      first,
    )

each : (c : After-new) → All
    (IsChild (breaks_of c.args.children.now) (height_of c.args.children.now)) (all c)
each c = subst (All (IsChild (breaks_of c.args.children.now) (height_of c.args.children.now)))
    (sym (rows c))
    (level_each c.args.children.now c.args.first c.args.past c.args.part.now c.requires.children
    c.requires.put c.in-Inner.nodes.now c.in-Inner.ensures.is c.in-Inner.ensures.children (high c))

count : (c : After-new) → (2 ≤ length (all c)) × (length (all c) ≤ 48)
count c = rw (rows c)
    (level_count c.args.children.now c.args.first c.args.past c.args.part.now c.requires.children
    c.requires.put c.in-Inner.nodes.now c.in-Inner.ensures.is c.in-Inner.ensures.children (high c))

many : (c : After-new) → 2 ≤ length (all c)
many c = (count c).0

recuts : (c : After-new)
    → Recuts (leaves_before c.args.children.now c.args.first)
    (leaves_after c.args.children.now c.args.past c.args.part.now) (leaves_of (all c))
recuts c =
    subst (λ ts. Recuts (leaves_before c.args.children.now c.args.first)
    (leaves_after c.args.children.now c.args.past c.args.part.now) (leaves_of ts)) (sym (rows c))
    (level_recuts c.args.children.now c.args.first c.args.past c.args.part.now c.requires.children
    c.requires.put c.in-Inner.nodes.now c.in-Inner.ensures.is c.in-Inner.ensures.children (high c))

pub pack_over-requires-clause-siblings : goal.pack_over-requires-clause-siblings
unfolding all
pack_over-requires-clause-siblings c =
    let e = (goal.at.pack_over-requires-clause-siblings c).After-new in
    put_level c.args.children.now c.args.first c.args.past c.args.part.now c.requires.children
    c.requires.put (all e) (each e) (many e) (recuts e)

pub pack_over-requires-clause-at_least_two : goal.pack_over-requires-clause-at_least_two
unfolding all
pack_over-requires-clause-at_least_two c =
    many (goal.at.pack_over-requires-clause-at_least_two c).After-new

pub pack_over-requires-clause-at_most_48 : goal.pack_over-requires-clause-at_most_48
unfolding all
pack_over-requires-clause-at_most_48 c =
    (count (goal.at.pack_over-requires-clause-at_most_48 c).After-new).1

pub root_of-requires : goal.root_of-requires
unfolding all
root_of-requires c =
    let e = (goal.at.root_of-requires c).After-new in
    put_family c.args.children.now c.args.first c.args.past c.args.part.now c.requires.children
    c.requires.put (all e) (each e) (many e) (recuts e) c.in_ok-packed.packed
    c.in_ok-packed.ensures.leaves c.in_ok-packed.ensures.shape

pub returns-then-height-clause-put : goal.returns-then-height-clause-put
unfolding all
returns-then-height-clause-put c =
    let e = (goal.at.returns-then-height-clause-put c).After-new in
    IfOk-weaker c.root_of.result _
    (IsPut c.args.children.now c.args.first c.args.past c.args.part.now) (λ node is.
    put_is c.args.children.now c.args.first c.args.past c.args.part.now c.requires.children
    c.requires.put (all e) (each e) (many e) (recuts e) c.in_ok-packed.packed
    c.in_ok-packed.ensures.leaves c.in_ok-packed.ensures.shape node is) c.root_of.ensures.ok

pub returns-then-height-clause-tree : goal.returns-then-height-clause-tree
unfolding all
returns-then-height-clause-tree c =
    let e = (goal.at.returns-then-height-clause-tree c).After-new in
    IfOk-weaker c.root_of.result _ IsTree (λ node is.
    put_tree c.args.children.now c.args.first c.args.past c.args.part.now c.requires.children
    c.requires.put (all e) (each e) (many e) (recuts e) c.in_ok-packed.packed
    c.in_ok-packed.ensures.leaves c.in_ok-packed.ensures.shape node is) c.root_of.ensures.ok

-- a tree that is no higher, and the child before it
low : (c : After-index-children-first) → c.args.part.now.height ≤ height_of c.args.children.now
low c =
    let ts = c.args.children.now in
    let first =
    first_height ts c.index-children-0.result (omega (arith, c.requires.children.at_least_two)) in
    omega (
      arith,
      c.if-height.false,
      c.height.ensures.value,
      c.height-2.ensures.value,
      ap (λ t. t.height) c.index-children-0.is,
      first,
    )

pub unite-requires-clause-join : goal.unite-requires-clause-join
unite-requires-clause-join c =
    left_join c.args.children.now c.args.first c.args.past c.args.part.now c.requires.children
    c.requires.put c.index-children-first.result (sym c.index-children-first.is)

united : (c : After-first-2) → List Tree
united c =
    c.first-2.result.nodes.now ++ (trees_in c.in_ok-middle.middle ++ c.rest-after.result.nodes.now)

united_rows : (c : After-first-2) → united c ≡ take (c.args.first - 1) c.args.children.now
    ++ (trees_in c.in_ok-middle.middle ++ drop c.args.past c.args.children.now)
unfolding united
united_rows c =
    rw (c.first-2.ensures.nodes, c.rest-after.ensures.nodes, c.of-row.ensures.nodes) refl

two_each : (c : After-first-2)
    → All (IsChild (breaks_of c.args.children.now) (height_of c.args.children.now)) (united c)
two_each c =
    let e = (goal.at.After-first-2 c).After-index-children-first in
    subst (All (IsChild (breaks_of c.args.children.now) (height_of c.args.children.now)))
    (sym (united_rows c))
    (united_each c.args.children.now c.args.first c.args.past c.args.part.now c.requires.children
    c.requires.put c.index-children-first.result (sym c.index-children-first.is)
    (trees_in c.in_ok-middle.middle) c.in_ok-middle.ensures.union (low e))

two_count : (c : After-first-2) → (2 ≤ length (united c)) × (length (united c) ≤ 48)
two_count c =
    let e = (goal.at.After-first-2 c).After-index-children-first in
    rw (united_rows c)
    (united_count c.args.children.now c.args.first c.args.past c.args.part.now c.requires.children
    c.requires.put c.index-children-first.result (sym c.index-children-first.is)
    (trees_in c.in_ok-middle.middle) c.in_ok-middle.ensures.union (low e))

two_many : (c : After-first-2) → 2 ≤ length (united c)
two_many c = (two_count c).0

two_recuts : (c : After-first-2)
    → Recuts (leaves_before c.args.children.now c.args.first)
    (leaves_after c.args.children.now c.args.past c.args.part.now) (leaves_of (united c))
two_recuts c =
    let e = (goal.at.After-first-2 c).After-index-children-first in
    subst (λ ts. Recuts (leaves_before c.args.children.now c.args.first)
    (leaves_after c.args.children.now c.args.past c.args.part.now) (leaves_of ts))
    (sym (united_rows c))
    (united_recuts c.args.children.now c.args.first c.args.past c.args.part.now c.requires.children
    c.requires.put c.index-children-first.result (sym c.index-children-first.is)
    (trees_in c.in_ok-middle.middle) c.in_ok-middle.ensures.union (low e))

pub pack-requires-clause-siblings : goal.pack-requires-clause-siblings
unfolding united
pack-requires-clause-siblings c =
    let e = (goal.at.pack-requires-clause-siblings c).After-first-2 in
    put_level c.args.children.now c.args.first c.args.past c.args.part.now c.requires.children
    c.requires.put (united e) (two_each e) (two_many e) (two_recuts e)

pub pack-requires-clause-at_least_two : goal.pack-requires-clause-at_least_two
unfolding united
pack-requires-clause-at_least_two c =
    two_many (goal.at.pack-requires-clause-at_least_two c).After-first-2

pub pack-requires-clause-at_most_48 : goal.pack-requires-clause-at_most_48
unfolding united
pack-requires-clause-at_most_48 c =
    (two_count (goal.at.pack-requires-clause-at_most_48 c).After-first-2).1

pub root_of-requires-2 : goal.root_of-requires-2
unfolding united
root_of-requires-2 c =
    let e = (goal.at.root_of-requires-2 c).After-first-2 in
    put_family c.args.children.now c.args.first c.args.past c.args.part.now c.requires.children
    c.requires.put (united e) (two_each e) (two_many e) (two_recuts e) c.in_ok-packed-2.packed
    c.in_ok-packed-2.ensures.leaves c.in_ok-packed-2.ensures.shape

pub returns-clause-put : goal.returns-clause-put
unfolding united
returns-clause-put c =
    let e = (goal.at.returns-clause-put c).After-first-2 in
    IfOk-weaker c.root_of-2.result _
    (IsPut c.args.children.now c.args.first c.args.past c.args.part.now) (λ node is.
    put_is c.args.children.now c.args.first c.args.past c.args.part.now c.requires.children
    c.requires.put (united e) (two_each e) (two_many e) (two_recuts e) c.in_ok-packed-2.packed
    c.in_ok-packed-2.ensures.leaves c.in_ok-packed-2.ensures.shape node is) c.root_of-2.ensures.ok

pub returns-clause-tree : goal.returns-clause-tree
unfolding united
returns-clause-tree c =
    let e = (goal.at.returns-clause-tree c).After-first-2 in
    IfOk-weaker c.root_of-2.result _ IsTree (λ node is.
    put_tree c.args.children.now c.args.first c.args.past c.args.part.now c.requires.children
    c.requires.put (united e) (two_each e) (two_many e) (two_recuts e) c.in_ok-packed-2.packed
    c.in_ok-packed-2.ensures.leaves c.in_ok-packed-2.ensures.shape node is) c.root_of-2.ensures.ok
