use Rattle.std.proofs.Common.{ap, ap₂, refl, ◌∙◌, arith}
use Rattle.rope_leaf.specs.Tree.{breaks_of}
use Rattle.rope_leaf.specs.Search.{IsSmall}
use Rattle.rope_text.specs.TextInfo.{info_of, info_sum}
use Rattle.rope_leaf.proofs.NodeLaws.{small_totals}
use Rattle.rope_leaf.proofs.InsertLeaves.{text_of_leaf}
use Rattle.rope_leaf.proofs.Descents.{Descends, child_counts, child_total, descends}
use Rattle.rope_tree.proofs.LookupDescent.{at_start, at_end, further, small_more}
use Rattle.rope_tree.proofs.lookup.leaf_at.Goals.{After-total_before-front}
use Rattle.rope_leaf.proofs.Infos.{small_sum}
use Rattle.rope_text.proofs.InfoLaws.{part_of_sum}
use Rattle.rope_tree.proofs.lookup.leaf_at.Goals as goal

-- the index is in the child that the search returns
down : (c : After-total_before-front)
    → Descends (breaks_of c.in-Inner.children.now) c.args.unit c.down.rest c.in-Inner.children.now
    c.place_of-place.result c.index-children-place.result c.total_before-front.result
down c =
    descends c.args.unit c.down.rest c.in-Inner.children.now c.in-Inner.totals.now
    c.place_of-place.result c.index-children-place.result c.total_before-front.result
    c.in-Inner.ensures.children c.in-Inner.ensures.totals_right c.place_of-place.ensures.within
    c.index-children-place.is
    c.total_before-front.ensures.first c.total_before-front.ensures.later
    c.place_of-place.ensures.before c.place_of-place.ensures.past

small : (c : After-total_before-front)
    → IsSmall (info_sum c.down.before c.total_before-front.result)
small c =
    small_more c.args.unit c.args.at c.args.node.now c.down.here.now c.down.rest c.down.before
    c.in-Inner.children.now c.place_of-place.result
    c.index-children-place.result c.total_before-front.result c.info-inside.ensures.tree
    c.down.invariant.0 c.in-Inner.ensures.is (down c)

pub minus-inside-requires : goal.minus-inside-requires
minus-inside-requires c =
    let w = down (goal.at.minus-inside-requires c).After-total_before-front in
    let v = c.in-Inner.ensures in
    part_of_sum _ _ _ (child_total c.in-Inner.children.now c.in-Inner.totals.now
    c.place_of-place.result c.index-children-place.result c.total_before-front.result c.get.result
    v.children v.totals_right w.within c.index-children-place.is w.front_is
    (c.get.ensures c.get.result))

pub down-init : goal.down-init
down-init c = (
  at_start c.args.unit c.args.at c.args.node.now c.new-before.result c.new-before.ensures
      c.requires.within,
  record { nodes = refl; compares = omega arith; counted = omega arith; made = refl },
  c.info-inside.ensures.value,
)

pub place_of-place-requires-clause-small : goal.place_of-place-requires-clause-small
place_of-place-requires-clause-small c =
    small_totals _ c.in-Inner.totals.now c.in-Inner.children.now c.in-Inner.ensures.totals_right
    c.in-Inner.ensures.children.fits

pub count-rest-requires : goal.count-rest-requires
count-rest-requires c = (down c).small

pub overflow_sub-rest : goal.overflow_sub-rest
overflow_sub-rest c =
    let d = down (goal.at.overflow_sub-rest c).After-total_before-front in
    omega (arith, d.not_past, c.count-rest.ensures)

pub plus-before-requires : goal.plus-before-requires
plus-before-requires c =
    small_sum _ _ (small (goal.at.plus-before-requires c).After-total_before-front)

pub down-smaller : goal.down-smaller
down-smaller c =
    let d = down (goal.at.down-smaller c).After-total_before-front in
    omega (arith, ap (λ u. u.height) c.in-Inner.ensures.is, d.own.at_height)

pub down-preserved : goal.down-preserved
down-preserved c =
    let before = (goal.at.down-preserved c).After-total_before-front in
    let child = c.index-children-place.result in
    let d = down before in
    let above = ap (λ u. u.height) c.in-Inner.ensures.is in
    let steps = c.down.invariant.1 in (
      rw (c.plus-before.ensures.sum, c.count-rest.ensures)
          (further c.args.unit c.args.at c.args.node.now c.down.here.now c.down.rest c.down.before
          c.in-Inner.children.now c.place_of-place.result child c.total_before-front.result
          c.info-inside.ensures.tree c.down.invariant.0 c.in-Inner.ensures.is d),
      record {
        nodes = omega (arith, above, d.own.at_height, steps.nodes, c.place_of-place.ensures.nodes);
        compares =
            omega (
              arith,
              above,
              d.own.at_height,
              steps.compares,
              c.place_of-place.ensures.compares,
            );
        counted =
            omega (
              arith,
              above,
              d.own.at_height,
              steps.counted,
              c.place_of-place.ensures.counted,
              c.in-Inner.ensures.children.at_least_two,
              c.in-Inner.ensures.totals_right.as_many,
            );
        made = omega (arith, steps.made, c.place_of-place.ensures.made);
      },
      child_counts c.in-Inner.children.now c.in-Inner.totals.now c.place_of-place.result child
          c.total_before-front.result c.get.result c.minus-inside.result
          c.in-Inner.ensures.children c.in-Inner.ensures.totals_right d.within
          c.index-children-place.is d.front_is (c.get.ensures c.get.result)
          c.minus-inside.ensures.sum,
    )

pub returns-in-Leaf-clause-found : goal.returns-in-Leaf-clause-found
returns-in-Leaf-clause-found c =
    at_end c.args.unit c.args.at c.args.node.now c.down.here.now c.down.rest c.down.before
    c.in-Leaf.leaf c.info-inside.ensures.tree c.down.invariant.0 c.in-Leaf.ensures.is

pub returns-in-Leaf-clause-inside : goal.returns-in-Leaf-clause-inside
returns-in-Leaf-clause-inside c =
    let here = c.down.here.now in
    c.down.invariant.2 ∙ ap₂ info_of c.down.invariant.0.same_breaks
    (text_of_leaf here.breaks here c.in-Leaf.leaf c.in-Leaf.ensures.is)
