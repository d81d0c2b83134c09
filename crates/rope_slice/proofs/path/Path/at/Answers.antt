use Rattle.std.proofs.Common.{◌≡◌, refl, sym, ap, ap₂, ◌∙◌, arith}
use Rattle.std.specs.Str.{chars}
use Rattle.rope_text.specs.TextInfo.{info_of, info_sum}
use Rattle.rope_text.proofs.InfoLaws.{part_of_sum}
use Rattle.rope_leaf.specs.Search.{IsSmall}
use Rattle.rope_leaf.specs.Tree.{breaks_of, leaf_tree}
use Rattle.rope_leaf.proofs.NodeLaws.{small_totals}
use Rattle.rope_leaf.proofs.Descents.{Descends, child_counts, child_total, descends}
use Rattle.rope_tree.proofs.LookupDescent.{at_end, small_more}
use Rattle.rope_slice.proofs.PathLaws.{first_counts, path_start, path_down, path_end, path_holds, leaves_descent}
use Rattle.rope_slice.proofs.path.Path.at.Goals.{After-total_before-front, After-as_str-leaf}
use Rattle.rope_leaf.proofs.Infos.{small_sum}
use Rattle.rope_leaf.proofs.InsertLeaves.{text_of_leaf}
use Rattle.rope_slice.proofs.path.Path.at.Goals as goal

-- the index is in the child that the search returns
down : (c : After-total_before-front)
    → Descends (breaks_of c.in-Inner.children.now) c.args.unit c.down.rest c.in-Inner.children.now
    c.child_at-at.result c.index-children-at.result c.total_before-front.result
down c =
    descends c.args.unit c.down.rest c.in-Inner.children.now c.in-Inner.sums.now
    c.child_at-at.result c.index-children-at.result c.total_before-front.result
    c.in-Inner.ensures.children c.in-Inner.ensures.totals_right c.child_at-at.ensures.within
    c.index-children-at.is
    c.total_before-front.ensures.first c.total_before-front.ensures.later
    c.child_at-at.ensures.before c.child_at-at.ensures.past

small : (c : After-total_before-front)
    → IsSmall (info_sum c.down.before c.total_before-front.result)
small c =
    small_more c.args.unit c.args.idx c.args.root.now c.down.here.now c.down.rest c.down.before
    c.in-Inner.children.now c.child_at-at.result
    c.index-children-at.result c.total_before-front.result c.requires.tree
    c.down.invariant.0.descent c.in-Inner.ensures.is (down c)

pub down-init : goal.down-init
down-init c = (
  path_start c.args.unit c.args.idx c.args.root.now _ c.new-before.ensures c.requires.within,
  c.info-inside.ensures.value,
  λ some. absurd (omega (arith, some)),
)

pub child_at-at-requires-clause-small : goal.child_at-at-requires-clause-small
child_at-at-requires-clause-small c =
    small_totals _ c.in-Inner.sums.now c.in-Inner.children.now c.in-Inner.ensures.totals_right
    c.in-Inner.ensures.children.fits

pub count-rest-requires : goal.count-rest-requires
count-rest-requires c = (down (goal.at.count-rest-requires c).After-total_before-front).small

pub overflow_sub-rest : goal.overflow_sub-rest
overflow_sub-rest c =
    let d = down (goal.at.overflow_sub-rest c).After-total_before-front in
    omega (arith, d.not_past, c.count-rest.ensures)

pub plus-before-requires : goal.plus-before-requires
plus-before-requires c =
    small_sum _ _ (small (goal.at.plus-before-requires c).After-total_before-front)

pub down-smaller : goal.down-smaller
down-smaller c =
    let d = down (goal.at.down-smaller c).After-total_before-front in
    omega (arith, ap (λ u. u.height) c.in-Inner.ensures.is, d.own.at_height)

pub minus-inside-requires : goal.minus-inside-requires
minus-inside-requires c =
    let w = down (goal.at.minus-inside-requires c).After-total_before-front in
    let v = c.in-Inner.ensures in
    part_of_sum _ _ _ (child_total c.in-Inner.children.now c.in-Inner.sums.now c.child_at-at.result
    c.index-children-at.result c.total_before-front.result c.get.result v.children v.totals_right
    w.within c.index-children-at.is w.front_is (c.get.ensures c.get.result))

pub down-preserved : goal.down-preserved
down-preserved c =
    let d = down (goal.at.down-preserved c).After-total_before-front in
    let v = c.in-Inner.ensures in (
      rw (c.plus-before.ensures.sum, c.count-rest.ensures)
          (path_down c.args.unit c.args.idx c.args.root.now c.down.here.now c.down.rest
          c.down.before c.down.nodes.now c.in-Inner.children.now c.down.at c.child_at-at.result
          c.index-children-at.result c.total_before-front.result
          c.requires.tree c.down.invariant.0 v.is d),
      child_counts c.in-Inner.children.now c.in-Inner.sums.now c.child_at-at.result
          c.index-children-at.result c.total_before-front.result c.get.result c.minus-inside.result
          v.children v.totals_right d.within c.index-children-at.is d.front_is
          (c.get.ensures c.get.result) c.minus-inside.ensures.sum,
      λ some. record { is = refl; children = v.children; totals_right = v.totals_right },
    )

leaf_is : (c : After-as_str-leaf) → c.down.here.now
    ≡ leaf_tree c.down.here.now.breaks (chars c.as_str-leaf.result.now)
leaf_is c = c.in-Leaf.ensures.is
    ∙ ap (leaf_tree c.down.here.now.breaks) (sym c.as_str-leaf.ensures.chars)

pub invariant_of-path : goal.invariant_of-path
invariant_of-path c = record {
  descent =
      path_end c.args.unit c.args.idx c.args.root.now c.down.here.now c.down.rest c.down.before
      c.down.nodes.now c.down.at (chars c.as_str-leaf.result.now) c.requires.tree c.down.invariant.0
      (leaf_is (goal.at.invariant_of-path c).After-as_str-leaf);
  listed = c.down.invariant.2;
}

pub returns-in-Leaf-clause-leaves : goal.returns-in-Leaf-clause-leaves
returns-in-Leaf-clause-leaves c =
    leaves_descent c.args.root.now c.down.nodes.now c.down.at (chars c.as_str-leaf.result.now)
    c.down.before.bytes
    (path_end c.args.unit c.args.idx c.args.root.now c.down.here.now c.down.rest c.down.before
    c.down.nodes.now c.down.at (chars c.as_str-leaf.result.now) c.requires.tree c.down.invariant.0
    (leaf_is (goal.at.returns-in-Leaf-clause-leaves c).After-as_str-leaf))

pub returns-in-Leaf-clause-holds : goal.returns-in-Leaf-clause-holds
returns-in-Leaf-clause-holds c =
    path_holds c.args.unit c.args.idx c.args.root.now c.down.here.now c.down.rest c.down.before
    c.down.nodes.now c.down.at (chars c.as_str-leaf.result.now) c.requires.tree c.down.invariant.0
    (leaf_is (goal.at.returns-in-Leaf-clause-holds c).After-as_str-leaf)

pub returns-in-Leaf-clause-leaf : goal.returns-in-Leaf-clause-leaf
returns-in-Leaf-clause-leaf c = sym c.as_str-leaf.ensures.chars

pub returns-in-Leaf-clause-inside : goal.returns-in-Leaf-clause-inside
returns-in-Leaf-clause-inside c =
    let here = c.down.here.now in
    let leaf = chars c.as_str-leaf.result.now in
    c.down.invariant.1 ∙ ap₂ info_of c.down.invariant.0.descent.same_breaks
    (text_of_leaf here.breaks here leaf
    (leaf_is (goal.at.returns-in-Leaf-clause-inside c).After-as_str-leaf))

pub child_at-at-requires-clause-first : goal.child_at-at-requires-clause-first
child_at-at-requires-clause-first c =
    λ item. first_counts c.args.unit item (breaks_of c.in-Inner.children.now) c.in-Inner.sums.now
    c.in-Inner.children.now c.in-Inner.ensures.children c.in-Inner.ensures.totals_right

pub returns-in-Leaf-clause-found : goal.returns-in-Leaf-clause-found
returns-in-Leaf-clause-found c =
    at_end c.args.unit c.args.idx c.args.root.now c.down.here.now c.down.rest c.down.before
    c.in-Leaf.leaf c.requires.tree c.down.invariant.0.descent c.in-Leaf.ensures.is
