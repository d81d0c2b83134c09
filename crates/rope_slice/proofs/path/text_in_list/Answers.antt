use Rattle.std.proofs.Common.{◌≡◌, get_or, take, subst, arith}
use Rattle.std.proofs.lemmas.List.{get_or_default}
use Rattle.rope_text.specs.TextInfo.{info_of}
use Rattle.rope_text.proofs.InfoLaws.{part_of_sum}
use Rattle.rope_leaf.specs.Tree.{breaks_of, joined, tree_over}
use Rattle.rope_tree.specs.View.{IsInnerOf}
use Rattle.rope_leaf.proofs.Descents.{child_counts, child_total, front_is}
use Rattle.rope_slice.specs.Descent.{AreListed}
use Rattle.rope_slice.proofs.path.text_in_list.Goals.{After-total_before}
use Rattle.rope_slice.proofs.path.text_in_list.Goals as goal

listed : (c : After-total_before)
    → IsInnerOf (tree_over c.args.nodes.now) c.args.nodes.now c.in-Some.totals.now
listed c = subst (AreListed c.args.nodes.now) c.in-Some.is c.requires.listed

before_is : (c : After-total_before) → c.total_before.result
    ≡ info_of (breaks_of c.args.nodes.now) (joined (take c.args.at c.args.nodes.now))
before_is c =
    let right = (listed c).totals_right in
    front_is (breaks_of c.args.nodes.now) c.in-Some.totals.now c.args.nodes.now c.args.at
    c.total_before.result right (omega (arith, c.requires.within, right.as_many))
    c.total_before.ensures.first c.total_before.ensures.later

pub minus-info-requires : goal.minus-info-requires
minus-info-requires c =
    let nodes = c.args.nodes.now in
    let e = (goal.at.minus-info-requires c).After-total_before in
    let child = get_or nodes c.args.at (tree_over nodes) in
    part_of_sum _ _ _ (child_total nodes c.in-Some.totals.now c.args.at child c.total_before.result
    c.get.result (listed e).children (listed e).totals_right c.requires.within
    (get_or_default nodes c.args.at (tree_over nodes) child c.requires.within) (before_is e)
    (c.get.ensures c.get.result))

pub known_view-requires : goal.known_view-requires
known_view-requires c =
    let e = (goal.at.known_view-requires c).After-total_before in
    child_counts c.args.nodes.now c.in-Some.totals.now c.args.at c.index-nodes-at.result
    c.total_before.result c.get.result c.minus-info.result (listed e).children
    (listed e).totals_right c.requires.within
    c.index-nodes-at.is (before_is e) (c.get.ensures c.get.result) c.minus-info.ensures.sum
