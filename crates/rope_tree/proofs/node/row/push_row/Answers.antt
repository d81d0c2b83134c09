use Rattle.std.proofs.Common.{◌≡◌, ℕ, ◌+◌, ◌-◌, ◌<◌, ◌≤◌, List, [], ◌∷◌, ◌++◌, length, get_or, set, take, drop, IfSome, add-one, subst, refl, sym, ap, ◌∙◌, arith}
use Rattle.std.proofs.lemmas.List.{length-set, length-take, length-drop, take_all, drop-drop}
use Rattle.std.proofs.Math.Seq.{take-suc, take-suc-set}
use borrow.Rule.Slice.PartMut.{put_mid}
use Rattle.std.proofs.lemmas.Grind.{common_steps}
use Rattle.rope_text.specs.TextInfo.{info_of}
use Rattle.rope_leaf.specs.Tree.{Tree, joined, breaks_of}
use Rattle.rope_tree.specs.NewList.{new_list, nodes_in}
use Rattle.rope_tree.specs.Rows.{IsPart}
use Rattle.rope_leaf.specs.Totals.{IsTotalOf}
use Rattle.rope_leaf.proofs.NodeLaws.{small_totals}
use Rattle.rope_leaf.proofs.SiblingLaws.{byte_len-append}
use Rattle.rope_leaf.proofs.Descents.{front_is}
use Rattle.rope_tree.proofs.PartLaws.{small_before, small_part, has_base, part_fits, part_in, is_new_list_part}
use Rattle.rope_tree.proofs.RowLaws.{last_counts_all}
use Rattle.rope_tree.proofs.node.row.push_row.Goals.{After-total_before-before}
use Rattle.rope_tree.proofs.node.row.push_row.Goals as goal

-- nodes that replace an equal number of entries
put_over : (count k : ℕ) (places nodes now : List Tree) → length now ≡ length nodes
    → take k now ≡ take k nodes → length nodes ≤ k
    → put_mid count (count + length nodes - count) places now ≡ take count places
    ++ (nodes ++ drop (count + length nodes) places)
put_over count k places nodes now len front le =
    let same : now ≡ nodes = sym (take_all k now (omega arith)) ∙ front ∙ take_all k nodes le in
    let many : count + length nodes - count ≡ length nodes = omega arith in
    rw (same, many, drop-drop (length nodes) count places) refl

-- the totals of the row are those of the parent
part : (c : After-total_before-before)
    → IsPart c.args.row.now.nodes.now c.in-Some.known.now c.args.row.now.from
part c = subst (λ o. IfSome o
    (λ totals. IsPart c.args.row.now.nodes.now totals.now c.args.row.now.from)) c.in-Some.is
    c.requires.row

some : (c : After-total_before-before) → 1 ≤ length c.args.row.now.nodes.now
some c = grind (arith, common_steps)

base : (c : After-total_before-before) → c.total_before-base.result
    ≡ info_of (breaks_of (part c).whole) (joined (take c.args.row.now.from (part c).whole))
base c =
    let p = part c in
    front_is (breaks_of p.whole) c.in-Some.known.now p.whole c.args.row.now.from
    c.total_before-base.result p.totals_right (omega (arith, p.within, p.totals_right.as_many))
    c.total_before-base.ensures.first c.total_before-base.ensures.later

-- the counts of the nodes of the list
told : (c : After-total_before-before)
    → IsTotalOf (nodes_in (new_list c.args.totals.now c.args.places.now))
    c.total_before-before.result
told c =
    last_counts_all (new_list c.args.totals.now c.args.places.now) c.len-count.result
    c.total_before-before.result c.requires.list c.len-count.ensures
    c.total_before-before.ensures.first c.total_before-before.ensures.later

pub append-requires-clause-within : goal.append-requires-clause-within
append-requires-clause-within c =
    let p = part (goal.at.append-requires-clause-within c).After-total_before-before in
    let ts = c.args.row.now.nodes.now in
    omega (
      arith,
      ap length p.is,
      length-take (length ts) (drop c.args.row.now.from p.whole),
      length-drop c.args.row.now.from p.whole,
      p.totals_right.as_many,
      p.within,
    )

pub append-requires-clause-small : goal.append-requires-clause-small
append-requires-clause-small c =
    let xs = nodes_in (new_list c.args.totals.now c.args.places.now) in
    small_totals (breaks_of xs) c.args.totals.now xs c.requires.list.totals_right
    (omega (arith, byte_len-append xs c.args.row.now.nodes.now, c.requires.siblings.fits))

pub append-requires-clause-small_others : goal.append-requires-clause-small_others
append-requires-clause-small_others c =
    let e = (goal.at.append-requires-clause-small_others c).After-total_before-before in
    let b = base e in
    small_part (nodes_in (new_list c.args.totals.now c.args.places.now)) c.args.row.now.nodes.now
    c.in-Some.known.now c.args.row.now.from (part e) (some e) c.requires.siblings
    c.total_before-base.result c.total_before-before.result b (told e)

pub append-requires-clause-part : goal.append-requires-clause-part
append-requires-clause-part c =
    let e = (goal.at.append-requires-clause-part c).After-total_before-before in
    let b = base e in
    has_base (nodes_in (new_list c.args.totals.now c.args.places.now)) c.args.row.now.nodes.now
    c.in-Some.known.now c.args.row.now.from (part e) (some e) c.requires.siblings
    c.total_before-base.result c.total_before-before.result b (told e)

pub append-requires-clause-new : goal.append-requires-clause-new
append-requires-clause-new c =
    let e = (goal.at.append-requires-clause-new c).After-total_before-before in
    let b = base e in
    small_before (nodes_in (new_list c.args.totals.now c.args.places.now)) c.args.row.now.nodes.now
    c.in-Some.known.now c.args.row.now.from (part e) (some e) c.requires.siblings
    c.total_before-base.result c.total_before-before.result b (told e)

pub append-requires-clause-fits : goal.append-requires-clause-fits
append-requires-clause-fits c =
    let e = (goal.at.append-requires-clause-fits c).After-total_before-before in
    let b = base e in
    part_fits (nodes_in (new_list c.args.totals.now c.args.places.now)) c.args.row.now.nodes.now
    c.in-Some.known.now c.args.row.now.from (part e) (some e) c.requires.siblings
    c.total_before-base.result c.total_before-before.result b (told e)

pub returns-clause-list : goal.returns-clause-list
returns-clause-list c =
    let e = (goal.at.returns-clause-list c).After-total_before-before in
    let b = base e in
    let did = c.if-not-branch.false in
    is_new_list_part (nodes_in (new_list c.args.totals.now c.args.places.now))
    c.args.row.now.nodes.now c.in-Some.known.now c.args.row.now.from (part e) (some e)
    c.requires.siblings c.total_before-base.result c.total_before-before.result b (told e)
    (new_list c.args.totals.now c.args.places.now) _ c.requires.list refl c.len-count.result
    c.len-count.ensures (c.in_ok-append.ensures.len did) (c.in_ok-append.ensures.before did)
    (c.in_ok-append.ensures.following did)
    (put_over c.len-count.result c.loop-k.k c.args.places.now c.args.row.now.nodes.now
    c.loop-k.places c.loop-k.invariant.long c.loop-k.invariant.front (omega arith)) c.requires.room

pub returns-clause-nodes : goal.returns-clause-nodes
returns-clause-nodes c =
    let e = (goal.at.returns-clause-nodes c).After-total_before-before in
    let b = base e in
    let did = c.if-not-branch.false in
    part_in (nodes_in (new_list c.args.totals.now c.args.places.now)) c.args.row.now.nodes.now
    c.in-Some.known.now c.args.row.now.from (part e) (some e) c.requires.siblings
    c.total_before-base.result c.total_before-before.result b (told e)
    (new_list c.args.totals.now c.args.places.now) _ c.requires.list refl c.len-count.result
    c.len-count.ensures (c.in_ok-append.ensures.len did) (c.in_ok-append.ensures.before did)
    (c.in_ok-append.ensures.following did)
    (put_over c.len-count.result c.loop-k.k c.args.places.now c.args.row.now.nodes.now
    c.loop-k.places c.loop-k.invariant.long c.loop-k.invariant.front (omega arith)) c.requires.room

-- one more entry that has its node
put_next : (places nodes : List Tree) (k : ℕ) (x d : Tree) → k < length nodes
    → length places ≡ length nodes → take k places ≡ take k nodes → x ≡ get_or nodes k d
    → take (k + 1) (set places k x) ≡ take (k + 1) nodes
put_next places nodes k x d within long front here =
    rw (add-one) (take-suc-set places k x (omega arith) ∙ ap (λ l. l ++ (x ∷ [])) front
    ∙ ap (λ y. take k nodes ++ (y ∷ [])) here ∙ sym (take-suc nodes k d within))

pub loop-k-preserved : goal.loop-k-preserved
loop-k-preserved c = record {
  long = length-set c.loop-k.places c.loop-k.k c.in_ok-places.field-0 ∙ c.loop-k.invariant.long;
  front = put_next c.loop-k.places c.args.row.now.nodes.now c.loop-k.k c.in_ok-places.field-0
      c.index-nodes-k.result c.loop-k-test.true c.loop-k.invariant.long c.loop-k.invariant.front
      (c.in_ok-places.ensures.same ∙ c.index-nodes-k.is);
}
