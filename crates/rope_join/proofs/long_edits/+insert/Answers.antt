use Rattle.std.proofs.Common.{◌∙◌, ◌≡◌, ℕ, ◌+◌, ◌-◌, ◌^◌, ◌<◌, ◌++◌, length, take, drop, ap, arith}
use Rattle.std.specs.Str.{chars}
use Rattle.std.proofs.lemmas.List.{length-append}
use Rattle.std.proofs.lemmas.Result.{IfOk-weaker}
use Rattle.rope_text.specs.Text.{byte_len}
use Rattle.rope_text.proofs.Measures.{IsMeasure-byte_len}
use Rattle.rope_text.proofs.Walks.{byte_len-chars}
use Rattle.rope_leaf.specs.declared.search.Unit.TheVariants.{Char}
use Rattle.rope_leaf.specs.Tree.{text, joined, height_of, breaks_of}
use Rattle.rope_leaf.proofs.NodeLaws.{small_totals, joined_more}
use Rattle.rope_leaf.proofs.Descents.{Descends, descends}
use Rattle.rope_leaf.proofs.TreeLaws.{low_tree}
use Rattle.rope_join.proofs.Cuts.{CutsAt, cuts_at, under_last}
use Rattle.rope_join.proofs.OneChild.{inserted_some, inserted_chars, end_within, before_inserted, after_inserted, inserted_fits, around_inserted, can_put_inserted, put_inserted}
use Rattle.rope_join.proofs.long_edits.+insert.Goals.{After-total_before, After-get}
use Rattle.rope_join.proofs.long_edits.+insert.Goals as goal

down : (t : ℕ) (c : After-total_before t)
    → Descends (breaks_of c.in-Inner.children.now) Char c.args.at c.in-Inner.children.now
    c.child_at-place.result c.index-children-place.result c.total_before.result
down t c =
    descends Char c.args.at c.in-Inner.children.now c.in-Inner.totals.now c.child_at-place.result
    c.index-children-place.result c.total_before.result
    c.in-Inner.ensures.children c.in-Inner.ensures.totals_right c.child_at-place.ensures.within
    c.index-children-place.is
    c.total_before.ensures.first c.total_before.ensures.later c.child_at-place.ensures.before
    c.child_at-place.ensures.past

cut : (t : ℕ) (c : After-total_before t)
    → CutsAt c.args.node.now (take c.child_at-place.result c.in-Inner.children.now)
    c.index-children-place.result (drop (c.child_at-place.result + 1) c.in-Inner.children.now)
cut t c =
    let d = down t c in
    let ts = c.in-Inner.children.now in
    cuts_at c.args.node.now (breaks_of ts) (height_of ts) ts c.child_at-place.result
    c.index-children-place.result c.in-Inner.ensures.is d.children d.within d.child_is

place : (t : ℕ) (c : After-total_before t)
    → c.args.at ≡ length (joined (take c.child_at-place.result c.in-Inner.children.now))
    + (c.args.at - c.total_before.result.chars)
place t c = let d = down t c in omega (arith, d.not_past, ap (λ x. x.chars) d.front_is)

inside : (t : ℕ) (c : After-total_before t)
    → c.args.at - c.total_before.result.chars < length (text c.index-children-place.result)
inside t c = let d = down t c in omega (arith, d.past, d.not_past)

fits : (t : ℕ) (c : After-total_before t)
    → byte_len (text c.args.node.now) + byte_len (chars c.args.added.now) < 2 ^ 63
fits t c = omega (arith, c.requires.1.1.1, byte_len-chars c.args.added.now c.requires.0.1.1.1.0)

pub child_at-place-requires-clause-small : goal.child_at-place-requires-clause-small
child_at-place-requires-clause-small t c =
    small_totals _ c.in-Inner.totals.now c.in-Inner.children.now c.in-Inner.ensures.totals_right
    c.in-Inner.ensures.children.fits

pub child_at-place-requires-clause-last : goal.child_at-place-requires-clause-last
child_at-place-requires-clause-last t c =
    under_last c.args.node.now _ _ c.in-Inner.totals.now c.in-Inner.children.now c.args.at
    c.in-Inner.ensures.is c.in-Inner.ensures.children c.in-Inner.ensures.totals_right
    (omega (arith, ap (λ i. i.chars) c.info.ensures.value))

pub overflow_sub-inside : goal.overflow_sub-inside
overflow_sub-inside t c =
    let d = down t (goal.at.overflow_sub-inside t c).After-total_before in
    omega (arith, d.not_past)

pub insert-requires : goal.insert-requires
insert-requires t c =
    let e = (goal.at.insert-requires t c).After-total_before in
    let s = cut t e in
    let rest = joined (drop (c.child_at-place.result + 1) c.in-Inner.children.now) in (
      omega (arith, c.requires.1.0, s.above),
      (
        omega (arith, inside t e),
        omega (
          arith,
          c.requires.1.1.1,
          ap byte_len s.text_is,
          IsMeasure-byte_len.joined (joined (take c.child_at-place.result c.in-Inner.children.now))
              (text c.index-children-place.result ++ rest),
          IsMeasure-byte_len.joined (text c.index-children-place.result) rest,
        ),
      ),
    )

pub stands-requires-clause-some : goal.stands-requires-clause-some
stands-requires-clause-some t c =
    let e = (goal.at.stands-requires-clause-some t c).After-total_before in
    inserted_some c.args.node.now c.in-Inner.children.now c.child_at-place.result
    (c.args.at - c.total_before.result.chars) c.args.at c.index-children-place.result
    (chars c.args.added.now) c.in_ok-part-in-Inner.part
    (cut t e) (place t e) (omega (arith, c.if-inside-eq0.false)) (inside t e) (fits t e)
    c.in-Inner.ensures.children c.in-Inner.ensures.is c.in_ok-part-in-Inner.ensures.text
    c.in_ok-part-in-Inner.ensures.breaks c.in_ok-part-in-Inner.ensures.tree

pub put-requires-clause-put : goal.put-requires-clause-put
put-requires-clause-put t c =
    let e = (goal.at.put-requires-clause-put t c).After-total_before in
    can_put_inserted c.args.node.now c.in-Inner.children.now c.child_at-place.result
    (c.args.at - c.total_before.result.chars) c.args.at c.index-children-place.result
    (chars c.args.added.now) c.in_ok-part-in-Inner.part
    (cut t e) (place t e) (omega (arith, c.if-inside-eq0.false)) (inside t e) (fits t e)
    c.in-Inner.ensures.children c.in-Inner.ensures.is c.in_ok-part-in-Inner.ensures.text
    c.in_ok-part-in-Inner.ensures.breaks c.in_ok-part-in-Inner.ensures.tree
    (omega (arith, c.if-place-gt0.true)) (omega (arith, c.if-place-children.true))
    (omega (
      arith,
      c.if-height.true,
      c.height.ensures.value,
      c.height-then-place-children.ensures.value,
    ))
    (c.stands.ensures.near c.if-stands.true) (c.stands.ensures.next c.if-stands.true)

pub returns-then-stands-clause-text : goal.returns-then-stands-clause-text
returns-then-stands-clause-text t c =
    let e = (goal.at.returns-then-stands-clause-text t c).After-total_before in
    IfOk-weaker c.put.result _ _ (λ r p.
    put_inserted c.args.node.now c.in-Inner.children.now c.child_at-place.result
    (c.args.at - c.total_before.result.chars) c.args.at c.index-children-place.result
    (chars c.args.added.now) c.in_ok-part-in-Inner.part
    (cut t e) (place t e) (omega (arith, c.if-inside-eq0.false)) (inside t e) (fits t e)
    c.in-Inner.ensures.children c.in-Inner.ensures.is c.in_ok-part-in-Inner.ensures.text
    c.in_ok-part-in-Inner.ensures.breaks c.in_ok-part-in-Inner.ensures.tree r p) c.put.ensures.put

-- the start of the text after the child
end_is : (t : ℕ) (c : After-get t) → c.get.result.chars
    ≡ length (joined (take c.child_at-place.result c.in-Inner.children.now)) + length
    (text c.index-children-place.result)
end_is t c =
    let d = down t (goal.at.After-get t c).After-total_before in
    let ts = c.in-Inner.children.now in
    let k = c.child_at-place.result in
    let a = c.index-children-place.result in
    ap (λ x. x.chars) (c.get.ensures c.get.result
    ∙ c.in-Inner.ensures.totals_right.total_at k c.get.result d.within)
    ∙ ap length (joined_more ts k a d.within ∙ ap (λ u. joined (take k ts) ++ text u) d.child_is)
    ∙ length-append (joined (take k ts)) (text a)

pub join_around-requires-clause-end : goal.join_around-requires-clause-end
join_around-requires-clause-end t c =
    let e = (goal.at.join_around-requires-clause-end t c).After-total_before in
    end_within c.args.node.now c.in-Inner.children.now c.child_at-place.result
    (c.args.at - c.total_before.result.chars) c.args.at c.index-children-place.result
    (chars c.args.added.now) c.in_ok-part-in-Inner.part
    (cut t e) (place t e) (omega (arith, c.if-inside-eq0.false)) (inside t e) (fits t e)
    c.in-Inner.ensures.children c.in-Inner.ensures.is c.in_ok-part-in-Inner.ensures.text
    c.in_ok-part-in-Inner.ensures.breaks c.in_ok-part-in-Inner.ensures.tree c.get.result.chars
    (end_is t (goal.at.join_around-requires-clause-end t c).After-get)

pub join_around-requires-clause-some : goal.join_around-requires-clause-some
join_around-requires-clause-some t c =
    let e = (goal.at.join_around-requires-clause-some t c).After-total_before in
    inserted_chars c.args.node.now c.in-Inner.children.now c.child_at-place.result
    (c.args.at - c.total_before.result.chars) c.args.at c.index-children-place.result
    (chars c.args.added.now) c.in_ok-part-in-Inner.part
    (cut t e) (place t e) (omega (arith, c.if-inside-eq0.false)) (inside t e) (fits t e)
    c.in-Inner.ensures.children c.in-Inner.ensures.is c.in_ok-part-in-Inner.ensures.text
    c.in_ok-part-in-Inner.ensures.breaks c.in_ok-part-in-Inner.ensures.tree

pub join_around-requires-clause-seam_before : goal.join_around-requires-clause-seam_before
join_around-requires-clause-seam_before t c =
    let e = (goal.at.join_around-requires-clause-seam_before t c).After-total_before in
    before_inserted c.args.node.now c.in-Inner.children.now c.child_at-place.result
    (c.args.at - c.total_before.result.chars) c.args.at c.index-children-place.result
    (chars c.args.added.now) c.in_ok-part-in-Inner.part
    (cut t e) (place t e) (omega (arith, c.if-inside-eq0.false)) (inside t e) (fits t e)
    c.in-Inner.ensures.children c.in-Inner.ensures.is c.in_ok-part-in-Inner.ensures.text
    c.in_ok-part-in-Inner.ensures.breaks c.in_ok-part-in-Inner.ensures.tree

pub join_around-requires-clause-seam_after : goal.join_around-requires-clause-seam_after
join_around-requires-clause-seam_after t c =
    let e = (goal.at.join_around-requires-clause-seam_after t c).After-total_before in
    after_inserted c.args.node.now c.in-Inner.children.now c.child_at-place.result
    (c.args.at - c.total_before.result.chars) c.args.at c.index-children-place.result
    (chars c.args.added.now) c.in_ok-part-in-Inner.part
    (cut t e) (place t e) (omega (arith, c.if-inside-eq0.false)) (inside t e) (fits t e)
    c.in-Inner.ensures.children c.in-Inner.ensures.is c.in_ok-part-in-Inner.ensures.text
    c.in_ok-part-in-Inner.ensures.breaks c.in_ok-part-in-Inner.ensures.tree c.get.result.chars
    (end_is t (goal.at.join_around-requires-clause-seam_after t c).After-get)

pub join_around-requires-clause-fits : goal.join_around-requires-clause-fits
join_around-requires-clause-fits t c =
    let e = (goal.at.join_around-requires-clause-fits t c).After-total_before in
    inserted_fits c.args.node.now c.in-Inner.children.now c.child_at-place.result
    (c.args.at - c.total_before.result.chars) c.args.at c.index-children-place.result
    (chars c.args.added.now) c.in_ok-part-in-Inner.part
    (cut t e) (place t e) (omega (arith, c.if-inside-eq0.false)) (inside t e) (fits t e)
    c.in-Inner.ensures.children c.in-Inner.ensures.is c.in_ok-part-in-Inner.ensures.text
    c.in_ok-part-in-Inner.ensures.breaks c.in_ok-part-in-Inner.ensures.tree c.get.result.chars
    (end_is t (goal.at.join_around-requires-clause-fits t c).After-get)

pub returns-else-place-gt0-clause-text : goal.returns-else-place-gt0-clause-text
returns-else-place-gt0-clause-text t c =
    let e = (goal.at.returns-else-place-gt0-clause-text t c).After-total_before in
    IfOk-weaker c.join_around.result _ _
    (λ r is. around_inserted c.args.node.now c.in-Inner.children.now c.child_at-place.result
    (c.args.at - c.total_before.result.chars) c.args.at c.index-children-place.result
    (chars c.args.added.now) c.in_ok-part-in-Inner.part
    (cut t e) (place t e) (omega (arith, c.if-inside-eq0.false)) (inside t e) (fits t e)
    c.in-Inner.ensures.children c.in-Inner.ensures.is c.in_ok-part-in-Inner.ensures.text
    c.in_ok-part-in-Inner.ensures.breaks c.in_ok-part-in-Inner.ensures.tree c.get.result.chars r
    (end_is t (goal.at.returns-else-place-gt0-clause-text t c).After-get) is)
    c.join_around.ensures.text

-- the nodes made by an insert below a node, and at most 298 at the node itself
pub returns-then-stands-clause-made : goal.returns-then-stands-clause-made
returns-then-stands-clause-made t c =
    let e = (goal.at.returns-then-stands-clause-made t c).After-total_before in
    omega (
      arith,
      c.in_ok-part-in-Inner.ensures.made,
      c.put.ensures.made,
      (cut t e).above,
      ap (λ n. n.height) c.in-Inner.ensures.is,
    )

pub returns-else-place-gt0-clause-made : goal.returns-else-place-gt0-clause-made
returns-else-place-gt0-clause-made t c =
    let e = (goal.at.returns-else-place-gt0-clause-made t c).After-total_before in
    let part = low_tree c.in_ok-part-in-Inner.part c.in_ok-part-in-Inner.ensures.tree in
    omega (
      arith,
      c.in_ok-part-in-Inner.ensures.made,
      c.join_around.ensures.made,
      (cut t e).above,
      c.info.ensures.low,
      part,
    )
