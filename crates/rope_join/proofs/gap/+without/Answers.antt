use Rattle.std.proofs.Common.{◌≡◌, ℕ, ◌+◌, ◌-◌, ◌≤◌, ◌<◌, length, take, drop, get_or, sym, ap, subst, ◌∙◌, arith, inl, inr, ltb, true}
use Rattle.std.proofs.lemmas.Result.{IfOk-weaker}
use Rattle.rope_leaf.specs.declared.search.Unit.TheVariants.{Char}
use Rattle.rope_leaf.specs.Leaves.{IsSeam}
use Rattle.rope_leaf.specs.Tree.{text, joined, height_of, breaks_of, IsTree}
use Rattle.rope_leaf.proofs.NodeLaws.{small_totals}
use Rattle.rope_leaf.proofs.Descents.{Descends, descends}
use Rattle.rope_join.specs.Cut.{IsSides}
use Rattle.rope_join.proofs.Cuts.{CutsAt, cuts_at, under_last}
use Rattle.rope_join.proofs.Gaps.{leaf_by_bytes}
use Rattle.rope_join.proofs.OneChild.{same_child, in_order, part_fits, part_seam, some_by, near_by, next_by, can_put, put_sides, can_put_at_end, first_sides, last_sides}
use Rattle.rope_join.proofs.Ends.{low_before, low_after}
use Rattle.std.proofs.lemmas.Bool.{cases_lt}
use Rattle.rope_join.proofs.Seams.{left_le}
use Rattle.rope_join.proofs.gap.+without.Goals.{After-total_before, Joined-first-last-2, then-first-gt0-2, else-first-gt0-2, then-first-last-2+in_ok-part-4, else-first-last-2+in_ok-part-5, else-first-gt0-via-then-first-gt0+else-last-children, else-first-gt0-via-else-first-gt0, Joined-first-last, After-total_before-2, then-first-last+in_ok-part-2, else-first-last+in_ok-part-3}
use Rattle.rope_join.proofs.gap.+without.Goals as goal

-- the steps to the two ends
first_down : (t : ℕ) (c : After-total_before t)
    → Descends (breaks_of c.in-Inner.children.now) Char c.args.start c.in-Inner.children.now
    c.child_at-first.result c.index-children-first.result c.total_before.result
first_down t c =
    descends Char c.args.start c.in-Inner.children.now c.in-Inner.totals.now c.child_at-first.result
    c.index-children-first.result c.total_before.result
    c.in-Inner.ensures.children c.in-Inner.ensures.totals_right c.child_at-first.ensures.within
    c.index-children-first.is
    c.total_before.ensures.first c.total_before.ensures.later c.child_at-first.ensures.before
    c.child_at-first.ensures.past

last_down : (t : ℕ) (c : After-total_before-2 t)
    → Descends (breaks_of c.in-Inner.children.now) Char (c.args.end - 1) c.in-Inner.children.now
    c.child_at-last.result c.index-children-last.result c.total_before-2.result
last_down t c =
    descends Char (c.args.end - 1) c.in-Inner.children.now c.in-Inner.totals.now
    c.child_at-last.result c.index-children-last.result c.total_before-2.result
    c.in-Inner.ensures.children c.in-Inner.ensures.totals_right c.child_at-last.ensures.within
    c.index-children-last.is
    c.total_before-2.ensures.first c.total_before-2.ensures.later c.child_at-last.ensures.before
    c.child_at-last.ensures.past

pub child_at-first-requires-clause-small : goal.child_at-first-requires-clause-small
child_at-first-requires-clause-small t c =
    small_totals _ c.in-Inner.totals.now c.in-Inner.children.now c.in-Inner.ensures.totals_right
    c.in-Inner.ensures.children.fits

pub child_at-last-requires-clause-small : goal.child_at-last-requires-clause-small
child_at-last-requires-clause-small t c =
    small_totals _ c.in-Inner.totals.now c.in-Inner.children.now c.in-Inner.ensures.totals_right
    c.in-Inner.ensures.children.fits

pub child_at-first-requires-clause-last : goal.child_at-first-requires-clause-last
child_at-first-requires-clause-last t c =
    under_last c.args.node.now _ _ c.in-Inner.totals.now c.in-Inner.children.now c.args.start
    c.in-Inner.ensures.is c.in-Inner.ensures.children c.in-Inner.ensures.totals_right
    (omega (arith, c.requires.ordered, c.requires.within))

pub child_at-last-requires-clause-last : goal.child_at-last-requires-clause-last
child_at-last-requires-clause-last t c =
    under_last c.args.node.now _ _ c.in-Inner.totals.now c.in-Inner.children.now (c.args.end - 1)
    c.in-Inner.ensures.is c.in-Inner.ensures.children c.in-Inner.ensures.totals_right
    (omega (arith, c.requires.ordered, c.requires.within))

first_cut : (t : ℕ) (c : After-total_before-2 t)
    → CutsAt c.args.node.now (take c.child_at-first.result c.in-Inner.children.now)
    c.index-children-first.result (drop (c.child_at-first.result + 1) c.in-Inner.children.now)
first_cut t c =
    let d = first_down t (goal.at.After-total_before-2 t c).After-total_before in
    let ts = c.in-Inner.children.now in
    cuts_at c.args.node.now (breaks_of ts) (height_of ts) ts c.child_at-first.result
    c.index-children-first.result c.in-Inner.ensures.is d.children d.within d.child_is

last_cut : (t : ℕ) (c : After-total_before-2 t)
    → CutsAt c.args.node.now (take c.child_at-last.result c.in-Inner.children.now)
    c.index-children-last.result (drop (c.child_at-last.result + 1) c.in-Inner.children.now)
last_cut t c =
    let d = last_down t c in
    let ts = c.in-Inner.children.now in
    cuts_at c.args.node.now (breaks_of ts) (height_of ts) ts c.child_at-last.result
    c.index-children-last.result c.in-Inner.ensures.is d.children d.within d.child_is

at_start : (t : ℕ) (c : After-total_before-2 t)
    → c.args.start ≡ length (joined (take c.child_at-first.result c.in-Inner.children.now))
    + (c.args.start - c.total_before.result.chars)
at_start t c = let d = first_down t (goal.at.After-total_before-2 t c).After-total_before in
    omega (arith, d.not_past, ap (λ x. x.chars) d.front_is)

at_end : (t : ℕ) (c : After-total_before-2 t)
    → c.args.end ≡ length (joined (take c.child_at-last.result c.in-Inner.children.now))
    + (c.args.end - c.total_before-2.result.chars)
at_end t c = let d = last_down t c in omega (arith, d.not_past, ap (λ x. x.chars) d.front_is)

in_first : (t : ℕ) (c : After-total_before-2 t)
    → c.args.start - c.total_before.result.chars ≤ length (text c.index-children-first.result)
in_first t c = let d = first_down t (goal.at.After-total_before-2 t c).After-total_before in
    omega (arith, d.past, d.not_past)

in_last : (t : ℕ) (c : After-total_before-2 t)
    → c.args.end - c.total_before-2.result.chars ≤ length (text c.index-children-last.result)
in_last t c = let d = last_down t c in omega (arith, d.past, d.not_past, c.requires.ordered)

ordered : (t : ℕ) (c : After-total_before-2 t)
    → c.child_at-first.result < c.child_at-last.result + 1
ordered t c =
    let d = first_down t (goal.at.After-total_before-2 t c).After-total_before in
    let e = last_down t c in
    in_order c.in-Inner.children.now c.child_at-first.result c.child_at-last.result c.args.start
    c.args.end (c.args.end - c.total_before-2.result.chars) c.index-children-last.result
    (omega (arith, d.within)) e.within e.child_is (omega (arith, at_start t c)) c.requires.ordered
    (at_end t c) (in_last t c)

-- both ends in one child
one_child : (t : ℕ) (c : After-total_before-2 t) → c.child_at-first.result ≡ c.child_at-last.result
    → c.index-children-last.result ≡ c.index-children-first.result
one_child t c same =
    let d = first_down t (goal.at.After-total_before-2 t c).After-total_before in
    let e = last_down t c in
    let ts = c.in-Inner.children.now in
    sym e.child_is ∙ ap (λ k. get_or ts k c.index-children-last.result) (sym same)
    ∙ same_child ts c.child_at-first.result c.index-children-last.result
    c.index-children-first.result d.within ∙ d.child_is

whole : (t : ℕ) (c : After-total_before-2 t) → IsTree c.args.node.now
whole t c = c.height-height.ensures.tree

seam : (t : ℕ) (c : After-total_before-2 t)
    → IsSeam (take (c.args.start - c.total_before.result.chars)
    (text c.index-children-first.result))
    (drop (c.args.end - c.total_before-2.result.chars) (text c.index-children-last.result))
seam t c =
    part_seam c.args.node.now c.in-Inner.children.now c.child_at-first.result c.child_at-last.result
    (c.args.start - c.total_before.result.chars) (c.args.end - c.total_before-2.result.chars)
    c.args.start c.args.end c.index-children-first.result c.index-children-last.result
    (first_cut t c) (last_cut t c) (at_start t c) (at_end t c) (in_first t c) (in_last t c)
    (omega (arith, c.requires.ordered)) (whole t c) c.requires.seam

pub overflow_sub-from : goal.overflow_sub-from
overflow_sub-from t c =
    let d = first_down t (goal.at.overflow_sub-from t c).After-total_before in
    omega (arith, d.not_past)

pub overflow_sub-to : goal.overflow_sub-to
overflow_sub-to t c =
    let d = last_down t (goal.at.overflow_sub-to t c).After-total_before-2 in
    omega (arith, d.not_past)

pub without-requires : goal.without-requires
without-requires t c =
    let e = (goal.at.without-requires t c).After-total_before-2 in
    let one = one_child t e c.if-first-last.true in
    let fronts =
    ap (λ k. length (joined (take k c.in-Inner.children.now))) c.if-first-last.true in (
      omega (arith, c.decreases, (first_cut t e).above),
      (
        omega (arith, at_start t e, at_end t e, fronts, c.requires.ordered),
        (
          omega (arith, in_last t e, ap (λ u. length (text u)) one),
          subst (λ u. IsSeam (take (c.args.start - c.total_before.result.chars)
              (text c.index-children-first.result))
              (drop (c.args.end - c.total_before-2.result.chars) (text u))) one (seam t e),
        ),
      ),
    )

pub join_sides-requires-clause-end : goal.join_sides-requires-clause-end
join_sides-requires-clause-end t c =
    in_first t (goal.at.join_sides-requires-clause-end t c).After-total_before-2

pub join_sides-requires-else-first-last-clause-end :
    goal.join_sides-requires-else-first-last-clause-end
join_sides-requires-else-first-last-clause-end t c =
    in_first t (goal.at.join_sides-requires-else-first-last-clause-end t c).After-total_before-2

pub join_sides-requires-clause-start : goal.join_sides-requires-clause-start
join_sides-requires-clause-start t c =
    in_last t (goal.at.join_sides-requires-clause-start t c).After-total_before-2

pub join_sides-requires-else-first-last-clause-start :
    goal.join_sides-requires-else-first-last-clause-start
join_sides-requires-else-first-last-clause-start t c =
    in_last t (goal.at.join_sides-requires-else-first-last-clause-start t c).After-total_before-2

pub join_sides-requires-clause-same_breaks : goal.join_sides-requires-clause-same_breaks
join_sides-requires-clause-same_breaks t c =
    let e = (goal.at.join_sides-requires-clause-same_breaks t c).After-total_before-2 in
    (last_cut t e).same_breaks ∙ sym (first_cut t e).same_breaks

pub join_sides-requires-else-first-last-clause-same_breaks :
    goal.join_sides-requires-else-first-last-clause-same_breaks
join_sides-requires-else-first-last-clause-same_breaks t c =
    let e = (goal.at.join_sides-requires-else-first-last-clause-same_breaks t
    c).After-total_before-2 in
    (last_cut t e).same_breaks ∙ sym (first_cut t e).same_breaks

pub join_sides-requires-clause-seam : goal.join_sides-requires-clause-seam
join_sides-requires-clause-seam t c =
    seam t (goal.at.join_sides-requires-clause-seam t c).After-total_before-2

pub join_sides-requires-else-first-last-clause-seam :
    goal.join_sides-requires-else-first-last-clause-seam
join_sides-requires-else-first-last-clause-seam t c =
    seam t (goal.at.join_sides-requires-else-first-last-clause-seam t c).After-total_before-2

pub join_sides-requires-clause-fits : goal.join_sides-requires-clause-fits
join_sides-requires-clause-fits t c =
    let e = (goal.at.join_sides-requires-clause-fits t c).After-total_before-2 in
    part_fits c.args.node.now c.in-Inner.children.now c.child_at-first.result c.child_at-last.result
    (c.args.start - c.total_before.result.chars) (c.args.end - c.total_before-2.result.chars)
    c.args.start c.args.end c.index-children-first.result c.index-children-last.result
    (first_cut t e) (last_cut t e) (at_start t e) (at_end t e) (in_first t e) (in_last t e)
    (omega (arith, c.requires.ordered)) (whole t e)

pub join_sides-requires-else-first-last-clause-fits :
    goal.join_sides-requires-else-first-last-clause-fits
join_sides-requires-else-first-last-clause-fits t c =
    let e = (goal.at.join_sides-requires-else-first-last-clause-fits t c).After-total_before-2 in
    part_fits c.args.node.now c.in-Inner.children.now c.child_at-first.result c.child_at-last.result
    (c.args.start - c.total_before.result.chars) (c.args.end - c.total_before-2.result.chars)
    c.args.start c.args.end c.index-children-first.result c.index-children-last.result
    (first_cut t e) (last_cut t e) (at_start t e) (at_end t e) (in_first t e) (in_last t e)
    (omega (arith, c.requires.ordered)) (whole t e)

-- the tree that replaces the children
part_is : (t : ℕ) (c : Joined-first-last t)
    → IsSides c.index-children-first.result (c.args.start - c.total_before.result.chars)
    c.index-children-last.result (c.args.end - c.total_before-2.result.chars) c.if-first-last.part
    × IsTree c.if-first-last.part
part_is t c = elim c.if-first-last.branch [
  | then-first-last+in_ok-part-2 w ↦
      let e = (goal.at.Joined-first-last t c).After-total_before-2 in
      let one = one_child t e w.if-first-last.true in
      rw (one, w.part-is) (w.in_ok-part-2.ensures.sides, w.in_ok-part-2.ensures.tree)
  | else-first-last+in_ok-part-3 w ↦
      rw w.part-is (w.in_ok-part-3.ensures.sides, w.in_ok-part-3.ensures.tree)
]

pub put-requires-then-spares_last-clause-put : goal.put-requires-then-spares_last-clause-put
put-requires-then-spares_last-clause-put t c =
    let e = (goal.at.put-requires-then-spares_last-clause-put t c).After-total_before-2 in
    let is = part_is t (goal.at.put-requires-then-spares_last-clause-put t c).Joined-first-last in
    let first = c.spares_first.ensures.spares c.if-spares_first.true in
    let last = c.spares_last.ensures.spares c.if-spares_last.true in
    can_put c.args.node.now c.in-Inner.children.now c.child_at-first.result c.child_at-last.result
    (c.args.start - c.total_before.result.chars) (c.args.end - c.total_before-2.result.chars)
    c.args.start c.args.end c.index-children-first.result c.index-children-last.result
    (first_cut t e) (last_cut t e) (at_start t e) (at_end t e) (in_first t e) (in_last t e)
    (omega (arith, c.requires.ordered)) (whole t e) c.if-first-last.part c.in-Inner.ensures.children
    c.in-Inner.ensures.is is.0 c.requires.seam
    (next_by c.args.node.now c.in-Inner.children.now c.child_at-first.result c.child_at-last.result
    (c.args.start - c.total_before.result.chars) (c.args.end - c.total_before-2.result.chars)
    c.args.start c.args.end c.index-children-first.result c.index-children-last.result
    (first_cut t e) (last_cut t e) (at_start t e) (at_end t e) (in_first t e) (in_last t e)
    (omega (arith, c.requires.ordered)) (whole t e) c.if-first-last.part c.in-Inner.ensures.children
    c.in-Inner.ensures.is is.0 last)
    (omega (arith, c.if-first-gt0.true)) (ordered t e) (omega (arith, c.if-last-children.true)) is.1
    (some_by c.args.node.now c.in-Inner.children.now c.child_at-first.result c.child_at-last.result
    (c.args.start - c.total_before.result.chars) (c.args.end - c.total_before-2.result.chars)
    c.args.start c.args.end c.index-children-first.result c.index-children-last.result
    (first_cut t e) (last_cut t e) (at_start t e) (at_end t e) (in_first t e) (in_last t e)
    (omega (arith, c.requires.ordered)) (whole t e) c.if-first-last.part c.in-Inner.ensures.children
    c.in-Inner.ensures.is is.0 first)
    (near_by c.args.node.now c.in-Inner.children.now c.child_at-first.result c.child_at-last.result
    (c.args.start - c.total_before.result.chars) (c.args.end - c.total_before-2.result.chars)
    c.args.start c.args.end c.index-children-first.result c.index-children-last.result
    (first_cut t e) (last_cut t e) (at_start t e) (at_end t e) (in_first t e) (in_last t e)
    (omega (arith, c.requires.ordered)) (whole t e) c.if-first-last.part c.in-Inner.ensures.children
    c.in-Inner.ensures.is is.0 first)

pub returns-then-spares_last-clause-sides : goal.returns-then-spares_last-clause-sides
returns-then-spares_last-clause-sides t c =
    let e = (goal.at.returns-then-spares_last-clause-sides t c).After-total_before-2 in
    let is = part_is t (goal.at.returns-then-spares_last-clause-sides t c).Joined-first-last in
    IfOk-weaker c.put-then-spares_last.result _
    (IsSides c.args.node.now c.args.start c.args.node.now c.args.end) (λ r p.
    put_sides c.args.node.now c.in-Inner.children.now c.child_at-first.result c.child_at-last.result
    (c.args.start - c.total_before.result.chars) (c.args.end - c.total_before-2.result.chars)
    c.args.start c.args.end c.index-children-first.result c.index-children-last.result
    (first_cut t e) (last_cut t e) (at_start t e) (at_end t e) (in_first t e) (in_last t e)
    (omega (arith, c.requires.ordered)) (whole t e) c.if-first-last.part c.in-Inner.ensures.children
    c.in-Inner.ensures.is is.0
    r (omega (arith, c.if-first-gt0.true)) (ordered t e) (omega (arith, c.if-last-children.true)) p)
    c.put-then-spares_last.ensures.put

pub stands-requires-clause-ordered : goal.stands-requires-clause-ordered
stands-requires-clause-ordered t c =
    ordered t (goal.at.stands-requires-clause-ordered t c).After-total_before-2

pub put-requires-clause-put : goal.put-requires-clause-put
put-requires-clause-put t c =
    let e = (goal.at.put-requires-clause-put t c).After-total_before-2 in
    can_put c.args.node.now c.in-Inner.children.now c.child_at-first.result c.child_at-last.result
    (c.args.start - c.total_before.result.chars) (c.args.end - c.total_before-2.result.chars)
    c.args.start c.args.end c.index-children-first.result c.index-children-last.result
    (first_cut t e) (last_cut t e) (at_start t e) (at_end t e) (in_first t e) (in_last t e)
    (omega (arith, c.requires.ordered)) (whole t e) c.in_ok-part.part c.in-Inner.ensures.children
    c.in-Inner.ensures.is c.in_ok-part.ensures.sides c.requires.seam
    (c.stands.ensures.next c.if-stands.true)
    (omega (arith, c.if-first-gt0.true)) (ordered t e) (omega (arith, c.if-last-children.true))
    c.in_ok-part.ensures.tree
    (leaf_by_bytes c.in_ok-part.part
    (omega (arith, c.if-info-gt0.true, ap (λ x. x.bytes) c.info.ensures.value)))
    (c.stands.ensures.near c.if-stands.true)

pub returns-then-stands-clause-sides : goal.returns-then-stands-clause-sides
returns-then-stands-clause-sides t c =
    let e = (goal.at.returns-then-stands-clause-sides t c).After-total_before-2 in
    IfOk-weaker c.put.result _ (IsSides c.args.node.now c.args.start c.args.node.now c.args.end)
    (λ r p.
    put_sides c.args.node.now c.in-Inner.children.now c.child_at-first.result c.child_at-last.result
    (c.args.start - c.total_before.result.chars) (c.args.end - c.total_before-2.result.chars)
    c.args.start c.args.end c.index-children-first.result c.index-children-last.result
    (first_cut t e) (last_cut t e) (at_start t e) (at_end t e) (in_first t e) (in_last t e)
    (omega (arith, c.requires.ordered)) (whole t e) c.in_ok-part.part c.in-Inner.ensures.children
    c.in-Inner.ensures.is c.in_ok-part.ensures.sides
    r (omega (arith, c.if-first-gt0.true)) (ordered t e) (omega (arith, c.if-last-children.true)) p)
    c.put.ensures.put

pub join_sides-requires-2-clause-fits : goal.join_sides-requires-2-clause-fits
join_sides-requires-2-clause-fits t c =
    omega (
      arith,
      c.height-height.ensures.tree.fits,
      left_le (text c.args.node.now) c.args.start c.args.end (omega (arith, c.requires.ordered)),
    )

pub without-requires-then-first-last-2 : goal.without-requires-then-first-last-2
without-requires-then-first-last-2 t c =
    let e = (goal.at.without-requires-then-first-last-2 t c).After-total_before-2 in
    let one = one_child t e c.if-first-last-2.true in
    let fronts =
    ap (λ k. length (joined (take k c.in-Inner.children.now))) c.if-first-last-2.true in (
      omega (arith, c.decreases, (first_cut t e).above),
      (
        omega (arith, at_start t e, at_end t e, fronts, c.requires.ordered),
        (
          omega (arith, in_last t e, ap (λ u. length (text u)) one),
          subst (λ u. IsSeam (take (c.args.start - c.total_before.result.chars)
              (text c.index-children-first.result))
              (drop (c.args.end - c.total_before-2.result.chars) (text u))) one (seam t e),
        ),
      ),
    )

pub join_sides-requires-else-first-last-2-clause-end :
    goal.join_sides-requires-else-first-last-2-clause-end
join_sides-requires-else-first-last-2-clause-end t c =
    in_first t (goal.at.join_sides-requires-else-first-last-2-clause-end t c).After-total_before-2

pub join_sides-requires-else-first-last-2-clause-start :
    goal.join_sides-requires-else-first-last-2-clause-start
join_sides-requires-else-first-last-2-clause-start t c =
    in_last t (goal.at.join_sides-requires-else-first-last-2-clause-start t c).After-total_before-2

pub join_sides-requires-else-first-last-2-clause-same_breaks :
    goal.join_sides-requires-else-first-last-2-clause-same_breaks
join_sides-requires-else-first-last-2-clause-same_breaks t c =
    let e = (goal.at.join_sides-requires-else-first-last-2-clause-same_breaks t
    c).After-total_before-2 in
    (last_cut t e).same_breaks ∙ sym (first_cut t e).same_breaks

pub join_sides-requires-else-first-last-2-clause-seam :
    goal.join_sides-requires-else-first-last-2-clause-seam
join_sides-requires-else-first-last-2-clause-seam t c =
    seam t (goal.at.join_sides-requires-else-first-last-2-clause-seam t c).After-total_before-2

pub join_sides-requires-else-first-last-2-clause-fits :
    goal.join_sides-requires-else-first-last-2-clause-fits
join_sides-requires-else-first-last-2-clause-fits t c =
    let e = (goal.at.join_sides-requires-else-first-last-2-clause-fits t c).After-total_before-2 in
    part_fits c.args.node.now c.in-Inner.children.now c.child_at-first.result c.child_at-last.result
    (c.args.start - c.total_before.result.chars) (c.args.end - c.total_before-2.result.chars)
    c.args.start c.args.end c.index-children-first.result c.index-children-last.result
    (first_cut t e) (last_cut t e) (at_start t e) (at_end t e) (in_first t e) (in_last t e)
    (omega (arith, c.requires.ordered)) (whole t e)

end_part : (t : ℕ) (c : Joined-first-last-2 t)
    → IsSides c.index-children-first.result (c.args.start - c.total_before.result.chars)
    c.index-children-last.result (c.args.end - c.total_before-2.result.chars) c.if-first-last-2.part
    × IsTree c.if-first-last-2.part
end_part t c = elim c.if-first-last-2.branch [
  | then-first-last-2+in_ok-part-4 w ↦
      let e = (goal.at.Joined-first-last-2 t c).After-total_before-2 in
      let one = one_child t e w.if-first-last-2.true in
      rw (one, w.part-is) (w.in_ok-part-4.ensures.sides, w.in_ok-part-4.ensures.tree)
  | else-first-last-2+in_ok-part-5 w ↦
      rw w.part-is (w.in_ok-part-5.ensures.sides, w.in_ok-part-5.ensures.tree)
]

-- the split children are the first or the last of the node, and not all
at_first : (t : ℕ) (c : Joined-first-last-2 t)
    → c.child_at-last.result + 1 < length c.in-Inner.children.now → c.child_at-first.result ≡ 0
at_first t c more = elim c.else-first-gt0.branch [
  | else-first-gt0-via-then-first-gt0+else-last-children w ↦
      absurd (omega (arith, w.if-last-children.false, more))
  | else-first-gt0-via-else-first-gt0 w ↦ omega (arith, w.if-first-gt0.false)
]

beyond : (m n : ℕ) → m ≡ n → ltb m n ≡ true → ⊥
beyond m n same e = grind (arith, same, e)

at_last : (t : ℕ) (c : Joined-first-last-2 t)
    → c.child_at-last.result + 1 ≡ length c.in-Inner.children.now → 0 < c.child_at-first.result
at_last t c same = elim c.if-first-gt0-2.branch [
  | then-first-gt0-2 w ↦ omega (arith, w.if-first-gt0-2.true)
  | else-first-gt0-2 w ↦ absurd (beyond (c.child_at-last.result + 1)
      (length c.in-Inner.children.now) same (sym w.value-is ∙ c.if-last-children-2.true))
]

pub put_at_end-requires-clause-put : goal.put_at_end-requires-clause-put
put_at_end-requires-clause-put t c =
    let e = (goal.at.put_at_end-requires-clause-put t c).After-total_before-2 in
    let f = (goal.at.put_at_end-requires-clause-put t c).Joined-first-last-2 in
    let is = end_part t f in
    can_put_at_end c.args.node.now c.in-Inner.children.now c.child_at-first.result
    c.child_at-last.result (c.args.start - c.total_before.result.chars)
    (c.args.end - c.total_before-2.result.chars) c.args.start c.args.end
    c.index-children-first.result c.index-children-last.result
    (first_cut t e) (last_cut t e) (at_start t e) (at_end t e) (in_first t e) (in_last t e)
    (omega (arith, c.requires.ordered)) (whole t e) c.if-first-last-2.part
    c.in-Inner.ensures.children c.in-Inner.ensures.is is.0 c.requires.seam
    (ordered t e) (last_down t e).within (at_first t f) (at_last t f) is.1

pub returns-then-last-children-2-clause-sides : goal.returns-then-last-children-2-clause-sides
returns-then-last-children-2-clause-sides t c =
    let e = (goal.at.returns-then-last-children-2-clause-sides t c).After-total_before-2 in
    let f = (goal.at.returns-then-last-children-2-clause-sides t c).Joined-first-last-2 in
    let is = end_part t f in
    let ts = c.in-Inner.children.now in
    let can =
    can_put_at_end c.args.node.now c.in-Inner.children.now c.child_at-first.result
    c.child_at-last.result (c.args.start - c.total_before.result.chars)
    (c.args.end - c.total_before-2.result.chars) c.args.start c.args.end
    c.index-children-first.result c.index-children-last.result
    (first_cut t e) (last_cut t e) (at_start t e) (at_end t e) (in_first t e) (in_last t e)
    (omega (arith, c.requires.ordered)) (whole t e) c.if-first-last-2.part
    c.in-Inner.ensures.children c.in-Inner.ensures.is is.0 c.requires.seam
    (ordered t e) (last_down t e).within (at_first t f) (at_last t f) is.1 in
    IfOk-weaker c.put_at_end.result _
    (IsSides c.args.node.now c.args.start c.args.node.now c.args.end) (λ r p.
    elim (cases_lt (c.child_at-last.result + 1) (length ts)) [
      | inl more ↦
          first_sides c.args.node.now c.in-Inner.children.now c.child_at-first.result
          c.child_at-last.result (c.args.start - c.total_before.result.chars)
          (c.args.end - c.total_before-2.result.chars) c.args.start c.args.end
          c.index-children-first.result c.index-children-last.result
          (first_cut t e) (last_cut t e) (at_start t e) (at_end t e) (in_first t e) (in_last t e)
          (omega (arith, c.requires.ordered)) (whole t e) c.if-first-last-2.part
          c.in-Inner.ensures.children c.in-Inner.ensures.is is.0 r (at_first t f more) more
          (low_after ts c.in-Inner.ensures.children c.child_at-first.result
          (c.child_at-last.result + 1) c.if-first-last-2.part can more) (p.before more)
      | inr none ↦
          let all : c.child_at-last.result + 1 ≡ length ts =
          omega (arith, none, (last_down t e).within) in
          last_sides c.args.node.now c.in-Inner.children.now c.child_at-first.result
          c.child_at-last.result (c.args.start - c.total_before.result.chars)
          (c.args.end - c.total_before-2.result.chars) c.args.start c.args.end
          c.index-children-first.result c.index-children-last.result
          (first_cut t e) (last_cut t e) (at_start t e) (at_end t e) (in_first t e) (in_last t e)
          (omega (arith, c.requires.ordered)) (whole t e) c.if-first-last-2.part
          c.in-Inner.ensures.children c.in-Inner.ensures.is is.0 r (at_last t f all)
          (omega (arith, (ordered t e), (last_down t e).within)) all
          (low_before ts c.in-Inner.ensures.children c.child_at-first.result
          (c.child_at-last.result + 1) c.if-first-last-2.part can (at_last t f all))
          (p.following all)
    ]) c.put_at_end.ensures.put

pub stands-requires-clause-children : goal.stands-requires-clause-children
stands-requires-clause-children t c = c.in-Inner.ensures.children

pub stands-requires-clause-some : goal.stands-requires-clause-some
stands-requires-clause-some t c =
    leaf_by_bytes c.in_ok-part.part
    (omega (arith, c.if-info-gt0.true, ap (λ x. x.bytes) c.info.ensures.value))

pub put-requires-clause-children : goal.put-requires-clause-children
put-requires-clause-children t c = c.in-Inner.ensures.children

pub put-requires-then-spares_last-clause-children :
    goal.put-requires-then-spares_last-clause-children
put-requires-then-spares_last-clause-children t c = c.in-Inner.ensures.children
