use Rattle.std.proofs.Common.{◌≡◌, ℕ, ◌+◌, ◌-◌, ◌<◌, ◌≤◌, [], ◌∷◌, ◌++◌, length, take, drop, get_or, sym, ap, subst, ◌∙◌, arith}
use Rattle.std.specs.Str.{chars}
use Rattle.std.proofs.lemmas.Str.{chars-nil}
use Rattle.std.proofs.lemmas.Result.{IfOk-weaker}
use Rattle.std.proofs.lemmas.List.{length-take-le, take_more}
use Rattle.rope_leaf.specs.declared.search.Unit.TheVariants.{Char}
use Rattle.rope_tree.specs.declared.node.Nodes.{Nodes}
use Rattle.rope_leaf.specs.Tree.{text, joined, height_of, breaks_of, leaf_tree}
use Rattle.rope_tree.specs.View.{trees_in}
use Rattle.rope_leaf.specs.Siblings.{gathered}
use Rattle.rope_leaf.proofs.InsertLeaves.{text_of_leaf}
use Rattle.rope_tree.proofs.LastCalls.{both_ok}
use Rattle.rope_leaf.proofs.NodeLaws.{small_totals}
use Rattle.rope_leaf.proofs.Descents.{Descends, descends}
use Rattle.rope_join.specs.Cut.{IsFront, ArePart, IsWithFront}
use Rattle.rope_join.proofs.Empty.{empty_front}
use Rattle.rope_join.proofs.Cuts.{CutsAt, cuts_at, front_alone, front_joins, front_some, leaf_front, whole_front, under_last, beside_at}
use Rattle.rope_join.proofs.Parts.{front_made}
use Rattle.rope_join.proofs.cut.+front.Goals.{front_part-After-index-children-place, front_part-After-index-children-place-2}
use Rattle.rope_join.proofs.cut.+front.Goals as goal

down : (t : ℕ) (c : front_part-After-index-children-place t)
    → Descends (breaks_of c.in-Inner.children.now) Char (c.args.at - 1) c.in-Inner.children.now
    c.child_at-place.result c.index-children-place.result c.total_before-before.result
down t c =
    descends Char (c.args.at - 1) c.in-Inner.children.now c.in-Inner.totals.now
    c.child_at-place.result c.index-children-place.result c.total_before-before.result
    c.in-Inner.ensures.children c.in-Inner.ensures.totals_right c.child_at-place.ensures.within
    c.index-children-place.is
    c.total_before-before.ensures.first c.total_before-before.ensures.later
    c.child_at-place.ensures.before c.child_at-place.ensures.past

parts : (t : ℕ) (c : front_part-After-index-children-place t)
    → CutsAt c.args.node.now (take c.child_at-place.result c.in-Inner.children.now)
    c.index-children-place.result (drop (c.child_at-place.result + 1) c.in-Inner.children.now)
parts t c =
    let d = down t c in
    let ts = c.in-Inner.children.now in
    cuts_at c.args.node.now (breaks_of ts) (height_of ts) ts c.child_at-place.result
    c.index-children-place.result (c.in-Inner.ensures.is) d.children d.within d.child_is

place : (t : ℕ) (c : front_part-After-index-children-place t)
    → c.args.at ≡ length (joined (take c.child_at-place.result c.in-Inner.children.now))
    + (c.args.at - c.total_before-before.result.chars)
place t c =
    let d = down t c in
    omega (arith, d.not_past, ap (λ x. x.chars) d.front_is)

some : (t : ℕ) (c : front_part-After-index-children-place t)
    → 1 ≤ c.args.at - c.total_before-before.result.chars
some t c =
    let d = down t c in
    omega (arith, d.not_past, c.requires.some)

inside : (t : ℕ) (c : front_part-After-index-children-place t)
    → c.args.at - c.total_before-before.result.chars ≤ length (text c.index-children-place.result)
inside t c =
    let d = down t c in
    omega (arith, d.past, d.not_past, c.requires.some)

many : (t : ℕ) (c : front_part-After-index-children-place t)
    → length (take c.child_at-place.result c.in-Inner.children.now) ≡ c.child_at-place.result
many t c = let d = down t c in
    length-take-le c.child_at-place.result c.in-Inner.children.now (omega (arith, d.within))

pub front_part-child_at-place-requires-clause-small :
    goal.front_part-child_at-place-requires-clause-small
front_part-child_at-place-requires-clause-small t c =
    small_totals _ c.in-Inner.totals.now c.in-Inner.children.now c.in-Inner.ensures.totals_right
    c.in-Inner.ensures.children.fits

pub front_part-overflow_sub-within : goal.front_part-overflow_sub-within
front_part-overflow_sub-within t c =
    let d = down t c in
    omega (arith, d.not_past)

pub front_part-returns-then-place-eq0-clause-front :
    goal.front_part-returns-then-place-eq0-clause-front
front_part-returns-then-place-eq0-clause-front t c =
    let e = (goal.at.front_part-returns-then-place-eq0-clause-front t
    c).After-index-children-place in
    rw c.none.ensures.nodes (front_alone _ _ _ _ (parts t e) c.args.at _ _ (place t e) (inside t e)
    (omega (arith, many t e, c.if-place-eq0.true)) c.in_ok-only.ensures.front)

pub front_part-with_front-requires : goal.front_part-with_front-requires
front_part-with_front-requires t c =
    let e = (goal.at.front_part-with_front-requires t c).After-index-children-place in
    let d = down t e in
    let ts = c.in-Inner.children.now in
    let last = c.child_at-place.result - 1 in
    let child = c.index-children-place.result in
    let more : last + 1 ≡ c.child_at-place.result = omega (arith, c.if-place-eq0.false) in
    let here : get_or ts (last + 1) child ≡ child =
    subst (λ k. get_or ts k child ≡ child) (sym more) d.child_is in (
      omega (arith, c.decreases, (parts t e).above),
      (
        beside_at (breaks_of ts) (height_of ts) ts last _ child d.children
            (omega (arith, d.within, more)) (sym c.index-children-place-2.is) here,
        (some t e, inside t e),
      ),
    )

row_is : (t : ℕ) (c : front_part-After-index-children-place-2 t)
    → c.first-row.result.nodes.now ++ c.index-children-place-2.result ∷ []
    ≡ take c.child_at-place.result c.in-Inner.children.now
row_is t c =
    let d = down t (goal.at.front_part-After-index-children-place-2 t
    c).After-index-children-place in
    let ts = c.in-Inner.children.now in
    let last = c.child_at-place.result - 1 in
    let more : last + 1 ≡ c.child_at-place.result = omega (arith, c.if-place-eq0.false) in
    rw (c.first-row.ensures.nodes, c.of.ensures.nodes)
    (ap (λ x. take last ts ++ x ∷ []) c.index-children-place-2.is
    ∙ sym (take_more ts last c.index-children-place-2.result (omega (arith, d.within, more)))
    ∙ ap (λ k. take k ts) more)

made : (t : ℕ) (c : front_part-After-index-children-place-2 t) (p : Nodes)
    → IsWithFront c.index-children-place-2.result (c.args.at - c.total_before-before.result.chars)
    c.index-children-place.result (trees_in p)
    → ArePart c.args.node.now (c.first-row.result.nodes.now ++ trees_in p)
    × IsFront c.args.at c.args.node.now (gathered (c.first-row.result.nodes.now ++ trees_in p))
    × (c.index-children-place.result.height
    ≤ (gathered (c.first-row.result.nodes.now ++ trees_in p)).height)
made t c p u =
    let e = (goal.at.front_part-After-index-children-place-2 t c).After-index-children-place in
    let same = sym (row_is t c) in
    let k = c.args.at - c.total_before-before.result.chars in
    front_made c.args.node.now c.first-row.result.nodes.now c.index-children-place-2.result
    c.index-children-place.result (drop (c.child_at-place.result + 1) c.in-Inner.children.now)
    (subst (λ us. CutsAt c.args.node.now us c.index-children-place.result
    (drop (c.child_at-place.result + 1) c.in-Inner.children.now)) same (parts t e)) c.args.at k
    (subst (λ us. c.args.at ≡ length (joined us) + k) same (place t e)) (inside t e) p u

pub front_part-returns-clause-part : goal.front_part-returns-clause-part
front_part-returns-clause-part t c =
    (made t (goal.at.front_part-returns-clause-part t c).After-index-children-place-2
    c.in_ok-nodes.nodes c.in_ok-nodes.ensures.union).0

pub front_part-returns-clause-front : goal.front_part-returns-clause-front
front_part-returns-clause-front t c =
    (made t (goal.at.front_part-returns-clause-front t c).After-index-children-place-2
    c.in_ok-nodes.nodes c.in_ok-nodes.ensures.union).1

pub front_part-returns-clause-made_ok : goal.front_part-returns-clause-made_ok
front_part-returns-clause-made_ok t c =
    let e = goal.at.front_part-returns-clause-made_ok t c in
    let high =
    (made t e.After-index-children-place-2 c.in_ok-nodes.nodes c.in_ok-nodes.ensures.union).2 in
    omega (arith, c.in_ok-nodes.ensures.made, (parts t e.After-index-children-place).above, high)

pub with_front-unite-requires-clause-join : goal.with_front-unite-requires-clause-join
with_front-unite-requires-clause-join t c =
    front_joins c.args.at _ _ _ c.requires.within c.requires.beside.join c.in_ok-part.ensures.front

pub with_front-unite_after-requires-clause-join :
    goal.with_front-unite_after-requires-clause-join
with_front-unite_after-requires-clause-join t c =
    front_joins c.args.at _ _ _ c.requires.within c.requires.beside.join c.in_ok-row.ensures.front

pub front-returns-then-at-eq0-clause-front : goal.front-returns-then-at-eq0-clause-front
front-returns-then-at-eq0-clause-front t c =
    let n = c.args.node.now in
    IfOk-weaker c.leaf_of.result _ (IsFront c.args.at n)
    (λ part is. empty_front n part (chars []) c.args.at (is
    ∙ ap (λ b. leaf_tree b (chars [])) c.line_breaks.ensures) chars-nil c.if-at-eq0.true)
    c.leaf_of.ensures.ok

pub front-returns-then-at-info-clause-front : goal.front-returns-then-at-info-clause-front
front-returns-then-at-info-clause-front t c =
    let n = c.args.node.now in
    IfOk-weaker c.share.result (λ part. part ≡ n) (IsFront c.args.at n)
    (λ part same. whole_front n part c.args.at c.info.ensures.tree (c.if-at-info.true
    ∙ ap (λ i. i.chars) c.info.ensures.value) same)
    c.share.ensures.same

pub front-returns-in-Leaf-clause-front : goal.front-returns-in-Leaf-clause-front
front-returns-in-Leaf-clause-front t c =
    let n = c.args.node.now in
    let is = c.in-Leaf.ensures.is in
    let whole = text_of_leaf n.breaks n c.in-Leaf.leaf is in
    let some : 1 ≤ c.args.at = omega (arith, c.if-at-eq0.false) in
    let inside : c.args.at < length c.in-Leaf.leaf =
    omega (
      arith,
      c.if-at-info.false,
      ap (λ i. i.chars) c.info.ensures.value,
      ap length whole,
    ) in
    both_ok c.leaf_part.result _ _ (IsFront c.args.at n)
    (λ part ok tree. leaf_front n part c.in-Leaf.leaf c.args.at is ok tree some inside)
    c.leaf_part.ensures.ok c.leaf_part.ensures.tree

pub front_part-child_at-place-requires-clause-last :
    goal.front_part-child_at-place-requires-clause-last
front_part-child_at-place-requires-clause-last t c =
    under_last c.args.node.now _ _ c.in-Inner.totals.now c.in-Inner.children.now (c.args.at - 1)
    c.in-Inner.ensures.is c.in-Inner.ensures.children c.in-Inner.ensures.totals_right
    (omega (arith, c.requires.within, c.requires.some))

pub with_front-unite-requires-clause-right_some : goal.with_front-unite-requires-clause-right_some
with_front-unite-requires-clause-right_some t c =
    front_some c.args.at c.args.right.now c.in_ok-part.part c.requires.some c.requires.within
    c.in_ok-part.ensures.front

pub with_front-unite_after-requires-clause-right_some :
    goal.with_front-unite_after-requires-clause-right_some
with_front-unite_after-requires-clause-right_some t c =
    front_some c.args.at c.args.right.now _ c.requires.some c.requires.within
    c.in_ok-row.ensures.front
