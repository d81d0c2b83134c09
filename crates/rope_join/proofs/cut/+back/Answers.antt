use Rattle.std.proofs.Common.{◌≡◌, ℕ, ◌+◌, ◌-◌, ◌<◌, ◌≤◌, [], ◌∷◌, ◌++◌, length, take, drop, get_or, sym, ap, subst, ◌∙◌, arith}
use Rattle.std.specs.Str.{chars}
use Rattle.std.proofs.lemmas.Str.{chars-nil}
use Rattle.std.proofs.lemmas.Result.{IfOk-weaker}
use Rattle.std.proofs.lemmas.List.{length-drop, drop_more}
use Rattle.rope_leaf.specs.declared.search.Unit.TheVariants.{Char}
use Rattle.rope_tree.specs.declared.node.Nodes.{Nodes}
use Rattle.rope_leaf.specs.Tree.{text, joined, height_of, breaks_of, leaf_tree}
use Rattle.rope_tree.specs.View.{trees_in}
use Rattle.rope_leaf.specs.Siblings.{gathered}
use Rattle.rope_leaf.proofs.InsertLeaves.{text_of_leaf}
use Rattle.rope_tree.proofs.LastCalls.{both_ok}
use Rattle.rope_leaf.proofs.NodeLaws.{small_totals}
use Rattle.rope_leaf.proofs.Descents.{Descends, descends}
use Rattle.rope_join.specs.Cut.{IsBack, ArePart, IsWithBack}
use Rattle.rope_join.proofs.Empty.{empty_back}
use Rattle.rope_join.proofs.Cuts.{CutsAt, cuts_at, back_alone, back_joins, back_is_near, back_some, beside_at, leaf_back, under_last, whole_back}
use Rattle.rope_join.proofs.Parts.{back_made}
use Rattle.rope_join.proofs.cut.+back.Goals.{back_part-After-index-children-place, back_part-After-index-children-place-2}
use Rattle.rope_join.proofs.cut.+back.Goals as goal

down : (t : ℕ) (c : back_part-After-index-children-place t)
    → Descends (breaks_of c.in-Inner.children.now) Char c.args.at c.in-Inner.children.now
    c.child_at-place.result c.index-children-place.result c.total_before-before.result
down t c =
    descends Char c.args.at c.in-Inner.children.now c.in-Inner.totals.now c.child_at-place.result
    c.index-children-place.result c.total_before-before.result
    c.in-Inner.ensures.children c.in-Inner.ensures.totals_right c.child_at-place.ensures.within
    c.index-children-place.is
    c.total_before-before.ensures.first c.total_before-before.ensures.later
    c.child_at-place.ensures.before c.child_at-place.ensures.past

parts : (t : ℕ) (c : back_part-After-index-children-place t)
    → CutsAt c.args.node.now (take c.child_at-place.result c.in-Inner.children.now)
    c.index-children-place.result (drop (c.child_at-place.result + 1) c.in-Inner.children.now)
parts t c =
    let d = down t c in
    let ts = c.in-Inner.children.now in
    cuts_at c.args.node.now (breaks_of ts) (height_of ts) ts c.child_at-place.result
    c.index-children-place.result (c.in-Inner.ensures.is) d.children d.within d.child_is

place : (t : ℕ) (c : back_part-After-index-children-place t)
    → c.args.at ≡ length (joined (take c.child_at-place.result c.in-Inner.children.now))
    + (c.args.at - c.total_before-before.result.chars)
place t c =
    let d = down t c in
    omega (arith, d.not_past, ap (λ x. x.chars) d.front_is)

inside : (t : ℕ) (c : back_part-After-index-children-place t)
    → c.args.at - c.total_before-before.result.chars < length (text c.index-children-place.result)
inside t c =
    let d = down t c in
    omega (arith, d.past, d.not_past)

many : (t : ℕ) (c : back_part-After-index-children-place t)
    → length (drop (c.child_at-place.result + 1) c.in-Inner.children.now)
    + (c.child_at-place.result + 1) ≡ length c.in-Inner.children.now
many t c =
    let d = down t c in
    omega (arith, length-drop (c.child_at-place.result + 1) c.in-Inner.children.now, d.within)

pub back_part-child_at-place-requires-clause-small :
    goal.back_part-child_at-place-requires-clause-small
back_part-child_at-place-requires-clause-small t c =
    small_totals _ c.in-Inner.totals.now c.in-Inner.children.now c.in-Inner.ensures.totals_right
    c.in-Inner.ensures.children.fits

pub back_part-overflow_sub-within : goal.back_part-overflow_sub-within
back_part-overflow_sub-within t c =
    let d = down t c in
    omega (arith, d.not_past)

pub back_part-back-requires : goal.back_part-back-requires
back_part-back-requires t c =
    let e = (goal.at.back_part-back-requires t c).After-index-children-place in
    (omega (arith, c.decreases, (parts t e).above), omega (arith, inside t e))

pub back_part-returns-then-place-children-clause-back :
    goal.back_part-returns-then-place-children-clause-back
back_part-returns-then-place-children-clause-back t c =
    let e = (goal.at.back_part-returns-then-place-children-clause-back t
    c).After-index-children-place in
    rw c.none.ensures.nodes (back_alone _ _ _ _ (parts t e) c.args.at _ _ (place t e)
    (omega (arith, inside t e)) (omega (arith, many t e, c.if-place-children.true))
    c.in_ok-only.ensures.back)

pub back_part-with_back-requires : goal.back_part-with_back-requires
back_part-with_back-requires t c =
    let e = (goal.at.back_part-with_back-requires t c).After-index-children-place in
    let d = down t e in
    let ts = c.in-Inner.children.now in
    let lt : c.child_at-place.result + 1 < length ts =
    omega (arith, d.within, c.if-place-children.false) in (
      omega (arith, c.decreases, (parts t e).above),
      (
        beside_at (breaks_of ts) (height_of ts) ts c.child_at-place.result
            c.index-children-place.result _ d.children lt d.child_is
            (sym c.index-children-place-2.is),
        inside t e,
      ),
    )

row_is : (t : ℕ) (c : back_part-After-index-children-place-2 t)
    → c.index-children-place-2.result ∷ c.rest-row.result.nodes.now
    ≡ drop (c.child_at-place.result + 1) c.in-Inner.children.now
row_is t c =
    let d = down t (goal.at.back_part-After-index-children-place-2 t
    c).After-index-children-place in
    let ts = c.in-Inner.children.now in
    let two : c.child_at-place.result + 2 ≡ c.child_at-place.result + 1 + 1 = omega arith in
    rw (c.rest-row.ensures.nodes, c.of.ensures.nodes)
    (ap (λ x. x ∷ drop (c.child_at-place.result + 2) ts) c.index-children-place-2.is
    ∙ ap (λ k. get_or ts (c.child_at-place.result + 1) c.index-children-place-2.result ∷ drop k ts)
    two ∙ sym (drop_more ts (c.child_at-place.result + 1) c.index-children-place-2.result
    (omega (arith, d.within, c.if-place-children.false))))

made : (t : ℕ) (c : back_part-After-index-children-place-2 t) (p : Nodes)
    → IsWithBack c.index-children-place.result (c.args.at - c.total_before-before.result.chars)
    c.index-children-place-2.result (trees_in p)
    → ArePart c.args.node.now (trees_in p ++ c.rest-row.result.nodes.now)
    × IsBack c.args.at c.args.node.now (gathered (trees_in p ++ c.rest-row.result.nodes.now))
    × (c.index-children-place.result.height
    ≤ (gathered (trees_in p ++ c.rest-row.result.nodes.now)).height)
made t c p u =
    let e = (goal.at.back_part-After-index-children-place-2 t c).After-index-children-place in
    let xs = take c.child_at-place.result c.in-Inner.children.now in
    back_made c.args.node.now xs c.index-children-place.result c.index-children-place-2.result
    c.rest-row.result.nodes.now
    (subst (λ us. CutsAt c.args.node.now xs c.index-children-place.result us) (sym (row_is t c))
    (parts t e)) c.args.at (c.args.at - c.total_before-before.result.chars) (place t e)
    (omega (arith, inside t e)) p u

pub back_part-returns-clause-part : goal.back_part-returns-clause-part
back_part-returns-clause-part t c =
    (made t (goal.at.back_part-returns-clause-part t c).After-index-children-place-2
    c.in_ok-nodes.nodes c.in_ok-nodes.ensures.union).0

pub back_part-returns-clause-back : goal.back_part-returns-clause-back
back_part-returns-clause-back t c =
    (made t (goal.at.back_part-returns-clause-back t c).After-index-children-place-2
    c.in_ok-nodes.nodes c.in_ok-nodes.ensures.union).1

pub back_part-returns-clause-made_ok : goal.back_part-returns-clause-made_ok
back_part-returns-clause-made_ok t c =
    let e = goal.at.back_part-returns-clause-made_ok t c in
    let high =
    (made t e.After-index-children-place-2 c.in_ok-nodes.nodes c.in_ok-nodes.ensures.union).2 in
    omega (arith, c.in_ok-nodes.ensures.made, (parts t e.After-index-children-place).above, high)

pub with_back-unite-requires-clause-join : goal.with_back-unite-requires-clause-join
with_back-unite-requires-clause-join t c =
    back_joins c.args.at _ _ _ (omega (arith, c.requires.within)) c.requires.beside.join
    c.in_ok-part.ensures.back

pub with_back-returns-then-height-eq0-clause-made :
    goal.with_back-returns-then-height-eq0-clause-made
with_back-returns-then-height-eq0-clause-made t c =
    let near =
    back_is_near c.args.at c.args.left.now c.args.right.now c.in_ok-part.part c.requires.beside.near
    c.in_ok-part.ensures.back in
    omega (
      arith,
      c.unite.ensures.made_near near,
      c.in_ok-part.ensures.made_ok,
      c.in_ok-part.ensures.back.not_higher,
      c.requires.beside.level,
    )

pub with_back-unite_before-requires-clause-join : goal.with_back-unite_before-requires-clause-join
with_back-unite_before-requires-clause-join t c =
    back_joins c.args.at _ _ _ (omega (arith, c.requires.within)) c.requires.beside.join
    c.in_ok-row.ensures.back

pub with_back-unite_before-requires-clause-near : goal.with_back-unite_before-requires-clause-near
with_back-unite_before-requires-clause-near t c =
    back_is_near c.args.at _ _ _ c.requires.beside.near c.in_ok-row.ensures.back

pub back-returns-then-at-info-clause-back : goal.back-returns-then-at-info-clause-back
back-returns-then-at-info-clause-back t c =
    let n = c.args.node.now in
    IfOk-weaker c.leaf_of.result _ (IsBack c.args.at n)
    (λ part is. empty_back n part (chars []) c.args.at (is
    ∙ ap (λ b. leaf_tree b (chars [])) c.line_breaks.ensures) chars-nil (c.if-at-info.true
    ∙ ap (λ i. i.chars) c.info.ensures.value)) c.leaf_of.ensures.ok

pub back-returns-then-at-eq0-clause-back : goal.back-returns-then-at-eq0-clause-back
back-returns-then-at-eq0-clause-back t c =
    let n = c.args.node.now in
    let some : 1 ≤ length (text n) =
    omega (arith, c.if-at-eq0.true, c.if-at-info.false, ap (λ i. i.chars) c.info.ensures.value) in
    IfOk-weaker c.share.result (λ part. part ≡ n) (IsBack c.args.at n)
    (λ part same. whole_back n part c.args.at c.info.ensures.tree c.if-at-eq0.true some same)
    c.share.ensures.same

pub back-returns-in-Leaf-clause-back : goal.back-returns-in-Leaf-clause-back
back-returns-in-Leaf-clause-back t c =
    let n = c.args.node.now in
    let is = c.in-Leaf.ensures.is in
    let whole = text_of_leaf n.breaks n c.in-Leaf.leaf is in
    let some : 1 ≤ c.args.at = omega (arith, c.if-at-eq0.false) in
    let inside : c.args.at < length c.in-Leaf.leaf =
    omega (
      arith,
      c.if-at-info.false,
      ap (λ i. i.chars) c.info.ensures.value,
      ap length whole,
    ) in
    both_ok c.leaf_part.result _ _ (IsBack c.args.at n)
    (λ part ok tree. leaf_back n part c.in-Leaf.leaf c.args.at is ok tree some inside)
    c.leaf_part.ensures.ok c.leaf_part.ensures.tree

pub back_part-child_at-place-requires-clause-last :
    goal.back_part-child_at-place-requires-clause-last
back_part-child_at-place-requires-clause-last t c =
    under_last c.args.node.now _ _ c.in-Inner.totals.now c.in-Inner.children.now c.args.at
    c.in-Inner.ensures.is c.in-Inner.ensures.children c.in-Inner.ensures.totals_right
    c.requires.within

pub with_back-unite-requires-clause-left_some : goal.with_back-unite-requires-clause-left_some
with_back-unite-requires-clause-left_some t c =
    back_some c.args.at c.args.left.now c.in_ok-part.part c.requires.within
    c.in_ok-part.ensures.back

pub with_back-unite_before-requires-clause-left_some :
    goal.with_back-unite_before-requires-clause-left_some
with_back-unite_before-requires-clause-left_some t c =
    back_some c.args.at c.args.left.now _ c.requires.within c.in_ok-row.ensures.back
