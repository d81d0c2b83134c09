use Rattle.std.proofs.Common.{ℕ, ◌≤◌, refl, arith}
use Rattle.rope_text.specs.Dense.{last_bytes}
use Rattle.rope_tree.specs.View.{trees_in}
use Rattle.rope_join.specs.Join.{CanMerge, IsUnion}
use Rattle.rope_tree.proofs.LastCalls.{both_ok}
use Rattle.rope_join.proofs.Sides.{AreSides, sides_below, sides_some, sides_can_join, sides_near, sides_apart, sides_count, sides_siblings, sides_union}
use Rattle.rope_join.proofs.join.+unite.Goals.{After-end_of-first, else-height-via-then-height+else-end_leaf_len-ge-MIN_TWO_LEAVES_BYTES, else-height-via-else-height, then-height-eq0, else-height-eq0}
use Rattle.rope_join.proofs.join.+unite.Goals as goal

sides : (t : ℕ) (c : After-end_of-first t)
    → AreSides c.args.left.now c.args.right.now c.end_of-last.result.node.now
    c.end_of-first.result.node.now c.end_of-last.result.before.nodes.now
    c.end_of-first.result.after.nodes.now
sides t c = record {
  left_some = c.requires.left_some;
  right_some = c.requires.right_some;
  join = c.requires.join;
  left = λ le. c.end_of-last.ensures.last refl (omega (arith, le, c.height.ensures.value));
  left_whole = λ low. let w =
      c.end_of-last.ensures.whole (omega (arith, low, c.height.ensures.value)) in (w.0, w.1);
  right = λ le. c.end_of-first.ensures.first refl (omega (arith, le, c.height-2.ensures.value));
  right_whole = λ low. let w =
      c.end_of-first.ensures.whole (omega (arith, low, c.height-2.ensures.value)) in (w.1, w.2);
}

far : (t : ℕ) (c : After-end_of-first t) → CanMerge c.args.left.now c.args.right.now → ⊥
far t c can = elim c.else-height.branch [
  | else-height-via-then-height+else-end_leaf_len-ge-MIN_TWO_LEAVES_BYTES w ↦
      let no = w.if-end_leaf_len-ge-MIN_TWO_LEAVES_BYTES.false in
      elim w.if-height-eq0.branch [
        | then-height-eq0 v ↦ grind (arith, no, v.value-is)
        | else-height-eq0 v ↦
            let high : 1 ≤ c.args.left.now.height =
            grind (arith, v.if-height-eq0.false, c.height-height.ensures.value) in
            let last = v.end_leaf_len.ensures.last refl 492 in
            let dense =
            (v.end_leaf_len-else-height-eq0.ensures.first refl
            (last_bytes 492 c.args.left.now.leaves)).1 (can.near high) in
            grind (arith, no, v.value-is, last, dense)
      ]
  | else-height-via-else-height w ↦
      absurd (w.if-height.false
      (grind (arith, can.level, c.height-height.ensures.value, c.height.ensures.value)))
]

pub unite-requires : goal.unite-requires
unite-requires t c =
    let s = sides t (goal.at.unite-requires t c).After-end_of-first in
    let some = sides_some _ _ _ _ _ _ s in (
      omega (arith, c.decreases, sides_below _ _ _ _ _ _ s),
      (some.0, (some.1, sides_can_join _ _ _ _ _ _ s)),
    )

pub returns-in_err-middle-clause-made : goal.returns-in_err-middle-clause-made
returns-in_err-middle-clause-made t c =
    let s = sides t (goal.at.returns-in_err-middle-clause-made t c).After-end_of-first in
    omega (arith, sides_below _ _ _ _ _ _ s, c.unite.ensures.made)

pub returns-in_err-middle-clause-made_near : goal.returns-in_err-middle-clause-made_near
returns-in_err-middle-clause-made_near t c near =
    let e = (goal.at.returns-in_err-middle-clause-made_near t c).After-end_of-first in
    let s = sides t e in
    omega (
      arith,
      sides_apart _ _ _ _ _ _ s (far t e) near,
      c.unite.ensures.made_near (sides_near _ _ _ _ _ _ s (far t e) near),
    )

pub pack-requires-clause-siblings : goal.pack-requires-clause-siblings
pack-requires-clause-siblings t c =
    sides_siblings _ _ _ _ _ _
    (sides t (goal.at.pack-requires-clause-siblings t c).After-end_of-first) _
    c.in_ok-middle.ensures.union

pub pack-requires-clause-at_least_two : goal.pack-requires-clause-at_least_two
pack-requires-clause-at_least_two t c =
    (sides_count _ _ _ _ _ _
    (sides t (goal.at.pack-requires-clause-at_least_two t c).After-end_of-first) _
    c.in_ok-middle.ensures.union).0

pub pack-requires-clause-at_most_48 : goal.pack-requires-clause-at_most_48
pack-requires-clause-at_most_48 t c =
    (sides_count _ _ _ _ _ _
    (sides t (goal.at.pack-requires-clause-at_most_48 t c).After-end_of-first) _
    c.in_ok-middle.ensures.union).1

pub returns-clause-union : goal.returns-clause-union
returns-clause-union t c =
    let s = sides t (goal.at.returns-clause-union t c).After-end_of-first in
    both_ok c.pack.result _ _ (λ nodes. IsUnion c.args.left.now c.args.right.now (trees_in nodes))
    (λ nodes leaves shape. sides_union _ _ _ _ _ _ s _ c.in_ok-middle.ensures.union (trees_in nodes)
    leaves shape)
    c.pack.ensures.leaves c.pack.ensures.shape

pub returns-clause-made : goal.returns-clause-made
returns-clause-made t c =
    let s = sides t (goal.at.returns-clause-made t c).After-end_of-first in
    omega (arith, sides_below _ _ _ _ _ _ s, c.in_ok-middle.ensures.made, c.pack.ensures.made)

pub returns-clause-made_near : goal.returns-clause-made_near
returns-clause-made_near t c near =
    let e = (goal.at.returns-clause-made_near t c).After-end_of-first in
    let s = sides t e in
    omega (
      arith,
      sides_apart _ _ _ _ _ _ s (far t e) near,
      c.in_ok-middle.ensures.made_near (sides_near _ _ _ _ _ _ s (far t e) near),
      c.pack.ensures.made,
    )
