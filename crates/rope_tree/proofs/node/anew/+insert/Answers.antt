use Rattle.std.proofs.Common.{◌≡◌, ℕ, ◌+◌, ◌-◌, ◌<◌, ◌≤◌, ◌^◌, List, ◌++◌, length, take, drop, ap, arith}
use Rattle.rope_text.specs.Text.{byte_len}
use Rattle.rope_text.proofs.Measures.{IsMeasure-byte_len}
use Rattle.rope_leaf.specs.declared.search.Unit.TheVariants.{Char}
use Rattle.rope_text.specs.Edit.{inserted}
use Rattle.rope_leaf.specs.Siblings.{AreLevel, AreOver}
use Rattle.rope_leaf.specs.Tree.{Tree, text, joined, leaves_of, height_of, breaks_of}
use Rattle.rope_tree.specs.View.{trees_in}
use Rattle.rope_leaf.specs.Insert.{MayInsert, GoesIn, IsInserted, IsReplaced}
use Rattle.rope_tree.proofs.LastCalls.{both_ok}
use Rattle.rope_leaf.proofs.NodeLaws.{small_totals}
use Rattle.rope_leaf.proofs.Descents.{Descends, descends}
use Rattle.rope_leaf.proofs.InsertDescents.{last_total, inner_some, held_within, goes_in}
use Rattle.rope_leaf.proofs.InsertTrees.{siblings_of_first, text_around, child_may, replaced, new_siblings, new_length, new_node}
use Rattle.rope_tree.proofs.node.anew.+insert.Goals.{After-index-children-place, else-len-gt-MAX_SHORT_BYTES-via-then-len-gt-MAX_SHORT_BYTES+else-height-eq0, else-len-gt-MAX_SHORT_BYTES-via-else-len-gt-MAX_SHORT_BYTES}
use Rattle.rope_tree.proofs.node.anew.+insert.Goals as goal

down : (t : ℕ) (c : After-index-children-place t)
    → Descends (breaks_of c.in-Inner.children.now) Char c.char_to_hold-held.result
    c.in-Inner.children.now c.child_at-place.result c.index-children-place.result
    c.total_before-front.result
down t c =
    descends Char c.char_to_hold-held.result c.in-Inner.children.now c.in-Inner.totals.now
    c.child_at-place.result c.index-children-place.result c.total_before-front.result
    c.in-Inner.ensures.children c.in-Inner.ensures.totals_right c.child_at-place.ensures.within
    c.index-children-place.is
    c.total_before-front.ensures.first c.total_before-front.ensures.later
    c.child_at-place.ensures.before c.child_at-place.ensures.past

goes : (t : ℕ) (c : After-index-children-place t) → (c.total_before-front.result.chars ≤ c.args.at)
    × GoesIn c.args.at (c.args.at - c.total_before-front.result.chars)
    (length (text c.index-children-place.result)) c.args.to_right
goes t c =
    let d = down t c in
    goes_in c.args.at c.char_to_hold-held.result c.total_before-front.result.chars
    (length (text c.index-children-place.result)) c.args.to_right d.not_past d.past
    c.char_to_hold-held.ensures.right c.char_to_hold-held.ensures.first
    c.char_to_hold-held.ensures.left

place : (t : ℕ) (c : After-index-children-place t)
    → c.args.at ≡ length (joined (take c.child_at-place.result c.in-Inner.children.now))
    + (c.args.at - c.total_before-front.result.chars)
place t c =
    let front = ap (λ x. x.chars) (down t c).front_is in
    let g = (goes t c).0 in
    omega arith

may : (t : ℕ) (c : After-index-children-place t)
    → MayInsert c.index-children-place.result (c.args.at - c.total_before-front.result.chars)
    c.args.added.now c.args.to_right
may t c =
    let d = down t c in
    let g = (goes t c).1 in
    child_may (breaks_of c.in-Inner.children.now) (height_of c.in-Inner.children.now)
    c.in-Inner.children.now c.child_at-place.result c.index-children-place.result d.children
    d.within d.child_is
    c.args.node.now c.in-Inner.ensures.is c.args.at (c.args.at - c.total_before-front.result.chars)
    c.args.added.now c.requires.takes.some (place t c) g.within c.args.to_right g.inside
    c.requires.side

pub child_at-place-requires-clause-small : goal.child_at-place-requires-clause-small
child_at-place-requires-clause-small t c =
    small_totals _ c.in-Inner.totals.now c.in-Inner.children.now c.in-Inner.ensures.totals_right
    c.in-Inner.ensures.children.fits

pub child_at-place-requires-clause-last : goal.child_at-place-requires-clause-last
child_at-place-requires-clause-last t c =
    let ts = c.in-Inner.children.now in
    let some = inner_some _ _ ts c.in-Inner.ensures.children in
    let whole = ap (λ u. length (text u)) c.in-Inner.ensures.is in
    let held =
    held_within c.args.node.now c.args.at c.char_to_hold-held.result c.args.added.now
    c.args.to_right c.requires.takes.within (omega (arith, whole, some)) c.requires.side
    c.char_to_hold-held.ensures.right c.char_to_hold-held.ensures.first
    c.char_to_hold-held.ensures.left in
    λ d. rw (last_total (breaks_of ts) c.in-Inner.totals.now ts c.in-Inner.ensures.totals_right
    (omega (arith, c.in-Inner.ensures.children.at_least_two)) d) (omega (arith, whole, held))

pub overflow_sub-inside : goal.overflow_sub-inside
overflow_sub-inside t c = (goes t (goal.at.overflow_sub-inside t c).After-index-children-place).0

child_fits : (t : ℕ) (c : After-index-children-place t)
    → byte_len (text c.index-children-place.result) ≤ byte_len (text c.args.node.now)
child_fits t c =
    let d = down t c in
    let ts = c.in-Inner.children.now in
    let k = c.child_at-place.result in
    let whole = ap (λ u. byte_len (text u)) c.in-Inner.ensures.is in
    let parts =
    ap byte_len (text_around (breaks_of ts) (height_of ts) ts k c.index-children-place.result
    d.children d.within d.child_is) in
    omega (
      arith,
      whole,
      parts,
      IsMeasure-byte_len.joined (joined (take k ts))
          (text c.index-children-place.result ++ joined (drop (k + 1) ts)),
      IsMeasure-byte_len.joined (text c.index-children-place.result) (joined (drop (k + 1) ts)),
    )

-- a leaf takes only a short text
low : (t : ℕ) (c : goal.After-insert-arg-1 t) → c.index-children-place.result.height ≡ 0
    → byte_len c.args.added.now ≤ 981
low t c flat =
    elim c.else-len-gt-MAX_SHORT_BYTES.branch [
      | else-len-gt-MAX_SHORT_BYTES-via-then-len-gt-MAX_SHORT_BYTES+else-height-eq0 w ↦
          absurd (omega (arith, w.if-height-eq0.false, w.height.ensures, flat))
      | else-len-gt-MAX_SHORT_BYTES-via-else-len-gt-MAX_SHORT_BYTES w ↦
          omega (arith, w.if-len-gt-MAX_SHORT_BYTES.false, c.len.ensures.value)
    ]

pub insert-requires : goal.insert-requires
insert-requires t c =
    let e = (goal.at.insert-requires t c).After-index-children-place in
    let d = down t e in
    let above = ap (λ u. u.height) c.in-Inner.ensures.is in (
      omega (arith, c.decreases, above, d.own.at_height),
      (
        record {
          within = (goes t e).1.within;
          some = c.requires.takes.some;
          fits = omega (arith, c.requires.takes.fits, child_fits t e);
        },
        (λ flat. low t c flat, may t e),
      ),
    )

made_by : (t : ℕ) (c : After-index-children-place t)
    → c.index-children-place.result.height + 1 ≡ c.args.node.now.height
made_by t c = omega (arith, ap (λ u. u.height) c.in-Inner.ensures.is, (down t c).own.at_height)

pub returns-in_err-middle-in-Inner-clause-made : goal.returns-in_err-middle-in-Inner-clause-made
returns-in_err-middle-in-Inner-clause-made t c =
    omega (
      arith,
      made_by t (goal.at.returns-in_err-middle-in-Inner-clause-made t
          c).After-index-children-place,
      c.insert.ensures.made,
    )

pub returns-in_ok-middle-in-Inner-clause-made : goal.returns-in_ok-middle-in-Inner-clause-made
returns-in_ok-middle-in-Inner-clause-made t c =
    omega (
      arith,
      made_by t (goal.at.returns-in_ok-middle-in-Inner-clause-made t
          c).After-index-children-place,
      c.in_ok-middle-in-Inner.ensures.made,
      c.pack.ensures.made,
    )

-- the nodes that replace the child, among its siblings
module _ (t : ℕ) (c : After-index-children-place t) (ps : List Tree)
    (new : IsReplaced c.index-children-place.result ps
    (inserted (text c.index-children-place.result) (c.args.at - c.total_before-front.result.chars)
    c.args.added.now)) where
  fits : byte_len (text c.args.node.now) + byte_len c.args.added.now < 2 ^ 63
  fits = omega (arith, c.requires.takes.fits)

  abbrev all : List Tree
  all = take c.child_at-place.result c.in-Inner.children.now
      ++ (ps ++ drop (c.child_at-place.result + 1) c.in-Inner.children.now)

  -- one child is replaced by these nodes
  many : length all + 1 ≡ length c.in-Inner.children.now + length ps
  many =
      let d = down t c in
      let g = (goes t c).1 in
      let ts = c.in-Inner.children.now in
      new_length (breaks_of ts) (height_of ts) ts c.child_at-place.result
      c.index-children-place.result d.children d.within d.child_is c.args.node.now
      c.in-Inner.ensures.is c.args.at (c.args.at - c.total_before-front.result.chars)
      c.args.added.now c.requires.takes.some (place t c) g.within
      ps c.args.to_right g.inside g.outside c.requires.side new fits

  at_least_two : 2 ≤ length all
  at_least_two = omega (arith, many, (down t c).children.at_least_two, new.some)

  at_most_48 : length all ≤ 48
  at_most_48 = omega (arith, many, (down t c).children.at_most_24, new.few)

  level : AreLevel all
  level =
      let d = down t c in
      let g = (goes t c).1 in
      let ts = c.in-Inner.children.now in
      siblings_of_first (breaks_of ts) (height_of ts) all (omega (arith, at_least_two))
      (new_siblings (breaks_of ts) (height_of ts) ts c.child_at-place.result
      c.index-children-place.result d.children d.within d.child_is c.args.node.now
      c.in-Inner.ensures.is c.args.at (c.args.at - c.total_before-front.result.chars)
      c.args.added.now c.requires.takes.some (place t c) g.within
      ps c.args.to_right g.inside g.outside c.requires.side new fits)

  done : (rs : List Tree) → leaves_of rs ≡ leaves_of all → AreOver all rs
      → IsInserted c.args.node.now rs (inserted (text c.args.node.now) c.args.at c.args.added.now)
  done rs leaves shape =
      let d = down t c in
      let g = (goes t c).1 in
      let ts = c.in-Inner.children.now in
      new_node (breaks_of ts) (height_of ts) ts c.child_at-place.result
      c.index-children-place.result d.children d.within d.child_is c.args.node.now
      c.in-Inner.ensures.is c.args.at (c.args.at - c.total_before-front.result.chars)
      c.args.added.now c.requires.takes.some (place t c) g.within
      ps c.args.to_right g.inside g.outside c.requires.side new fits rs leaves shape

pub pack-requires-clause-siblings : goal.pack-requires-clause-siblings
pack-requires-clause-siblings t c =
    let e = (goal.at.pack-requires-clause-siblings t c).After-index-children-place in
    rw (c.first-before.ensures.nodes, c.rest-after.ensures.nodes, c.of-row.ensures.nodes)
    (level t e (trees_in c.in_ok-middle-in-Inner.middle)
    (replaced _ _ _ c.in_ok-middle-in-Inner.ensures.ok))

pub returns-in_ok-middle-in-Inner-clause-ok : goal.returns-in_ok-middle-in-Inner-clause-ok
returns-in_ok-middle-in-Inner-clause-ok t c =
    let e = (goal.at.returns-in_ok-middle-in-Inner-clause-ok t c).After-index-children-place in
    both_ok c.pack.result _ _ _ (λ nodes leaves shape.
    done t e (trees_in c.in_ok-middle-in-Inner.middle)
    (replaced _ _ _ c.in_ok-middle-in-Inner.ensures.ok) (trees_in nodes)
    (rw (c.first-before.ensures.nodes, c.rest-after.ensures.nodes, c.of-row.ensures.nodes) at
    leaves) (rw (c.first-before.ensures.nodes, c.rest-after.ensures.nodes, c.of-row.ensures.nodes)
    at shape))
    c.pack.ensures.leaves c.pack.ensures.shape

pub pack_over-requires-clause-siblings : goal.pack_over-requires-clause-siblings
pack_over-requires-clause-siblings t c =
    let e = (goal.at.pack_over-requires-clause-siblings t c).After-index-children-place in
    rw (
      c.first-before.ensures.nodes,
      c.new.ensures.nodes,
      c.as_slice.ensures.value,
      c.rest-after.ensures.nodes,
      c.of-row.ensures.nodes,
    )
    (level t e c.fill_with.new.pieces.items c.in_ok-fill_with-in-Inner.ensures.ok)

pub returns-then-height-eq0-clause-ok : goal.returns-then-height-eq0-clause-ok
returns-then-height-eq0-clause-ok t c =
    let e = (goal.at.returns-then-height-eq0-clause-ok t c).After-index-children-place in
    both_ok c.pack_over.result _ _ _ (λ nodes leaves shape.
    done t e c.fill_with.new.pieces.items c.in_ok-fill_with-in-Inner.ensures.ok (trees_in nodes)
    (rw (
      c.first-before.ensures.nodes,
      c.new.ensures.nodes,
      c.as_slice.ensures.value,
      c.rest-after.ensures.nodes,
      c.of-row.ensures.nodes,
    ) at leaves)
    (rw (
      c.first-before.ensures.nodes,
      c.new.ensures.nodes,
      c.as_slice.ensures.value,
      c.rest-after.ensures.nodes,
      c.of-row.ensures.nodes,
    ) at shape))
    c.pack_over.ensures.leaves c.pack_over.ensures.shape

pub returns-in_err-middle-in-Inner-clause-searched :
    goal.returns-in_err-middle-in-Inner-clause-searched
returns-in_err-middle-in-Inner-clause-searched t c =
    let h = made_by t (goal.at.returns-in_err-middle-in-Inner-clause-searched t
    c).After-index-children-place in
    record { rise = omega (arith, h); nodes = omega (arith, h); compares = omega (arith, h) }

pub returns-in_ok-middle-in-Inner-clause-searched :
    goal.returns-in_ok-middle-in-Inner-clause-searched
returns-in_ok-middle-in-Inner-clause-searched t c =
    let h = made_by t (goal.at.returns-in_ok-middle-in-Inner-clause-searched t
    c).After-index-children-place in
    record { rise = omega (arith, h); nodes = omega (arith, h); compares = omega (arith, h) }

pub pack-requires-clause-at_least_two : goal.pack-requires-clause-at_least_two
pack-requires-clause-at_least_two t c =
    let e = (goal.at.pack-requires-clause-at_least_two t c).After-index-children-place in
    rw (c.first-before.ensures.nodes, c.rest-after.ensures.nodes, c.of-row.ensures.nodes)
    (at_least_two t e (trees_in c.in_ok-middle-in-Inner.middle)
    (replaced _ _ _ c.in_ok-middle-in-Inner.ensures.ok))

pub pack_over-requires-clause-at_least_two : goal.pack_over-requires-clause-at_least_two
pack_over-requires-clause-at_least_two t c =
    let e = (goal.at.pack_over-requires-clause-at_least_two t c).After-index-children-place in
    rw (
      c.first-before.ensures.nodes,
      c.new.ensures.nodes,
      c.as_slice.ensures.value,
      c.rest-after.ensures.nodes,
      c.of-row.ensures.nodes,
    )
    (at_least_two t e c.fill_with.new.pieces.items c.in_ok-fill_with-in-Inner.ensures.ok)

pub pack-requires-clause-at_most_48 : goal.pack-requires-clause-at_most_48
pack-requires-clause-at_most_48 t c =
    let e = (goal.at.pack-requires-clause-at_most_48 t c).After-index-children-place in
    rw (c.first-before.ensures.nodes, c.rest-after.ensures.nodes, c.of-row.ensures.nodes)
    (at_most_48 t e (trees_in c.in_ok-middle-in-Inner.middle)
    (replaced _ _ _ c.in_ok-middle-in-Inner.ensures.ok))

pub pack_over-requires-clause-at_most_48 : goal.pack_over-requires-clause-at_most_48
pack_over-requires-clause-at_most_48 t c =
    let e = (goal.at.pack_over-requires-clause-at_most_48 t c).After-index-children-place in
    rw (
      c.first-before.ensures.nodes,
      c.new.ensures.nodes,
      c.as_slice.ensures.value,
      c.rest-after.ensures.nodes,
      c.of-row.ensures.nodes,
    )
    (at_most_48 t e c.fill_with.new.pieces.items c.in_ok-fill_with-in-Inner.ensures.ok)
