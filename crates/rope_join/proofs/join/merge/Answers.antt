use Rattle.std.proofs.Common.{refl, ap, ap₂, ◌∙◌, ◌++◌, ◌+◌, ◌≤◌, arith, sym}
use Rattle.rope_text.specs.TextInfo.{info_of}
use Rattle.rope_leaf.specs.Search.{IsSmall}
use Rattle.rope_leaf.proofs.Infos.{small_info, sum_of_small}
use Rattle.rope_leaf.proofs.InsertLeaves.{text_of_leaf}
use Rattle.rope_leaf.specs.Tree.{text, leaf_tree, height_of, breaks_of}
use Rattle.rope_leaf.specs.Siblings.{AreSiblings}
use Rattle.rope_tree.specs.View.{trees_in}
use Rattle.rope_join.specs.Join.{IsUnion}
use Rattle.rope_tree.proofs.LastCalls.{both_ok}
use Rattle.rope_join.proofs.Unions.{merged_leaves, kept, leaves_near, inner_siblings, inner_union}
use Rattle.std.proofs.lemmas.Bool.Decides.{nat_tests}
use Rattle.rope_join.proofs.join.merge.Goals.{After-info-then-is_short, In-Inner-view, then-len-lt-MIN_BYTES, else-len-lt-MIN_BYTES, else-len-le-MAX_BYTES-via-then-len-le-MAX_BYTES+else-is_short, else-len-le-MAX_BYTES-via-else-len-le-MAX_BYTES}
use Rattle.rope_join.proofs.join.merge.Goals as goal

both : (c : After-info-then-is_short) → IsSmall c.info.result × IsSmall c.info-then-is_short.result
both c = (
  rw c.info.ensures.value (small_info _ _ c.info.ensures.tree.fits),
  rw c.info-then-is_short.ensures.value (small_info _ _ c.info-then-is_short.ensures.tree.fits),
)

pub plus-info-requires : goal.plus-info-requires
plus-info-requires c = let b = both c in sum_of_small _ _ b.0 b.1

siblings : (c : In-Inner-view)
    → AreSiblings (breaks_of (c.in-Inner.first.now ++ c.in-Inner-view.second.now))
    (height_of (c.in-Inner.first.now ++ c.in-Inner-view.second.now))
    (c.in-Inner.first.now ++ c.in-Inner-view.second.now)
siblings c =
    inner_siblings _ _ _ _ c.in-Inner.ensures.is c.in-Inner-view.ensures.is
    c.in-Inner.ensures.children c.in-Inner-view.ensures.children c.requires.join
    c.requires.merge.level (c.requires.merge.near
    (omega (arith, ap (λ u. u.height) c.in-Inner.ensures.is)))

pub pack_over-requires-clause-siblings : goal.pack_over-requires-clause-siblings
pack_over-requires-clause-siblings c =
    rw (c.of-before.ensures.nodes, c.none.ensures.nodes, c.of-after.ensures.nodes)
    (siblings (goal.at.pack_over-requires-clause-siblings c).In-Inner-view)

pub returns-else-first-ge-MIN_CHILDREN-clause-union :
    goal.returns-else-first-ge-MIN_CHILDREN-clause-union
returns-else-first-ge-MIN_CHILDREN-clause-union c =
    let near = c.requires.merge.near (omega (arith, ap (λ u. u.height) c.in-Inner.ensures.is)) in
    both_ok c.pack_over.result _ _
    (λ nodes. IsUnion c.args.left.now c.args.right.now (trees_in nodes)) (λ nodes leaves shape.
    inner_union _ _ _ _ c.in-Inner.ensures.is c.in-Inner-view.ensures.is c.in-Inner.ensures.children
    c.in-Inner-view.ensures.children c.requires.join c.requires.merge.level near _
    (rw (c.of-before.ensures.nodes, c.none.ensures.nodes, c.of-after.ensures.nodes) at leaves)
    (rw (c.of-before.ensures.nodes, c.none.ensures.nodes, c.of-after.ensures.nodes) at shape))
    c.pack_over.ensures.leaves c.pack_over.ensures.shape

pub leaf_of_both-requires-clause-info : goal.leaf_of_both-requires-clause-info
leaf_of_both-requires-clause-info c =
    let left = c.args.left.now in
    let right = c.args.right.now in
    let parts =
    ap₂ (λ s t. s ++ t) (text_of_leaf _ left c.in-Leaf.first c.in-Leaf.ensures.is)
    (text_of_leaf _ right c.in-Leaf-view.second c.in-Leaf-view.ensures.is) in
    c.plus-info.ensures.joined left.breaks (text left) (text right) c.info.ensures.value
    (c.info-then-is_short.ensures.value
    ∙ ap (λ b. info_of b (text right)) c.requires.join.same_breaks) c.requires.join.seam.apart
    ∙ ap₂ info_of (sym c.line_breaks.ensures) parts

pub returns-then-is_short-clause-union : goal.returns-then-is_short-clause-union
returns-then-is_short-clause-union c =
    let right = c.in-Leaf-view.ensures.is
    ∙ ap (λ b. leaf_tree b c.in-Leaf-view.second) c.requires.join.same_breaks in
    let one = c.in_ok-node-in-Leaf.ensures.ok
    ∙ ap (λ b. leaf_tree b (c.in-Leaf.first ++ c.in-Leaf-view.second)) c.line_breaks.ensures in
    merged_leaves c.args.left.now.breaks _ _ _ _ _ _ c.in-Leaf.ensures.is right refl one
    c.in_ok-node-in-Leaf.ensures.tree c.requires.left_some c.requires.right_some

pub returns-then-first-second-gt-MAX_CHILDREN-clause-union :
    goal.returns-then-first-second-gt-MAX_CHILDREN-clause-union
returns-then-first-second-gt-MAX_CHILDREN-clause-union c =
    let first = ap (λ u. u.width) c.in-Inner.ensures.is in
    let second = ap (λ u. u.width) c.in-Inner-view.ensures.is in
    let near = c.requires.merge.near (omega (arith, ap (λ u. u.height) c.in-Inner.ensures.is)) in
    rw (c.in_ok-share-in-Inner.ensures.same, c.in_ok-share-in-Inner-2.ensures.same)
    (kept _ _ (rw c.in_ok-share-in-Inner.ensures.same at c.in_ok-share-in-Inner.ensures.tree)
    (rw c.in_ok-share-in-Inner-2.ensures.same at c.in_ok-share-in-Inner-2.ensures.tree)
    c.requires.left_some c.requires.right_some c.requires.join c.requires.merge.level
    (λ _. omega (arith, first, c.if-first-ge-MIN_CHILDREN.true))
    (λ _. omega (arith, second, c.if-second-ge-MIN_CHILDREN.true))
    (λ _. omega (arith, first, second, c.if-first-second-gt-MAX_CHILDREN.true)) near)

pub returns-in_ok-share-in-Leaf-2-clause-union : goal.returns-in_ok-share-in-Leaf-2-clause-union
returns-in_ok-share-in-Leaf-2-clause-union c =
    let right = c.in-Leaf-view.ensures.is
    ∙ ap (λ b. leaf_tree b c.in-Leaf-view.second) c.requires.join.same_breaks in
    let low = ap (λ u. u.height) c.in-Leaf.ensures.is in
    let enough : 492 ≤ c.len-in-Leaf.result + c.len-in-Leaf-2.result =
    elim c.else-len-le-MAX_BYTES.branch [
      | else-len-le-MAX_BYTES-via-then-len-le-MAX_BYTES+else-is_short w ↦
          elim c.if-len-lt-MIN_BYTES.branch [
            | then-len-lt-MIN_BYTES v ↦ let test = sym v.is_short-is ∙ w.if-is_short.false in
                grind (arith, nat_tests)
            | else-len-lt-MIN_BYTES v ↦ let test = sym v.is_short-is ∙ w.if-is_short.false in
                grind (arith, nat_tests)
          ]
      | else-len-le-MAX_BYTES-via-else-len-le-MAX_BYTES w ↦ omega arith
    ] in
    let near =
    leaves_near c.args.left.now.breaks _ _ _ _ c.in-Leaf.ensures.is right c.requires.left_some
    c.requires.right_some (omega (
      arith,
      enough,
      c.len-in-Leaf.ensures.value,
      c.len-in-Leaf-2.ensures.value,
    )) in
    rw (c.in_ok-share-in-Leaf.ensures.same, c.in_ok-share-in-Leaf-2.ensures.same)
    (kept _ _ (rw c.in_ok-share-in-Leaf.ensures.same at c.in_ok-share-in-Leaf.ensures.tree)
    (rw c.in_ok-share-in-Leaf-2.ensures.same at c.in_ok-share-in-Leaf-2.ensures.tree)
    c.requires.left_some c.requires.right_some c.requires.join c.requires.merge.level
    (λ high. absurd (omega (arith, high, low))) (λ high. absurd (omega (arith, high, low)))
    (λ high. absurd (omega (arith, high, low))) near)
