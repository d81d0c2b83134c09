use Rattle.std.proofs.Common.{◌≡◌, ◌+◌, ◌-◌, ◌≤◌, take, subst, refl, sym, arith}
use Rattle.rope_text.specs.Dense.{IsDenseAfter, last_bytes}
use Rattle.rope_leaf.specs.Tree.{leaves_of, tree_over}
use Rattle.rope_join.proofs.Gaps.{near_child, next_child}
use Rattle.rope_join.proofs.gap.stands.Goals as goal

pub returns-then-before-end_leaf_len-ge-MIN_TWO_LEAVES_BYTES-clause-near :
    goal.returns-then-before-end_leaf_len-ge-MIN_TWO_LEAVES_BYTES-clause-near
returns-then-before-end_leaf_len-ge-MIN_TWO_LEAVES_BYTES-clause-near c e =
    let ts = c.args.children.now in
    let k = c.args.first - 1 in
    let more : k + 1 ≡ c.args.first = omega (arith, c.requires.some_before) in
    let dense : IsDenseAfter c.end_leaf_len-before.result c.args.part.now.leaves =
    (c.end_leaf_len.ensures.first refl c.end_leaf_len-before.result).0
    (omega (arith, c.if-before-end_leaf_len-ge-MIN_TWO_LEAVES_BYTES.true)) in
    subst (λ n. IsDenseAfter (last_bytes 492 (leaves_of (take n ts))) c.args.part.now.leaves) more
    (near_child (tree_over ts) ts k 0 refl c.requires.children c.index-children-first.result
    c.args.part.now c.end_leaf_len-before.result
    (omega (arith, more, c.requires.ordered, c.requires.some_after)) (sym c.index-children-first.is)
    (c.end_leaf_len-before.ensures.last refl) dense)

pub returns-then-before-end_leaf_len-ge-MIN_TWO_LEAVES_BYTES-clause-next :
    goal.returns-then-before-end_leaf_len-ge-MIN_TWO_LEAVES_BYTES-clause-next
returns-then-before-end_leaf_len-ge-MIN_TWO_LEAVES_BYTES-clause-next c e =
    let ts = c.args.children.now in
    let le : 492 ≤ c.end_leaf_len-then-before-end_leaf_len-ge-MIN_TWO_LEAVES_BYTES.result
    + c.end_leaf_len-following.result = grind (arith, e) in
    let last =
    c.end_leaf_len-then-before-end_leaf_len-ge-MIN_TWO_LEAVES_BYTES.ensures.last refl 492 in
    let dense : IsDenseAfter (last_bytes 492 c.args.part.now.leaves)
    c.index-children-past.result.leaves =
    (c.end_leaf_len-following.ensures.first refl (last_bytes 492 c.args.part.now.leaves)).0
    (omega (arith, le, last)) in
    next_child (tree_over ts) ts c.args.past 0 refl c.requires.children c.index-children-past.result
    (last_bytes 492 c.args.part.now.leaves) c.requires.some_after (sym c.index-children-past.is)
    dense
