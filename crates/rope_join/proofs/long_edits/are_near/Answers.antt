use Rattle.std.proofs.Common.{refl, arith}
use Rattle.rope_text.specs.Dense.{last_bytes}
use Rattle.rope_join.proofs.NearLaws.{inner_some}
use Rattle.rope_join.proofs.long_edits.are_near.Goals as goal

pub end_leaf_len-requires : goal.end_leaf_len-requires
end_leaf_len-requires c =
    inner_some c.args.left.now c.height.ensures.tree
    (omega (arith, c.if-height-eq0.false, c.height.ensures.value))

pub end_leaf_len-requires-2 : goal.end_leaf_len-requires-2
end_leaf_len-requires-2 c =
    inner_some c.args.right.now c.height-else-height-eq0.ensures.tree
    (omega (arith, c.if-height-eq0-2.false, c.height-else-height-eq0.ensures.value))

pub returns : goal.returns
returns c = λ _.
    (c.end_leaf_len-2.ensures.first refl (last_bytes 492 c.args.left.now.leaves)).0
    (omega (
      arith,
      c.end_leaf_len.ensures.last refl 492,
      c.if-end_leaf_len-lt-MIN_TWO_LEAVES_BYTES.false,
    ))
