use Rattle.std.proofs.Common.{take, ap, ◌∙◌, arith}
use Rattle.rope_tree.proofs.PieceLaws.{split_in_halves, split_at_cut}
use Rattle.rope_tree.proofs.node.pieces.split_first.Goals as goal

pub returns-then-text-le-MAX_JOINED_BYTES : goal.returns-then-text-le-MAX_JOINED_BYTES
returns-then-text-le-MAX_JOINED_BYTES c = split_in_halves _ _ _ c.utf8.text c.halves_of.ensures

pub returns : goal.returns
returns c =
    let cut = c.first_leaf_len-len in
    split_at_cut c.args.text.now c.range.result.now c.range_from.result.now cut.result c.range.utf8
    c.range_from.utf8
    (c.range.ensures.value ∙ ap (λ k. take k c.args.text.now) (omega arith))
    c.range_from.ensures.value cut.ensures.cut
    (omega (arith, cut.ensures.long)) cut.ensures.short
    (omega (arith, cut.ensures.short, c.if-text-le-MAX_JOINED_BYTES.false))
