use Rattle.std.proofs.Common.{◌∙◌, take, ap, sym, arith}
use Rattle.rope_text.specs.Cuts.{is_cut}
use Rattle.rope_leaf.proofs.HalfLaws.{halves_at}
use Rattle.rope_leaf.proofs.node_text.even_halves.Goals as goal

pub returns : goal.returns
returns c =
    let text = c.args.text.now in
    let cut = ap (λ bs. is_cut bs c.next_break-cut.result) (sym c.as_bytes.ensures.value)
    ∙ c.next_break-cut.ensures.cut in
    halves_at c.args.room text c.range.result.now c.range_from-back.result.now
    c.next_break-cut.result (c.range.ensures.value ∙ ap (λ k. take k text) (omega arith))
    c.range_from-back.ensures.value c.range.utf8 c.range_from-back.utf8 cut
    (omega arith) (omega arith) (omega arith) (omega arith) (omega arith)
