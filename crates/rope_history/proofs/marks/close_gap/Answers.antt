use Rattle.std.proofs.Common.{◌<◌, length, get_or, set, ap, ◌∙◌, arith}
use Rattle.std.proofs.lemmas.List.{get_or_default}
use Rattle.std.proofs.lemmas.List.Edits.{map_over_more}
use Rattle.rope_history.specs.MarkLists.{closed}
use Rattle.rope_history.proofs.marks.close_gap.Goals as goal

pub loop-index-preserved : goal.loop-index-preserved
loop-index-preserved c =
    let i = c.loop-index.index-index in
    let now = c.loop-index.order in
    let x = get_or now i 0 in
    let at : i < length now = omega (arith, c.loop-index-test.true, c.loop-index.auto.order) in
    ap (set now i) c.lowered.ensures
    ∙ map_over_more (closed c.args.gap) c.args.order.now now i x c.loop-index-test.true
    c.loop-index.invariant (get_or_default now i 0 x at)
