use Rattle.std.proofs.Common.{◌<◌, length, get_or, set, ap, sym, ◌∙◌, subst, arith}
use Rattle.std.proofs.lemmas.List.{get_or_default}
use Rattle.std.proofs.lemmas.List.Edits.{map_over_more}
use Rattle.rope_changes.specs.Change.{ops, before}
use Rattle.rope_history.specs.declared.marks.Mark.{Mark}
use Rattle.rope_history.specs.Marking.{IsWithin, moved_mark}
use Rattle.rope_history.proofs.MarkLaws.{unmoved}
use Rattle.rope_history.proofs.OrderLaws.{none}
use Rattle.rope_history.proofs.marks.move_all.Goals as goal

pub moved-requires-clause-ordered : goal.moved-requires-clause-ordered
moved-requires-clause-ordered c =
    let old = c.args.marks.now in
    let i = c.loop-mark.mark-index in
    let lt = c.loop-mark-test.true in
    let same = unmoved (moved_mark (ops c.args.change.now)) old c.loop-mark.marks i none lt
    c.loop-mark.invariant in
    (subst (IsWithin (before c.args.change.now)) (sym same) (c.requires i none lt)).ordered

pub moved-requires-clause-within : goal.moved-requires-clause-within
moved-requires-clause-within c =
    let old = c.args.marks.now in
    let i = c.loop-mark.mark-index in
    let lt = c.loop-mark-test.true in
    let same = unmoved (moved_mark (ops c.args.change.now)) old c.loop-mark.marks i none lt
    c.loop-mark.invariant in
    (subst (IsWithin (before c.args.change.now)) (sym same) (c.requires i none lt)).within

pub loop-mark-preserved : goal.loop-mark-preserved
loop-mark-preserved c =
    let f = moved_mark (ops c.args.change.now) in
    let old = c.args.marks.now in
    let i = c.loop-mark.mark-index in
    let now = c.loop-mark.marks in
    let x : Mark = get_or now i none in
    let at : i < length now = omega (arith, c.loop-mark-test.true, c.loop-mark.auto.marks) in
    ap (set now i) c.moved.ensures
    ∙ map_over_more f old now i x c.loop-mark-test.true c.loop-mark.invariant
    (get_or_default now i none x at)
