use Rattle.std.proofs.Common.{arith}
use Rattle.rope_text.specs.Runs.{ascii_mark_at}
use Rattle.rope_text.proofs.LaneSums.{added, four_more}
use Rattle.rope_text.proofs.lanes.add_ones.Goals as goal

pub returns : goal.returns
returns c = λ most total fit before.
    let s = c.args.bytes.now in
    let a = added most 1 total _ _ _ (omega (arith, fit)) before c.ones_from.ensures in
    let b = added _ 1 _ _ _ _ (omega (arith, fit)) a c.ones_from-2.ensures in
    let d = added _ 1 _ _ _ _ (omega (arith, fit)) b c.ones_from-3.ensures in
    four_more (ascii_mark_at c.args.mark s) c.args.at most total
    (added _ 1 _ _ _ _ (omega (arith, fit)) d c.ones_from-4.ensures)
