use Rattle.std.proofs.Common.{arith}
use Rattle.rope_script.proofs.Contents.{cut_of, uncut_of}
use Rattle.rope_script.proofs.making.cut.Goals as goal

pub returns-in-Ok-clause-step : goal.returns-in-Ok-clause-step
returns-in-Ok-clause-step c =
    rw (← c.in_ok-reserve.ensures.items)
    (cut_of c.reserve.new.self.items c.add.new.ropes.items c.args.rope c.args.char_idx
    c.index_mut.result.now c.try_split_off.new.self c.in-Ok.back c.add.result
    (omega (arith, c.args.ropes.now.ok.0, c.in_ok-reserve.ensures.len)) c.index_mut.ensures.value
    c.in-Ok.ensures.ok.0 c.in-Ok.ensures.ok.1.0 c.in-Ok.ensures.ok.1.1
    c.try_split_off.ensures.kept.1 c.in-Ok.ensures.ok.1.2 c.try_split_off.ensures.kept.2
    c.in-Ok.ensures.ok.1.3 c.add.ensures.reply c.add.ensures.added)

pub returns-in-Err-clause-step : goal.returns-in-Err-clause-step
returns-in-Err-clause-step c =
    rw (← c.in_ok-reserve.ensures.items)
    (uncut_of c.reserve.new.self.items c.args.rope c.args.char_idx c.index_mut.result.now
    c.try_split_off.new.self c.in-Err.error
    (omega (arith, c.args.ropes.now.ok.0, c.in_ok-reserve.ensures.len)) c.index_mut.ensures.value
    c.in-Err.ensures.refused c.in-Err.ensures.kept.0)
