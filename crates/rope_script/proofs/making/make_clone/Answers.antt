use Rattle.std.proofs.Common.{◌≡◌, arith}
use Rattle.rope_script.proofs.Contents.{clone_of, unmade_of}
use Rattle.rope_script.proofs.making.make_clone.Goals as goal

pub returns-in-Ok-clause-step : goal.returns-in-Ok-clause-step
returns-in-Ok-clause-step c =
    let same : c.in-Ok.clone ≡ c.index.result.now = c.in-Ok.ensures.cases in
    rw (← c.in_ok-reserve.ensures.items)
    (clone_of c.reserve.new.self.items c.add.new.ropes.items c.args.rope c.index.result.now
    c.in-Ok.clone c.add.result
    (omega (arith, c.args.ropes.now.ok.0, c.in_ok-reserve.ensures.len)) c.index.ensures same
    c.add.ensures.reply c.add.ensures.added)

pub returns-in-Err-clause-step : goal.returns-in-Err-clause-step
returns-in-Err-clause-step c =
    rw (← c.in_ok-reserve.ensures.items)
    (unmade_of c.reserve.new.self.items c.args.rope c.index.result.now
    (omega (arith, c.args.ropes.now.ok.0, c.in_ok-reserve.ensures.len)) c.index.ensures)
