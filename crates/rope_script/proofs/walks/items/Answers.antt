use Rattle.std.proofs.Common.{◌≡◌, [], drop, arith}
use Rattle.std.proofs.lemmas.List.{append-nil, drop_all}
use Rattle.rope_script.proofs.walks.items.Goals as goal

pub returns-clause-items : goal.returns-clause-items
returns-clause-items g c =
    let past : drop c.loop-step.step-index c.args.moves.now ≡ [] =
    drop_all c.loop-step.step-index c.args.moves.now (omega arith) in
    let whole = c.loop-step.invariant [] (rw past (g.met.W.Walker.ends c.loop-step.walker)) in
    rw append-nil at whole
