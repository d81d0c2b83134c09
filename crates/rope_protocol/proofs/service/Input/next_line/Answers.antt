use Rattle.std.specs.Prelude.{◌≢◌}
use Rattle.rope_protocol.specs.declared.service.Fault.TheVariants.{Failed}
use Rattle.rope_protocol.proofs.Serving.{Puts-flushed, each_err}
use Rattle.rope_protocol.proofs.service.Input.next_line.Goals as goal

pub loop-preserved : goal.loop-preserved
loop-preserved g c =
    Puts-flushed _ _ _ _ _ _ c.loop.invariant c.in_ok-flush.ensures.written
    c.in_ok-flush.ensures.empty

pub returns-then-branch-clause-put : goal.returns-then-branch-clause-put
returns-then-branch-clause-put g c = c.loop.invariant

pub returns-then-not-branch-clause-put : goal.returns-then-not-branch-clause-put
returns-then-not-branch-clause-put g c =
    Puts-flushed _ _ _ _ _ _ c.loop.invariant c.in_ok-flush.ensures.written
    c.in_ok-flush.ensures.empty

pub returns-in_err-fill-clause-kept : goal.returns-in_err-fill-clause-kept
returns-in_err-fill-clause-kept g c =
    each_err c.from_residual-in_err-fill.result (λ e. e ≢ Failed)
    (Puts-flushed _ _ _ _ _ _ c.loop.invariant c.in_ok-flush.ensures.written
    c.in_ok-flush.ensures.empty)

pub returns-in_err-take_line-clause-kept : goal.returns-in_err-take_line-clause-kept
returns-in_err-take_line-clause-kept g c =
    each_err c.from_residual.result (λ e. e ≢ Failed) c.loop.invariant
