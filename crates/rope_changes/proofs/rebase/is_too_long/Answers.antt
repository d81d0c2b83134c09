use Rattle.std.proofs.Common.{ap, arith, rules}
use Rattle.rope_changes.specs.Ops.{len_after}
use Rattle.rope_changes.specs.Left.{left}
use Rattle.rope_changes.proofs.RebaseSteps.{run_left, all_carried}
use Rattle.rope_changes.proofs.rebase.is_too_long.Goals as goal

pub returns-then-added-room : goal.returns-then-added-room
returns-then-added-room c =
    let l = c.loop-first in
    let left_over = run_left c.args.side (left l.first)
    (left l.second) _ _ _ c.rebase_next.result c.load_both.ensures.first c.load_both.ensures.second
    c.rebase_next.ensures.splits in
    (λ _. omega (arith, left_over), λ _. search rules)

pub loop-first-preserved : goal.loop-first-preserved
loop-first-preserved c =
    let l = c.loop-first in
    record {
      room = omega (
        arith,
        run_left c.args.side (left l.first)
            (left l.second) _ _ _ c.rebase_next.result c.load_both.ensures.first
            c.load_both.ensures.second c.rebase_next.ensures.splits,
      );
      meet = c.rebase_next.ensures.meet;
    }

pub returns : goal.returns
returns c =
    let l = c.loop-first in
    let none = all_carried c.args.side (left l.first)
    (left l.second) _ _ c.load_both.ensures.first c.load_both.ensures.second
    (λ some. absurd (cc (c.load_both.ensures.some.1 some, c.loop-first-test.false))) in
    (λ yes. absurd (cc), λ long. absurd (omega (arith, ap len_after none)))
