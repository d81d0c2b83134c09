use Rattle.std.proofs.Common.{◌≡◌, ◌<◌, ◌≤◌, ◌^◌, ◌++◌, List, Bool, true, false, ap, sym, ◌∙◌, arith}
use Rattle.std.proofs.Math.Nat.{lt_of_not-le}
use Rattle.rope_changes.specs.Ops.{Op, len_before, len_after}
use Rattle.rope_changes.specs.Normal.{normal_form, carried, rebased}
use Rattle.rope_changes.specs.Change.{ops}
use Rattle.rope_changes.specs.Left.{left}
use Rattle.rope_changes.specs.Runs.{run_ops}
use Rattle.rope_changes.proofs.NormalLaws.{normal_before, normal_after, normal_twice}
use Rattle.rope_changes.proofs.RebaseRuns.{carried_before}
use Rattle.rope_changes.proofs.RebaseSteps.{run_before, run_after, run_added, all_carried, rebase_made}
use Rattle.rope_changes.proofs.change_set.ChangeSet.rebase.Goals as goal

-- a rebased change that was not refused is not too long
fits : (whole : List Op) (is_long : Bool) → (2 ^ 63 ≤ len_after whole → is_long ≡ true)
    → is_long ≡ false → len_after whole < 2 ^ 63
fits whole is_long told short = lt_of_not-le (λ long. let yes = told long in cc)

not_long : (whole : List Op) (is_long : Bool) → (2 ^ 63 ≤ len_after whole → is_long ≡ true)
    → is_long ≡ false → 2 ^ 63 ≤ len_after (normal_form whole) → ⊥
not_long whole is_long told short long =
    absurd (omega (arith, fits whole is_long told short, normal_after whole))

pub returns-then-is_too_long-clause-memory : goal.returns-then-is_too_long-clause-memory
returns-then-is_too_long-clause-memory c = λ same short.
    let long = c.is_too_long.ensures.0 c.if-is_too_long.true in
    absurd (omega
    (arith, normal_after (carried c.args.side (ops c.args.self.now) (ops c.args.over.now))))

pub push_run-requires-clause-before_fits : goal.push_run-requires-clause-before_fits
push_run-requires-clause-before_fits c =
    let l = c.loop-first in
    let whole = ops c.args.self.now in
    let over = ops c.args.over.now in
    omega (
      arith,
      run_before c.args.side (ops l.made) (left l.first)
          (left l.second) _ _ whole over _ c.rebase_next-run.result l.invariant.carried
          c.load_both.ensures.first c.load_both.ensures.second c.rebase_next-run.ensures.splits,
      carried_before c.args.side whole over (omega arith),
      c.new-second.ensures.after_fits,
    )

pub push_run-requires-clause-after_fits : goal.push_run-requires-clause-after_fits
push_run-requires-clause-after_fits c =
    let l = c.loop-first in
    let whole = ops c.args.self.now in
    let over = ops c.args.over.now in
    let short = fits (carried c.args.side whole over) c.is_too_long.result c.is_too_long.ensures.1
    c.if-is_too_long.false in
    omega (
      arith,
      run_after c.args.side (ops l.made) (left l.first)
          (left l.second) _ _ whole over _ c.rebase_next-run.result l.invariant.carried
          c.load_both.ensures.first c.load_both.ensures.second c.rebase_next-run.ensures.splits,
    )

pub loop-first-preserved : goal.loop-first-preserved
loop-first-preserved c =
    let l = c.loop-first in
    let whole = ops c.args.self.now in
    let over = ops c.args.over.now in
    record {
      carried = run_added c.args.side (ops l.made) (left l.first)
          (left l.second) _ _ whole over _ c.rebase_next-run.result l.invariant.carried
          c.load_both.ensures.first c.load_both.ensures.second c.rebase_next-run.ensures.splits _
          c.in_ok-push_run.ensures.ok;
      meet = c.rebase_next-run.ensures.meet;
      normal = ap normal_form c.in_ok-push_run.ensures.ok
          ∙ normal_twice (ops l.made ++ run_ops c.rebase_next-run.result)
          ∙ sym c.in_ok-push_run.ensures.ok;
    }

pub returns-in_err-push_run-clause-too_long : goal.returns-in_err-push_run-clause-too_long
returns-in_err-push_run-clause-too_long c = λ same long.
    let whole = carried c.args.side (ops c.args.self.now) (ops c.args.over.now) in
    absurd (not_long whole c.is_too_long.result c.is_too_long.ensures.1 c.if-is_too_long.false
    long)

pub returns-in_err-made-clause-too_long : goal.returns-in_err-made-clause-too_long
returns-in_err-made-clause-too_long c = λ same long.
    let whole = carried c.args.side (ops c.args.self.now) (ops c.args.over.now) in
    absurd (not_long whole c.is_too_long.result c.is_too_long.ensures.1 c.if-is_too_long.false
    long)

pub returns-clause-too_long : goal.returns-clause-too_long
returns-clause-too_long c = λ same long.
    let whole = carried c.args.side (ops c.args.self.now) (ops c.args.over.now) in
    absurd (not_long whole c.is_too_long.result c.is_too_long.ensures.1 c.if-is_too_long.false
    long)

made_is : (c : goal.After-loop-first)
    → ops c.loop-first.made ≡ rebased c.args.side (ops c.args.self.now) (ops c.args.over.now)
made_is c =
    let l = c.loop-first in
    rebase_made c.args.side (ops l.made) (left l.first) (left l.second) (ops c.args.self.now)
    (ops c.args.over.now) l.invariant.normal l.invariant.carried
    (all_carried c.args.side (left l.first)
    (left l.second) _ _ c.load_both.ensures.first c.load_both.ensures.second
    (λ some. absurd (cc (c.load_both.ensures.some.1 some, c.loop-first-test.false))))

pub returns-clause-ok : goal.returns-clause-ok
returns-clause-ok c = made_is c

pub returns-clause-len_before : goal.returns-clause-len_before
returns-clause-len_before c =
    let whole = ops c.args.self.now in
    let over = ops c.args.over.now in
    omega (
      arith,
      ap len_before (made_is c),
      normal_before (carried c.args.side whole over),
      carried_before c.args.side whole over (omega arith),
    )
