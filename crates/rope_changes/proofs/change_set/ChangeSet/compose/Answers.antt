use Rattle.std.proofs.Common.{◌≡◌, ap, ◌∙◌, arith}
use Rattle.rope_changes.specs.Ops.{run, len_before, len_after}
use Rattle.rope_changes.specs.Combined.{compose}
use Rattle.rope_changes.specs.Normal.{composed}
use Rattle.rope_changes.specs.Change.{ops}
use Rattle.rope_changes.specs.Left.{left}
use Rattle.rope_changes.proofs.NormalLaws.{normal_runs, normal_before, normal_after}
use Rattle.rope_changes.proofs.ComposeRuns.{compose_before, compose_after}
use Rattle.rope_changes.proofs.ChangeLaws.{compose_runs}
use Rattle.rope_changes.proofs.ComposeSteps.{before_kept, after_kept, composition_made}
use Rattle.rope_changes.proofs.change_set.ChangeSet.compose.Goals as goal

pub compose_next-requires-clause-before_fits : goal.compose_next-requires-clause-before_fits
compose_next-requires-clause-before_fits c =
    let l = c.loop-first in
    omega (
      arith,
      before_kept (ops l.made) (left l.first) (left l.second) (ops c.args.self.now)
          (ops c.args.later.now) l.invariant.composed l.invariant.meet (omega arith),
      ap len_before c.load_both.ensures.first,
    )

pub compose_next-requires-clause-after_fits : goal.compose_next-requires-clause-after_fits
compose_next-requires-clause-after_fits c =
    let l = c.loop-first in
    omega (
      arith,
      after_kept (ops l.made) (left l.first) (left l.second) (ops c.args.self.now)
          (ops c.args.later.now) l.invariant.composed l.invariant.meet (omega arith),
      ap len_after c.load_both.ensures.second,
    )

made_is : (c : goal.After-loop-first)
    → ops c.loop-first.made ≡ composed (ops c.args.self.now) (ops c.args.later.now)
made_is c =
    let l = c.loop-first in
    composition_made (ops l.made) (left l.first) (left l.second) (left c.load_both.new.first)
    (left c.load_both.new.second) (ops c.args.self.now)
    (ops c.args.later.now) l.invariant.normal l.invariant.composed
    c.load_both.ensures.first c.load_both.ensures.second
    (λ some. absurd (cc (c.load_both.ensures.some.1 some, c.loop-first-test.false)))

pub returns-clause-ok : goal.returns-clause-ok
returns-clause-ok c = made_is c

pub returns-clause-applies : goal.returns-clause-applies
returns-clause-applies c = λ text fits.
    let whole = ops c.args.self.now in
    let later = ops c.args.later.now in
    ap (λ x. run x text) (made_is c) ∙ normal_runs (compose whole later) text
    ∙ compose_runs whole later text (omega arith)

pub returns-clause-len_before : goal.returns-clause-len_before
returns-clause-len_before c =
    let whole = ops c.args.self.now in
    let later = ops c.args.later.now in
    omega (
      arith,
      ap len_before (made_is c),
      normal_before (compose whole later),
      compose_before whole later (omega arith),
    )

pub returns-clause-len_after : goal.returns-clause-len_after
returns-clause-len_after c =
    let whole = ops c.args.self.now in
    let later = ops c.args.later.now in
    omega (
      arith,
      ap len_after (made_is c),
      normal_after (compose whole later),
      compose_after whole later (omega arith),
    )
