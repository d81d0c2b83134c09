use Rattle.std.proofs.Common.{◌++◌, [], ap, sym, ◌∙◌, subst, arith, append-nil}
use Rattle.std.specs.Str.{chars}
use Rattle.rope_changes.specs.Ops.{len_before, len_after}
use Rattle.rope_changes.specs.Normal.{normal_form}
use Rattle.rope_changes.specs.Change.{ops}
use Rattle.rope_changes.specs.Runs.{run_ops, IsRun}
use Rattle.rope_changes.proofs.Prefixes.{keeping_before, keeping_after, inserting_after, deleting_before, deleting_after}
use Rattle.rope_changes.proofs.change_set.ChangeSet.push_run.Goals as goal

pub push_kept-requires-clause-before_fits : goal.push_kept-requires-clause-before_fits
push_kept-requires-clause-before_fits c =
    omega (arith, keeping_before c.in-Keep.count [], ap (λ r. len_before (run_ops r)) c.in-Keep.is)

pub push_kept-requires-clause-after_fits : goal.push_kept-requires-clause-after_fits
push_kept-requires-clause-after_fits c =
    omega (arith, keeping_after c.in-Keep.count [], ap (λ r. len_after (run_ops r)) c.in-Keep.is)

pub push-requires-clause-after_fits : goal.push-requires-clause-after_fits
push-requires-clause-after_fits c =
    let counted = subst IsRun c.in-Insert.is c.requires.some in
    omega (
      arith,
      counted.1,
      inserting_after (chars c.in-Insert.text.now) [],
      ap (λ r. len_after (run_ops r)) c.in-Insert.is,
    )

pub push_deleted-requires-clause-before_fits : goal.push_deleted-requires-clause-before_fits
push_deleted-requires-clause-before_fits c =
    omega (
      arith,
      deleting_before c.in-Delete.count [],
      ap (λ r. len_before (run_ops r)) c.in-Delete.is,
    )

pub push_deleted-requires-clause-after_fits : goal.push_deleted-requires-clause-after_fits
push_deleted-requires-clause-after_fits c =
    omega (
      arith,
      deleting_after c.in-Delete.count [],
      ap (λ r. len_after (run_ops r)) c.in-Delete.is,
    )

pub returns-in-Nothing-clause-ok : goal.returns-in-Nothing-clause-ok
returns-in-Nothing-clause-ok c =
    sym c.requires.normal ∙ ap normal_form (sym (append-nil (ops c.args.self.now)))
    ∙ ap (λ r. normal_form (ops c.args.self.now ++ run_ops r)) (sym c.in-Nothing.is)
