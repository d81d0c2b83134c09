use Rattle.std.proofs.Common.{[], ap, subst, arith}
use Rattle.std.specs.Str.{chars}
use Rattle.rope_changes.specs.Ops.{len_after}
use Rattle.rope_changes.specs.Runs.{run_ops, IsRun}
use Rattle.rope_changes.proofs.Prefixes.{keeping_after, inserting_after, deleting_after}
use Rattle.rope_changes.proofs.run.Run.len_after.Goals as goal

pub returns-in-Keep : goal.returns-in-Keep
returns-in-Keep c =
    omega (arith, keeping_after c.in-Keep.count [], ap (λ r. len_after (run_ops r)) c.in-Keep.is)

pub returns-in-Insert : goal.returns-in-Insert
returns-in-Insert c =
    let counted = subst IsRun c.in-Insert.is c.requires in
    omega (
      arith,
      counted.1,
      inserting_after (chars c.in-Insert.field-0.now) [],
      ap (λ r. len_after (run_ops r)) c.in-Insert.is,
    )

pub returns-in-Delete : goal.returns-in-Delete
returns-in-Delete c =
    omega (
      arith,
      deleting_after c.in-Delete.field-0 [],
      ap (λ r. len_after (run_ops r)) c.in-Delete.is,
    )
