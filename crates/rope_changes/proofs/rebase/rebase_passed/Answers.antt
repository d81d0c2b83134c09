use Rattle.std.proofs.Common.{ap, arith}
use Rattle.rope_changes.specs.Left.{Left}
use Rattle.rope_changes.proofs.RebaseSteps.{both_keep, own_deletes, over_deletes, both_delete}
use Rattle.rope_changes.proofs.rebase.rebase_passed.Goals as goal

pub returns-then-own-gt0 : goal.returns-then-own-gt0
returns-then-own-gt0 c =
    both_keep c.args.side _ _ _ _ c.requires.meet c.min-count.result
    (omega arith) c.skip_kept.ensures c.skip_kept-then-own-gt0.ensures

pub returns-then-over-gt0 : goal.returns-then-over-gt0
returns-then-over-gt0 c =
    own_deletes c.args.side _ _ _ _ c.requires.meet c.min-count-then-over-gt0.result
    (omega (
      arith,
      ap (λ (x : Left). x.kept) c.own.view_is,
      ap (λ (x : Left). x.deleted)
          c.own.view_is,
    )) c.skip_deleted.ensures c.skip_kept-then-over-gt0.ensures

pub returns-then-own-gt0-2 : goal.returns-then-own-gt0-2
returns-then-own-gt0-2 c =
    over_deletes c.args.side _ _ _ _ c.requires.meet c.min-count-then-own-gt0-2.result
    (omega (
      arith,
      ap (λ (x : Left). x.kept) c.over.view_is,
      ap (λ (x : Left). x.deleted)
          c.over.view_is,
    )) c.skip_kept-then-own-gt0-2.ensures c.skip_deleted-then-own-gt0-2.ensures

pub returns : goal.returns
returns c =
    both_delete c.args.side _ _ _ _ c.requires.meet c.min-count-2.result (
    omega (
      arith,
      ap (λ (x : Left). x.kept) c.own-2.view_is,
      ap (λ (x : Left). x.deleted) c.own-2.view_is,
      ap (λ (x : Left). x.kept) c.over.view_is,
      ap (λ (x : Left). x.deleted) c.over.view_is,
    )
    ) c.skip_deleted-2.ensures c.skip_deleted-3.ensures
