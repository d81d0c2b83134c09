use Rattle.std.proofs.Common.{ap, arith}
use Rattle.std.proofs.lemmas.Result.{on_ok_weaker}
use Rattle.rope_changes.specs.Ops.{len_before, len_after}
use Rattle.rope_changes.specs.Left.{Left, left}
use Rattle.rope_changes.proofs.Prefixes.{keeping_before, keeping_after}
use Rattle.rope_changes.proofs.ComposeSteps.{both_keep, second_deletes}
use Rattle.rope_changes.proofs.compose.compose_kept.Goals as goal

pub push_kept-requires-clause-before_fits : goal.push_kept-requires-clause-before_fits
push_kept-requires-clause-before_fits c =
    omega (
      arith,
      ap len_before c.skip_kept.ensures,
      keeping_before c.min-count.result (left c.skip_kept.new.self),
    )

pub push_kept-requires-clause-after_fits : goal.push_kept-requires-clause-after_fits
push_kept-requires-clause-after_fits c =
    omega (
      arith,
      ap len_after c.skip_kept-then-second-gt0.ensures,
      keeping_after c.min-count.result (left c.skip_kept-then-second-gt0.new.self),
    )

pub returns-then-second-gt0-clause-ok : goal.returns-then-second-gt0-clause-ok
returns-then-second-gt0-clause-ok c =
    both_keep _ _ _ _ _ _ c.requires.meet c.min-count.result
    (omega (arith, ap (λ (x : Left). x.kept) c.first.view_is)) c.skip_kept.ensures
    c.skip_kept-then-second-gt0.ensures c.push_kept.ensures

pub push_deleted-requires-clause-some : goal.push_deleted-requires-clause-some
push_deleted-requires-clause-some c =
    omega (
      arith,
      ap (λ (x : Left). x.kept) c.first-2.view_is,
      ap (λ (x : Left). x.kept) c.second.view_is,
      ap (λ (x : Left). x.deleted) c.second.view_is,
    )

pub push_deleted-requires-clause-before_fits : goal.push_deleted-requires-clause-before_fits
push_deleted-requires-clause-before_fits c =
    omega (
      arith,
      ap len_before c.skip_kept-2.ensures,
      keeping_before c.min-count-2.result (left c.skip_kept-2.new.self),
    )

pub returns-clause-ok : goal.returns-clause-ok
returns-clause-ok c =
    on_ok_weaker _
    (λ is. second_deletes _ _ _ _ _ _ c.requires.meet c.min-count-2.result
    (omega (
      arith,
      ap (λ (x : Left). x.kept) c.first-2.view_is,
      ap (λ (x : Left). x.kept) c.second.view_is,
      ap (λ (x : Left). x.deleted) c.second.view_is,
    )) c.skip_kept-2.ensures c.skip_deleted.ensures is)
    c.push_deleted.ensures.ok
