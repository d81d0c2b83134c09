use Rattle.std.proofs.Common.{length, refl, ap, sym, ◌∙◌, arith}
use Rattle.std.specs.Str.{chars}
use Rattle.std.proofs.lemmas.Result.{on_ok_weaker}
use Rattle.rope_changes.specs.Ops.{len_before, len_after}
use Rattle.rope_changes.specs.Change.{inserting, deleting}
use Rattle.rope_changes.specs.Left.{Left, left}
use Rattle.rope_changes.proofs.Prefixes.{keeping_after, inserting_before, deleting_before}
use Rattle.rope_changes.proofs.ComposeSteps.{inserted_replaces, inserted_stays, inserted_goes}
use Rattle.rope_changes.proofs.compose.compose_inserted.Goals as goal

pub push-requires-clause-before_fits : goal.push-requires-clause-before_fits
push-requires-clause-before_fits c =
    let d = c.first.inside.deleted in
    let rest = left c.take_edit-text.new.self in
    omega (
      arith,
      ap len_before c.take_edit-text.ensures.passed,
      inserting_before c.args.first.now.text (deleting d rest),
      deleting_before d rest,
    )

pub push-requires-clause-after_fits : goal.push-requires-clause-after_fits
push-requires-clause-after_fits c =
    omega (
      arith,
      ap len_after c.skip_kept.ensures,
      keeping_after c.first.inside.inserted (left c.skip_kept.new.self),
    )

pub returns-then-first-second-clause-ok : goal.returns-then-first-second-clause-ok
returns-then-first-second-clause-ok c =
    let d = c.first.inside.deleted in
    let rest = left c.take_edit-text.new.self in
    let text = c.take_edit-text.ensures.text in
    on_ok_weaker _
    (λ is. inserted_replaces _ _ _ _ _ _ c.requires.meet c.first.inside.inserted
    (omega (arith, ap (λ (x : Left). length x.text) c.first.view_is))
    (chars c.take_edit-text.result.now) d
    (omega (arith, ap length text, ap (λ (x : Left). length x.text) c.first.view_is))
    (c.take_edit-text.ensures.passed ∙ ap (λ t. inserting t (deleting d rest)) (sym text))
    c.skip_kept.ensures is)
    c.push.ensures.ok

pub push-requires-then-second-gt0-clause-after_fits
    : goal.push-requires-then-second-gt0-clause-after_fits
push-requires-then-second-gt0-clause-after_fits c =
    omega (
      arith,
      ap len_after c.skip_kept-then-second-gt0.ensures,
      keeping_after c.second.inside.kept (left c.skip_kept-then-second-gt0.new.self),
    )

pub returns-then-second-gt0-clause-ok : goal.returns-then-second-gt0-clause-ok
returns-then-second-gt0-clause-ok c =
    on_ok_weaker _
    (λ is. inserted_stays _ _ _ _ _ _ c.requires.meet c.second.inside.kept
    (omega (arith, ap (λ (x : Left). length x.text) c.first.view_is))
    (chars c.cut_text-text.result.now) c.cut_text-text.ensures.text c.cut_text-text.ensures.passed
    c.skip_kept-then-second-gt0.ensures is)
    c.push-then-second-gt0.ensures.ok

pub returns-clause-ok : goal.returns-clause-ok
returns-clause-ok c =
    inserted_goes _ _ _ _ _ _ c.requires.meet c.min-count.result
    (omega (
      arith,
      ap (λ (x : Left). length x.text) c.first.view_is,
      ap (λ (x : Left). x.kept) c.second.view_is,
      ap (λ (x : Left). x.deleted) c.second.view_is,
    ))
    (chars c.cut_text.result.now) c.cut_text.ensures.text c.cut_text.ensures.passed
    c.skip_deleted.ensures refl
