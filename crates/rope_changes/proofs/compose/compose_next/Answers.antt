use Rattle.std.proofs.Common.{◌≡◌, ◌++◌, [], length, refl, ap, ◌∙◌, arith}
use Rattle.std.proofs.lemmas.Result.{on_ok_weaker}
use Rattle.rope_changes.specs.Ops.{len_before, len_after}
use Rattle.rope_changes.specs.Normal.{normal_form}
use Rattle.rope_changes.specs.Change.{ops, inserting, deleting}
use Rattle.rope_changes.specs.Left.{Left, left}
use Rattle.rope_changes.proofs.Prefixes.{keeping_before, deleting_before, deleting_after, inserting_after}
use Rattle.rope_changes.proofs.ComposeSteps.{first_deletes, second_replaces, runs_meet}
use Rattle.rope_changes.proofs.compose.compose_next.Goals.{else-first-eq0-via-then-first-eq0+then-first-eq0-2+else-first-gt0, else-first-eq0-via-then-first-eq0+else-first-eq0-2, else-first-eq0-via-else-first-eq0, else-second-eq0-via-then-second-eq0+else-second-gt0, else-second-eq0-via-else-second-eq0}
use Rattle.rope_changes.proofs.compose.compose_next.Goals as goal

pub push_deleted-requires-clause-before_fits : goal.push_deleted-requires-clause-before_fits
push_deleted-requires-clause-before_fits c =
    omega (
      arith,
      ap len_before c.skip_deleted.ensures,
      deleting_before c.first.inside.deleted (left c.skip_deleted.new.self),
    )

pub returns-then-first-gt0-clause-ok : goal.returns-then-first-gt0-clause-ok
returns-then-first-gt0-clause-ok c =
    on_ok_weaker _
    (λ is. first_deletes _ _ _ _ _ _ c.requires.meet c.first.inside.deleted
    (omega arith) c.skip_deleted.ensures refl is)
    c.push_deleted.ensures.ok

pub push-requires-clause-before_fits : goal.push-requires-clause-before_fits
push-requires-clause-before_fits c =
    omega (
      arith,
      ap len_before c.skip_kept.ensures,
      keeping_before c.min-count.result (left c.skip_kept.new.self),
    )

pub push-requires-clause-after_fits : goal.push-requires-clause-after_fits
push-requires-clause-after_fits c =
    let rest = left c.take_edit-text.new.self in
    omega (
      arith,
      ap (λ (x : Left). length x.text) c.second.view_is,
      ap len_after c.take_edit-text.ensures.passed,
      inserting_after c.args.second.now.text (deleting c.min-count.result rest),
      deleting_after c.min-count.result rest,
    )

pub returns-then-second-gt0-clause-ok : goal.returns-then-second-gt0-clause-ok
returns-then-second-gt0-clause-ok c =
    let none : c.args.first.now.kept ≡ 0 → length c.args.first.now.text ≡ 0
    → c.args.first.now.deleted ≡ 0 = elim c.else-first-eq0.branch [
      | else-first-eq0-via-then-first-eq0+then-first-eq0-2+else-first-gt0 w ↦ λ kept text. omega
          (arith, ap (λ (x : Left). x.deleted) c.first.view_is)
      | else-first-eq0-via-then-first-eq0+else-first-eq0-2 w ↦ λ kept text. absurd
          (omega (arith, ap (λ (x : Left). length x.text) c.first.view_is))
      | else-first-eq0-via-else-first-eq0 w ↦ λ kept text. absurd
          (omega (arith, ap (λ (x : Left). x.kept) c.first.view_is))
    ] in
    let n = c.min-count.result in
    on_ok_weaker _
    (λ is. second_replaces
    (ops c.args.made.now) _ c.args.first.now _ _ _ c.args.second.now.text n c.requires.meet
    (omega (arith, ap (λ (x : Left). length x.text) c.second.view_is)) c.requires.first_loaded none
    c.skip_kept.ensures c.take_edit-text.ensures.passed
    (is ∙ ap (λ t. normal_form (ops c.args.made.now ++ inserting t (deleting n [])))
    c.take_edit-text.ensures.text))
    c.push.ensures.ok

pub compose_inserted-requires-clause-inserts : goal.compose_inserted-requires-clause-inserts
compose_inserted-requires-clause-inserts c =
    let none : c.args.first.now.kept ≡ 0 → length c.args.first.now.text ≡ 0
    → c.args.first.now.deleted ≡ 0 = elim c.else-first-eq0.branch [
      | else-first-eq0-via-then-first-eq0+then-first-eq0-2+else-first-gt0 w ↦ λ kept text. omega
          (arith, ap (λ (x : Left). x.deleted) c.first.view_is)
      | else-first-eq0-via-then-first-eq0+else-first-eq0-2 w ↦ λ kept text. absurd
          (omega (arith, ap (λ (x : Left). length x.text) c.first.view_is))
      | else-first-eq0-via-else-first-eq0 w ↦ λ kept text. absurd
          (omega (arith, ap (λ (x : Left). x.kept) c.first.view_is))
    ] in
    let inserts_none : c.args.second.now.kept ≡ 0
    → length c.args.second.now.text ≡ 0 = elim c.else-second-eq0.branch [
      | else-second-eq0-via-then-second-eq0+else-second-gt0 w ↦ λ kept. omega
          (arith, ap (λ (x : Left). length x.text) c.second.view_is)
      | else-second-eq0-via-else-second-eq0 w ↦ λ kept. absurd
          (omega (arith, ap (λ (x : Left). x.kept) c.second.view_is))
    ] in
    omega (
      arith,
      ap (λ (x : Left). x.kept) c.first.view_is,
      (runs_meet c.args.first.now c.args.second.now c.requires.first_loaded
          c.requires.second_loaded c.requires.some c.requires.meet none inserts_none).0,
    )

pub compose_inserted-requires-clause-passes : goal.compose_inserted-requires-clause-passes
compose_inserted-requires-clause-passes c =
    let none : c.args.first.now.kept ≡ 0 → length c.args.first.now.text ≡ 0
    → c.args.first.now.deleted ≡ 0 = elim c.else-first-eq0.branch [
      | else-first-eq0-via-then-first-eq0+then-first-eq0-2+else-first-gt0 w ↦ λ kept text. omega
          (arith, ap (λ (x : Left). x.deleted) c.first.view_is)
      | else-first-eq0-via-then-first-eq0+else-first-eq0-2 w ↦ λ kept text. absurd
          (omega (arith, ap (λ (x : Left). length x.text) c.first.view_is))
      | else-first-eq0-via-else-first-eq0 w ↦ λ kept text. absurd
          (omega (arith, ap (λ (x : Left). x.kept) c.first.view_is))
    ] in
    let inserts_none : c.args.second.now.kept ≡ 0
    → length c.args.second.now.text ≡ 0 = elim c.else-second-eq0.branch [
      | else-second-eq0-via-then-second-eq0+else-second-gt0 w ↦ λ kept. omega
          (arith, ap (λ (x : Left). length x.text) c.second.view_is)
      | else-second-eq0-via-else-second-eq0 w ↦ λ kept. absurd
          (omega (arith, ap (λ (x : Left). x.kept) c.second.view_is))
    ] in
    (runs_meet c.args.first.now c.args.second.now c.requires.first_loaded c.requires.second_loaded
    c.requires.some c.requires.meet none inserts_none).1
