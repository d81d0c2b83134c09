-- The first half is applied, and then the second one.
use Rattle.std.proofs.Common.{◌≡◌, ◌⊎◌, ◌++◌, ◌≤◌, inl, inr, length, refl, ap, ◌∙◌, arith, rules}
use Rattle.std.specs.Prelude.{Some, None, map}
use Rattle.std.proofs.lemmas.List.{length-map}
use Rattle.rope_changes.specs.Change.{ops}
use Rattle.rope_changes.specs.Normal.{composed}
use Rattle.rope_documents.specs.declared.error.DocumentError.TheVariants.{OutOfMemory}
use Rattle.rope_documents.specs.Received.{text_change, all_composed, first_error}
use Rattle.rope_documents.proofs.Batches.{split_list, error_first, error_later, text_later, change_later}
use Rattle.rope_documents.proofs.apply.+apply_all.Goals as goal

pub returns-in_err-first-clause-error : goal.returns-in_err-first-clause-error
returns-in_err-first-clause-error t c =
    let all = map text_change c.args.changes.now in
    let front = map text_change c.split_at.result.0.now in
    let back = map text_change c.split_at.result.1.now in
    let split : all ≡ front ++ back =
    split_list _ _ _ _ c.split_at.ensures.front c.split_at.ensures.back in
    let error = c.in_err-first.field-0.0 in
    let is : (error ≡ OutOfMemory) ⊎ (first_error c.args.encoding c.args.rope.now.breaks
    c.args.rope.now.text all ≡ Some error) = elim c.in_err-first.ensures.error [
      | inl memory ↦ inl memory
      | inr wrong ↦ inr (error_first c.args.encoding c.args.rope.now.breaks c.args.rope.now.breaks
          c.args.rope.now.text c.args.rope.now.text all front back split refl error wrong)
    ] in
    search rules

pub returns-in_err-later-clause-error : goal.returns-in_err-later-clause-error
returns-in_err-later-clause-error t c =
    let all = map text_change c.args.changes.now in
    let front = map text_change c.split_at.result.0.now in
    let back = map text_change c.split_at.result.1.now in
    let split : all ≡ front ++ back =
    split_list _ _ _ _ c.split_at.ensures.front c.split_at.ensures.back in
    let error = c.in_err-later.field-0.0 in
    let is : (error ≡ OutOfMemory) ⊎ (first_error c.args.encoding c.args.rope.now.breaks
    c.args.rope.now.text all ≡ Some error) = elim c.in_err-later.ensures.error [
      | inl memory ↦ inl memory
      | inr wrong ↦ inr (error_later c.args.encoding c.args.rope.now.breaks
          c.apply_all.new.rope.breaks c.args.rope.now.text c.apply_all.new.rope.text all front back
          split c.apply_all.ensures.breaks c.in_ok-first.ensures.text (Some error)
          c.in_ok-first.ensures.valid wrong)
    ] in
    search rules

pub returns-in-Ok-clause-valid : goal.returns-in-Ok-clause-valid
returns-in-Ok-clause-valid t c =
    error_later c.args.encoding c.args.rope.now.breaks c.apply_all.new.rope.breaks
    c.args.rope.now.text c.apply_all.new.rope.text _ _ _
    (split_list _ _ _ _ c.split_at.ensures.front c.split_at.ensures.back)
    c.apply_all.ensures.breaks c.in_ok-first.ensures.text None c.in_ok-first.ensures.valid
    c.in_ok-later.ensures.valid

pub returns-in-Ok-clause-text : goal.returns-in-Ok-clause-text
returns-in-Ok-clause-text t c =
    let front = map text_change c.split_at.result.0.now in
    let back = map text_change c.split_at.result.1.now in
    c.in_ok-later.ensures.text
    ∙ text_later c.args.encoding c.args.rope.now.breaks c.apply_all.new.rope.breaks
    c.args.rope.now.text c.apply_all.new.rope.text _ front back
    (split_list _ _ _ _ c.split_at.ensures.front c.split_at.ensures.back)
    c.apply_all.ensures.breaks c.in_ok-first.ensures.text

pub returns-in-Ok-clause-change : goal.returns-in-Ok-clause-change
returns-in-Ok-clause-change t c =
    let front = c.split_at.result.0.now in
    let back = c.split_at.result.1.now in
    let some : 1 ≤ length (map text_change front) =
    omega (arith, length-map front text_change, c.split_at.ensures.front_len) in
    let more : 1 ≤ length (map text_change back) =
    omega (arith, length-map back text_change, c.split_at.ensures.back_len) in
    c.in-Ok.ensures.ok
    ∙ ap (λ o. composed o (ops c.in_ok-later.later)) c.in_ok-first.ensures.change
    ∙ ap (composed (all_composed c.args.encoding c.args.rope.now.breaks c.args.rope.now.text
    (map text_change front))) c.in_ok-later.ensures.change
    ∙ change_later c.args.encoding c.args.rope.now.breaks c.apply_all.new.rope.breaks
    c.args.rope.now.text c.apply_all.new.rope.text _ _ _
    (split_list _ _ _ _ c.split_at.ensures.front c.split_at.ensures.back)
    c.apply_all.ensures.breaks c.in_ok-first.ensures.text some more
