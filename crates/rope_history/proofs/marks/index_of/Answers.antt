use Rattle.std.proofs.Common.{sym, arith, inl, inr, rules}
use Rattle.std.proofs.lemmas.Bool.{cases_lt}
use Rattle.std.proofs.lemmas.Cmp.{ranked}
use Rattle.std.proofs.lemmas.List.Sorted.{answers_always}
use Rattle.rope_history.specs.Marking.{id_of}
use Rattle.rope_history.proofs.OrderLaws.{searchable}
use Rattle.rope_history.proofs.marks.index_of.Goals as goal

pub returns-in-Ok-clause-found : goal.returns-in-Ok-clause-found
returns-in-Ok-clause-found c = λ d lt.
    let found = c.in-Ok.ensures.position id_of
    (answers_always _ _ _ (λ f a r g called. search rules)) in
    ranked _ c.args.id _ (sym (found d))

pub returns-in-Err-clause-none : goal.returns-in-Err-clause-none
returns-in-Err-clause-none c = λ _ k d lt same.
    let id = c.args.id in
    let gap = c.in-Err.field-0 in
    let split = c.in-Err.ensures.position id_of
    (answers_always _ _ _ (λ f a r g called. search rules))
    (searchable c.args.marks.now id c.requires.in_order) in
    elim (cases_lt k gap) [
      | inl less ↦ omega (arith, same, ranked _ id _ (sym (split.0 k d (omega arith) less)))
      | inr more ↦ omega (arith, same, ranked _ id _ (sym (split.1 k d more lt)))
    ]
