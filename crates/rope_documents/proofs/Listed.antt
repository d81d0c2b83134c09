-- A list that is made from the first replacement on, and turned round at the end.
use Rattle.std.proofs.Common.{◌≡◌, ℕ, ◌+◌, ◌-◌, List, [], ◌∷◌, ◌++◌, refl, ap, ap₂, sym, ◌∙◌, arith, append_assoc}
use Rattle.std.specs.Prelude.{map, reverse}
use Rattle.std.specs.Str.{chars}
use Rattle.std.proofs.lemmas.List.{map-append, reverse-append}
use Rattle.rope_changes.specs.declared.change_set.EditRange.{EditRange}
use Rattle.rope_changes.specs.Ops.{len_before}
use Rattle.rope_changes.specs.Change.{ops_of}
use Rattle.rope_changes.specs.Listed.{Remaining, IsNext}
use Rattle.rope_changes.proofs.Steps.{step_before}
use Rattle.rope_documents.specs.declared.content_change.ContentChange.{ContentChange}
use Rattle.rope_documents.specs.Sent.{from_last}

pub map_reverse : {A B : Type 0} (f : A → B) (xs : List A) → map f (reverse xs) ≡ reverse (map f xs)
map_reverse f [] = refl
map_reverse f (x ∷ xs) =
    ap (map f) (reverse-append (x ∷ []) xs) ∙ map-append f (reverse xs) (x ∷ [])
    ∙ ap (λ u. u ++ f x ∷ []) (map_reverse f xs) ∙ sym (reverse-append (f x ∷ []) (map f xs))

module _ (old new : Remaining) (e : EditRange) (next : IsNext old e new) where
  pub next_made : {A : Type 0} (make : ℕ → ℕ → List ℕ → A) → from_last make old.end old.edits
      ≡ from_last make new.end new.edits ++ make e.start e.end (chars e.text.now) ∷ []
  next_made make =
      let from : old.end + (e.start - old.end) ≡ e.start = omega (arith, next.starts) in
      let to : old.end + (e.start - old.end) + (e.end - e.start) ≡ e.end =
      omega (arith, next.starts, next.ordered) in
      ap (from_last make old.end) next.edits
      ∙ ap₂ (λ i j. from_last make j new.edits ++ make i j (chars e.text.now) ∷ []) from to
      ∙ ap (λ k. from_last make k new.edits ++ make e.start e.end (chars e.text.now) ∷ [])
      (sym next.end_is)

  pub next_within : (rest len : ℕ) → old.end + len_before (ops_of old.edits rest) ≡ len
      → new.end + len_before (ops_of new.edits rest) ≡ len
  next_within rest len fits =
      omega (
        arith,
        fits,
        next.starts,
        next.ordered,
        next.end_is,
        ap (λ es. len_before (ops_of es rest)) next.edits,
        step_before (e.start - old.end) (chars e.text.now) (e.end - e.start)
            (ops_of new.edits rest),
      )

pub list_next : {A : Type 0} (shows : ContentChange → A) (before after : List A) (one : A)
    (items new : List ContentChange) (x : ContentChange) → shows x ≡ one
    → before ≡ after ++ one ∷ [] → new ≡ items ++ x ∷ []
    → after ++ reverse (map shows new) ≡ before ++ reverse (map shows items)
list_next shows before after one items new x is more pushed =
    let others = reverse (map shows items) in
    ap (λ v. after ++ reverse (map shows v)) pushed
    ∙ ap (λ v. after ++ reverse v) (map-append shows items (x ∷ []))
    ∙ ap (λ v. after ++ v) (reverse-append (map shows items) (shows x ∷ []))
    ∙ ap (λ c. after ++ (c ∷ others)) is
    ∙ sym (append_assoc after (one ∷ []) others) ∙ ap (λ v. v ++ others) (sym more)
