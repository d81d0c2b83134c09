-- The next edit of a list that a change is built from.
use Rattle.std.proofs.Common.{◌≡◌, ℕ, ◌+◌, ◌<◌, List, length, get_or, drop, ap, sym, subst, ◌∙◌, inl, inr}
use Rattle.std.specs.Prelude.{None}
use Rattle.std.specs.Str.{chars}
use Rattle.std.proofs.lemmas.List.{drop_more}
use Rattle.rope_changes.specs.Change.{Change, replaced}
use Rattle.rope_changes.specs.Built.{built, replace_error, or_next, first_error, IsRefusal, RefusesOne}
use Rattle.rope_changes.specs.declared.error.ChangeError.{ChangeError}
use Rattle.rope_changes.specs.declared.edit.Edit.{Edit}

module _ (c : Change) (edits : List Edit) (k : ℕ) (d : Edit) (below : k < length edits) where
  abbrev next : Edit
  next = get_or edits k d

  abbrev made : Change
  made = replaced c next.start next.end (chars next.text.now)

  module _ (new : Change) (is : new ≡ made) where
    pub built_next : built c (drop k edits) ≡ built new (drop (k + 1) edits)
    built_next = ap (built c) (drop_more edits k d below)
        ∙ ap (λ (x : Change). built x (drop (k + 1) edits)) (sym is)

    pub error_next : replace_error c next.start next.end (chars next.text.now) ≡ None
        → first_error c (drop k edits) ≡ first_error new (drop (k + 1) edits)
    error_next none =
        ap (first_error c) (drop_more edits k d below)
        ∙ ap (λ o. or_next o (first_error made (drop (k + 1) edits))) none
        ∙ ap (λ (x : Change). first_error x (drop (k + 1) edits)) (sym is)

    pub refuse_next : replace_error c next.start next.end (chars next.text.now) ≡ None
        → (e : ChangeError) → RefusesOne new (drop (k + 1) edits) e → RefusesOne c (drop k edits) e
    refuse_next none e refused =
        let rest = subst (λ (x : Change). RefusesOne x (drop (k + 1) edits) e) is refused in
        rw (drop_more edits k d below) (inr (none, rest))

  pub refuse_here : (e : ChangeError)
      → IsRefusal (replace_error c next.start next.end (chars next.text.now)) e
      → RefusesOne c (drop k edits) e
  refuse_here e refused = rw (drop_more edits k d below) (inl refused)
