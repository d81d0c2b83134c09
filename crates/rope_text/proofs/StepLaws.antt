-- The laws of cursors, of any items and any view.
use Rattle.std.proofs.Common.{◌≡◌, Option, Some, None, MatchOption, refl, ap}
use Rattle.std.specs.Option.{option_map}
use Rattle.rope_text.specs.Laws.{StepsUndo, StepsAreCursors, StartsCount}
use Rattle.rope_text.specs.Sides.{Sides}
use Rattle.rope_text.proofs.CursorLaws.{prev-next, size_left-next, next_none}
use Rattle.rope_text.proofs.SidesLaws.{item_ahead, cursor_ahead, item_back, cursor_back, cursor_of-turned, back_from_next, length_ahead, length_ahead_at, length_passed_at}

pub steps_undone : (X : Type 0) → StepsUndo X
steps_undone X s l = (
  λ x e. let back = prev-next s x e in
      (back.0, back.1, size_left-next s x e),
  λ e. next_none s l e,
)

again : {A X : Type 0} (view : A → X) (s u : Sides X) (x : A) (r : Option A)
    → MatchOption r ⊥ (λ y. (view y ≡ view x) × (u ≡ s)) → (option_map view r ≡ Some (view x))
    × (u ≡ s)
again view s u x None h = absurd h
again view s u x (Some y) h = (ap (λ z. Some z) h.0, h.1)

pub steps_of_cursors : {A X : Type 0} (view : A → X) → StepsAreCursors view
steps_of_cursors view s t r = (
  (λ h. (item_ahead view s t r h, cursor_ahead view s t r h)),
  (λ h. (item_back view s t r h, cursor_back view s t r h)),
  cursor_of-turned s,
  (λ u x k h. again view s u x r (back_from_next view s t u x r k h)),
)

pub starts_counted : (X : Type 0) → StartsCount X
starts_counted X = (
  length_ahead,
  λ items. refl,
  λ items p l.
      (length_ahead_at items p, length_passed_at items p l),
)
