-- A cursor is given by its list, its index and its direction.
use Rattle.std.proofs.Common.{◌≡◌, ℕ, Bool, false, List, ◌++◌, length, take, drop, ap, sym, ◌∙◌}
use Rattle.std.proofs.lemmas.List.{take_at, drop_at}
use Rattle.rope_text.specs.Sides.{Sides, all_items, place, at_place}

module _ {X : Type 0} where
  left_at : (left right items : List X) (p : ℕ) → left ++ right ≡ items → length left ≡ p
      → left ≡ take p items
  left_at left right items p whole at = sym (ap (take p) (sym whole) ∙ take_at left right p at)

  right_at : (left right items : List X) (p : ℕ) → left ++ right ≡ items → length left ≡ p
      → right ≡ drop p items
  right_at left right items p whole at = sym (ap (drop p) (sym whole) ∙ drop_at left right p at)

  of_sides : (l r items : List X) (b : Bool) (p : ℕ) → l ≡ take p items → r ≡ drop p items
      → b ≡ false → record { left = l; right = r; is_backward = b } ≡ at_place items p
  of_sides l r items b p left right forward = cc

  pub sides_at : (s : Sides X) (items : List X) (p : ℕ) → all_items s ≡ items → place s ≡ p
      → s.is_backward ≡ false → s ≡ at_place items p
  sides_at s items p whole at forward =
      of_sides s.left s.right items s.is_backward p (left_at s.left s.right items p whole at)
      (right_at s.left s.right items p whole at) forward
