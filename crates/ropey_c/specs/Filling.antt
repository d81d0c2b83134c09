-- Arrays that C gives, filled by iterators.
use Rattle.std.specs.Prelude.{◌≡◌, ℕ, ◌<◌, ◌≤◌, List, [], ◌∷◌, length, take, drop, Option, None}
use Rattle.std.specs.Iterator.{Yields}

-- each item of a list gives the item at its index of another list
abbrev pub EachGives : {A B : Type 0} → (A → B → Type 0) → List A → List B → Type 0
EachGives gives [] [] = Unit {0}
EachGives gives [] (y ∷ ys) = ⊥
EachGives gives (x ∷ xs) [] = ⊥
EachGives gives (x ∷ xs) (y ∷ ys) = gives x y × EachGives gives xs ys

-- an iterator was asked for items as far as there is room, they were written to the front, each as
-- `gives` says, and the rest stayed
pub record FillsBy {S A B : Type 0} (steps : S → Option A → S → Type 0) (gives : A → B → Type 0)
    (s : S) (old new : List B) (count : ℕ) : Type 0 where
  pub items : List A
  pub after : S
  pub given : Yields steps s items after
  pub count_is : count ≡ length items
  pub written : EachGives gives items (take count new)
  pub kept : drop count new ≡ drop count old
  pub within : count ≤ length old
  pub ended : count < length old → (u : S) × steps after None u
