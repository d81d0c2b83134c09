-- A cursor, seen as the items on its two sides: the form in which steps of code are stated.
use Rattle.std.specs.Prelude.{◌≡◌, ◌<◌, ℕ, ⊤, OnSome, IfSome, IfNone, Bool, false, not, List, [], ◌∷◌, ◌++◌, length, take, drop, reverse, Option, MatchOption, if◌then◌else◌}
use Rattle.std.specs.Bool.{MatchBool}
use Rattle.std.specs.Iterator.{IsFinite, size, item_count}
use Rattle.rope_text.specs.Cursor.{Cursor}

pub record Sides (X : Type 0) : Type 0 where
  pub left : List X
  pub right : List X
  pub is_backward : Bool

-- before all items, facing forward
abbrev pub at_start : {X : Type 0} → List X → Sides X
at_start items = record { left = []; right = items; is_backward = false }

-- before the item at an index, or past the last one at the end, facing forward
abbrev pub at_place : {X : Type 0} → List X → ℕ → Sides X
at_place items p = record { left = take p items; right = drop p items; is_backward = false }

-- the list, and the index in it
abbrev pub all_items : {X : Type 0} → Sides X → List X
all_items c = c.left ++ c.right

abbrev pub place : {X : Type 0} → Sides X → ℕ
place c = length c.left

-- the items that `next` still gives, and those that `prev` still gives
abbrev pub ahead : {X : Type 0} → Sides X → List X
ahead c = if c.is_backward then reverse c.left else c.right

abbrev pub passed : {X : Type 0} → Sides X → List X
passed c = if c.is_backward then c.right else reverse c.left

-- the cursor with its direction reversed
abbrev pub turned : {X : Type 0} → Sides X → Sides X
turned c = record { left = c.left; right = c.right; is_backward = not c.is_backward }

-- the cursor in the list of all items
abbrev pub cursor_of : {X : Type 0} → Sides X → Cursor X
cursor_of c = record { items = all_items c; place = place c; forward = not c.is_backward }

-- a step to the right or to the left, with the item that it passes; or none at the end, without a
-- move
module _ {A X : Type 0} (view : A → X) where
  abbrev pub GoesRight : Sides X → Option A → Sides X → Type 0
  GoesRight s r t =
      MatchOption r ((s.right ≡ []) × (t ≡ s)) (λ x. (s.right ≡ view x ∷ t.right)
      × (t.left ≡ s.left ++ view x ∷ []) × (t.is_backward ≡ s.is_backward))

  abbrev pub GoesLeft : Sides X → Option A → Sides X → Type 0
  GoesLeft s r t =
      MatchOption r ((s.left ≡ []) × (t ≡ s)) (λ x. (s.left ≡ t.left ++ view x ∷ [])
      × (t.right ≡ view x ∷ s.right) × (t.is_backward ≡ s.is_backward))

  -- `next` and `prev`
  abbrev pub StepsAhead : Sides X → Option A → Sides X → Type 0
  StepsAhead s r t = MatchBool s.is_backward (GoesLeft s r t) (GoesRight s r t)

  abbrev pub StepsBack : Sides X → Option A → Sides X → Type 0
  StepsBack s r t = MatchBool s.is_backward (GoesRight s r t) (GoesLeft s r t)

  -- the effect of a call of `next`: it stepped ahead, and if it gave an item, fewer are left. The
  -- first three fields are those of `MakesProgress`, stated so that a `for` over the cursor is
  -- proved to end from any start
  pub record GoesAhead (s : Sides X) (r : Option A) (t : Sides X) : Type 0 where
    pub on : IsFinite (item_count ahead s)
        → OnSome r (⊤ × IsFinite (item_count ahead t)
        × (size (item_count ahead t) < size (item_count ahead s)))
    pub keeps : IfSome r (λ _. ⊤)
    pub rests : IsFinite (item_count ahead s) → IfNone r (IsFinite (item_count ahead t))
    pub moves : StepsAhead s r t
