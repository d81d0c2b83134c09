-- The steps of code are those of a cursor in a list, and a step and the step back undo one another.
use Rattle.std.proofs.Common.{◌≡◌, ℕ, suc, ◌-◌, ◌<◌, ◌≤◌, Bool, true, false, not, List, [], ◌∷◌, ◌++◌, length, take, slice_get, Option, Some, None, MatchOption, refl, ap, sym, ◌∙◌, arith, append_assoc, length-append, subst}
use Rattle.std.specs.Bool.{MatchBool}
use Rattle.std.specs.Option.{option_map}
use Rattle.std.proofs.lemmas.Bool.{lt-ltb, le-ltb}
use Rattle.std.proofs.lemmas.List.{same_from_push, length-reverse, length-drop, length-take-le}
use Rattle.std.proofs.lemmas.Option.{slice_get_past}
use Rattle.std.proofs.Math.Bool.{not-not}
use Rattle.rope_text.specs.Cursor.{Cursor, item_after, item_before, place_after, place_before, next_item, after_next, prev_item, after_prev, reversed, size_left}
use Rattle.rope_text.specs.Sides.{Sides, all_items, place, at_place, ahead, passed, turned, cursor_of, GoesRight, GoesLeft, GoesAhead, StepsAhead, StepsBack}

cursor_ext : {X : Type 0} (c d : Cursor X) → c.items ≡ d.items → c.place ≡ d.place
    → c.forward ≡ d.forward → c ≡ d
cursor_ext c d a b e = rw (a, b, e) refl

pub sides_ext : {X : Type 0} (s t : Sides X) → s.left ≡ t.left → s.right ≡ t.right
    → s.is_backward ≡ t.is_backward → s ≡ t
sides_ext s t a b e = rw (a, b, e) refl

item_at : {X : Type 0} (left : List X) (x : X) (right : List X)
    → slice_get (left ++ x ∷ right) (length left) ≡ Some x
item_at [] x right = refl
item_at (y ∷ left) x right = item_at left x right

no_item : {X : Type 0} (left : List X) → slice_get (left ++ []) (length left) ≡ None
no_item left = slice_get_past (left ++ []) (length left) (omega (arith, length-append left []))

-- a cursor turned round
pub cursor_of-turned : {X : Type 0} (s : Sides X) → cursor_of (turned s) ≡ reversed (cursor_of s)
cursor_of-turned s = refl

module _ {A X : Type 0} (view : A → X) where
  -- a step that gives an item leaves one less
  one_less : (b : Bool) (s t : Sides X) (x : A) → s.is_backward ≡ b → StepsAhead view s (Some x) t
      → length (ahead t) < length (ahead s)
  one_less true s t x e steps =
      let g = rw e at steps in
      rw (e, g.2) (omega (
        arith,
        length-reverse t.left,
        length-reverse s.left,
        ap length g.0,
        length-append t.left (view x ∷ []),
      ))
  one_less false s t x e steps =
      let g = rw e at steps in
      rw (e, g.2) (omega (arith, ap length g.0))

  pub goes_ahead : (s t : Sides X) (x : A) → StepsAhead view s (Some x) t
      → GoesAhead view s (Some x) t
  goes_ahead s t x steps = record {
    on = λ _. (tt, tt, one_less s.is_backward s t x refl steps);
    keeps = tt;
    rests = λ _. tt;
    moves = steps;
  }

  -- a step doesn't change the items
  pub all_items-right : (s t : Sides X) (x : A) → GoesRight view s (Some x) t
      → all_items t ≡ all_items s
  all_items-right s t x g = rw (g.0, g.1) (append_assoc s.left (view x ∷ []) t.right)

  pub all_items-left : (s t : Sides X) (x : A) → GoesLeft view s (Some x) t
      → all_items t ≡ all_items s
  all_items-left s t x g = rw (g.0, g.1) (sym (append_assoc t.left (view x ∷ []) s.right))

  -- a step to the right is the next one of a cursor that faces forward
  right_item : (s t : Sides X) (r : Option A) → GoesRight view s r t
      → option_map view r ≡ item_after (all_items s) (place s)
  right_item s t None g = rw g.0 (sym (no_item s.left))
  right_item s t (Some x) g = rw g.0 (sym (item_at s.left (view x) t.right))

  right_place : (s t : Sides X) (r : Option A) → GoesRight view s r t → (all_items t ≡ all_items s)
      × (place t ≡ place_after (all_items s) (place s)) × (t.is_backward ≡ s.is_backward)
  right_place s t None g =
      let past : length (s.left ++ s.right) ≤ length s.left =
      omega (arith, length-append s.left s.right, ap length g.0) in (
        ap all_items g.1,
        ap place g.1
            ∙ rw (le-ltb (length s.left) (length (s.left ++ s.right)) past) refl,
        ap (λ c. c.is_backward) g.1,
      )
  right_place s t (Some x) g =
      let less : length s.left < length (s.left ++ s.right) =
      omega (arith, length-append s.left s.right, ap length g.0) in (
        all_items-right s t x g,
        rw (lt-ltb (length s.left) (length (s.left ++ s.right)) less)
            (ap length g.1 ∙ length-append s.left (view x ∷ [])),
        g.2,
      )

  -- a step to the left is a step of a cursor that faces backward
  left_item : (s t : Sides X) (r : Option A) → GoesLeft view s r t
      → option_map view r ≡ item_before (all_items s) (place s)
  left_item s t None g = rw g.0 refl
  left_item s t (Some x) g =
      let size : length s.left ≡ suc (length t.left) =
      omega (arith, ap length g.0, length-append t.left (view x ∷ [])) in
      let whole : s.left ++ s.right ≡ t.left ++ view x ∷ s.right =
      rw g.0 (append_assoc t.left (view x ∷ []) s.right) in
      rw (size, whole) (sym (item_at t.left (view x) s.right))

  left_place : (s t : Sides X) (r : Option A) → GoesLeft view s r t → (all_items t ≡ all_items s)
      × (place t ≡ place_before (place s)) × (t.is_backward ≡ s.is_backward)
  left_place s t None g =
      (ap all_items g.1, ap place g.1 ∙ omega (arith, ap length g.0), ap (λ c. c.is_backward) g.1)
  left_place s t (Some x) g = (
    all_items-left s t x g,
    omega (arith, ap length g.0, length-append t.left (view x ∷ [])),
    g.2,
  )

  -- `next` returns the cursor's next item, and leaves the cursor after it
  pub item_ahead : (s t : Sides X) (r : Option A) → StepsAhead view s r t
      → option_map view r ≡ next_item (cursor_of s)
  item_ahead s t r h = go s.left s.right s.is_backward h
    where
      go : (left right : List X) (back : Bool)
          → StepsAhead view (record { left = left; right = right; is_backward = back }) r t
          → option_map view r ≡ next_item
          (cursor_of (record { left = left; right = right; is_backward = back }))
      go left right true g = left_item _ t r g
      go left right false g = right_item _ t r g

  pub cursor_ahead : (s t : Sides X) (r : Option A) → StepsAhead view s r t
      → cursor_of t ≡ after_next (cursor_of s)
  cursor_ahead s t r h = go s.left s.right s.is_backward h
    where
      go : (left right : List X) (back : Bool)
          → StepsAhead view (record { left = left; right = right; is_backward = back }) r t
          → cursor_of t ≡ after_next
          (cursor_of (record { left = left; right = right; is_backward = back }))
      go left right true g = let e =
          left_place (record { left = left; right = right; is_backward = true }) t r g in
          cursor_ext _ _ e.0 e.1 (ap not e.2)
      go left right false g = let e =
          right_place (record { left = left; right = right; is_backward = false }) t r g in
          cursor_ext _ _ e.0 e.1 (ap not e.2)

  -- a step back is a step of the cursor turned round
  turned_right : (s t : Sides X) (r : Option A) → GoesRight view s r t
      → GoesRight view (turned s) r (turned t)
  turned_right s t None g = (g.0, ap turned g.1)
  turned_right s t (Some x) g = (g.0, g.1, ap not g.2)

  turned_left : (s t : Sides X) (r : Option A) → GoesLeft view s r t
      → GoesLeft view (turned s) r (turned t)
  turned_left s t None g = (g.0, ap turned g.1)
  turned_left s t (Some x) g = (g.0, g.1, ap not g.2)

  pub back_is_ahead : (s t : Sides X) (r : Option A) → StepsBack view s r t
      → StepsAhead view (turned s) r (turned t)
  back_is_ahead s t r h = go s.left s.right s.is_backward h
    where
      go : (left right : List X) (back : Bool)
          → StepsBack view (record { left = left; right = right; is_backward = back }) r t
          → StepsAhead view (turned (record { left = left; right = right; is_backward = back })) r
          (turned t)
      go left right true g = turned_right _ t r g
      go left right false g = turned_left _ t r g

  pub item_back : (s t : Sides X) (r : Option A) → StepsBack view s r t
      → option_map view r ≡ prev_item (cursor_of s)
  item_back s t r h = item_ahead (turned s) (turned t) r (back_is_ahead s t r h)

  pub cursor_back : (s t : Sides X) (r : Option A) → StepsBack view s r t
      → cursor_of t ≡ after_prev (cursor_of s)
  cursor_back s t r h =
      let e = cursor_ahead (turned s) (turned t) r (back_is_ahead s t r h) in
      cursor_ext (cursor_of t) (reversed (cursor_of (turned t))) refl refl
      (sym (not-not (not t.is_backward))) ∙ ap reversed e

  -- a step that gave an item, and then the step back: an equal item, and the cursor unchanged
  nil_from_push : (xs : List X) (y : X) → xs ++ y ∷ [] ≡ [] → ⊥
  nil_from_push [] y e = cc
  nil_from_push (x ∷ xs) y e = cc

  back_from_right : (s t u : Sides X) (x : A) (r : Option A) → GoesRight view s (Some x) t
      → GoesLeft view t r u → MatchOption r ⊥ (λ y. (view y ≡ view x) × (u ≡ s))
  back_from_right s t u x None g h = nil_from_push s.left (view x) (sym g.1 ∙ h.0)
  back_from_right s t u x (Some y) g h =
      let e = same_from_push s.left u.left (view x) (view y) (sym g.1 ∙ h.0) in (
        sym e.1,
        sides_ext u s (sym e.0) (h.1 ∙ ap (λ v. v ∷ t.right) (sym e.1) ∙ sym g.0) (h.2
            ∙ g.2),
      )

  back_from_left : (s t u : Sides X) (x : A) (r : Option A) → GoesLeft view s (Some x) t
      → GoesRight view t r u → MatchOption r ⊥ (λ y. (view y ≡ view x) × (u ≡ s))
  back_from_left s t u x None g h = let e : view x ∷ s.right ≡ [] = sym g.1 ∙ h.0 in cc
  back_from_left s t u x (Some y) g h =
      let e : view x ∷ s.right ≡ view y ∷ u.right = sym g.1 ∙ h.0 in
      let v : view y ≡ view x = cc in
      let w : u.right ≡ s.right = cc in
      (v, sides_ext u s (h.1 ∙ ap (λ z. t.left ++ z ∷ []) v ∙ sym g.0) w (h.2 ∙ g.2))

  pub back_from_next : (s t u : Sides X) (x : A) (r : Option A) → StepsAhead view s (Some x) t
      → StepsBack view t r u → MatchOption r ⊥ (λ y. (view y ≡ view x) × (u ≡ s))
  back_from_next s t u x r g h = go s.left s.right s.is_backward g
    where
      go : (left right : List X) (back : Bool)
          → StepsAhead view (record { left = left; right = right; is_backward = back }) (Some x) t
          → MatchOption r ⊥ (λ y. (view y ≡ view x)
          × (u ≡ record { left = left; right = right; is_backward = back }))
      go left right true k =
          back_from_left (record { left = left; right = right; is_backward = true }) t u x r k
          (subst (λ d. MatchBool d (GoesRight view t r u) (GoesLeft view t r u)) k.2 h)
      go left right false k =
          back_from_right (record { left = left; right = right; is_backward = false }) t u x r k
          (subst (λ d. MatchBool d (GoesRight view t r u) (GoesLeft view t r u)) k.2 h)

-- the number of items ahead
pub length_ahead : {X : Type 0} (s : Sides X) → length (ahead s) ≡ size_left (cursor_of s)
length_ahead {X} s = go s.left s.right s.is_backward
  where
    go : (left right : List X) (back : Bool)
        → length (ahead (record { left = left; right = right; is_backward = back }))
        ≡ size_left (cursor_of (record { left = left; right = right; is_backward = back }))
    go left right true = length-reverse left
    go left right false = omega (arith, length-append left right)

pub length_ahead_at : {X : Type 0} (items : List X) (p : ℕ)
    → length (ahead (at_place items p)) ≡ length items - p
length_ahead_at items p = length-drop p items

pub length_passed_at : {X : Type 0} (items : List X) (p : ℕ) → p ≤ length items
    → length (passed (at_place items p)) ≡ p
length_passed_at items p l = length-reverse (take p items) ∙ length-take-le p items l
