-- Arrays that are being filled.
use Rattle.std.proofs.Common.{◌≡◌, ℕ, ◌+◌, ◌<◌, ◌≤◌, List, [], ◌∷◌, ◌++◌, length, take, drop, map, slice_set, refl, sym, ap, subst, ◌∙◌, arith, inl, inr}
use Rattle.std.specs.Prelude.{Option, None, Some, min}
use Rattle.std.specs.Iterator.{Yields, YieldsFirstBy}
use Rattle.std.proofs.Math.Seq.{take-append_seam}
use Rattle.std.proofs.Math.Nat.{min-eq_left, min-eq_right, eq-or-lt_of_le}
use Rattle.std.proofs.lemmas.List.{length-append, length-set, drop-set-lt, drop-drop, take_more_set, length-map}
use Rattle.ropey_c.specs.Filling.{EachGives, FillsBy}
use Rattle.ropey.proofs.TextsGiven.{Yields-push}

each_more : {A B : Type 0} (gives : A → B → Type 0) (xs : List A) (ys : List B) (x : A) (y : B)
    → EachGives gives xs ys → gives x y → EachGives gives (xs ++ x ∷ []) (ys ++ y ∷ [])
each_more gives [] [] x y each one = (one, tt)
each_more gives [] (b ∷ ys) x y each one = absurd each
each_more gives (a ∷ xs) [] x y each one = absurd each
each_more gives (a ∷ xs) (b ∷ ys) x y each one = (each.0, each_more gives xs ys x y each.1 one)

-- the items that the iterator gave from s to t have been written
pub record IsFilling {S A B : Type 0} (steps : S → Option A → S → Type 0) (gives : A → B → Type 0)
    (s t : S) (old now : List B) (count : ℕ) : Type 0 where
  pub items : List A
  pub given : Yields steps s items t
  pub count_is : count ≡ length items
  pub written : EachGives gives items (take count now)
  pub kept : drop count now ≡ drop count old
  pub room : length now ≡ length old
  pub within : count ≤ length old

module _ {S A B : Type 0} (steps : S → Option A → S → Type 0) (gives : A → B → Type 0) (s t : S)
    (old now : List B) (count : ℕ) (i : IsFilling steps gives s t old now count) where
  -- one more was written
  pub next_filled : (item : A) (u : S) (value : B) → steps t (Some item) u → gives item value
      → count < length now → IsFilling steps gives s u old (slice_set now count value) (count + 1)
  next_filled item u value step gave in_room =
      let more : take (count + 1) (slice_set now count value) ≡ take count now ++ value ∷ [] =
      take_more_set now count value in_room in record {
        items = i.items ++ item ∷ [];
        given = Yields-push steps s i.items t item u i.given step;
        count_is = ap (λ n. n + 1) i.count_is ∙ sym (length-append i.items (item ∷ []));
        written = subst (EachGives gives (i.items ++ item ∷ [])) (sym more)
            (each_more gives i.items (take count now) item value i.written gave);
        kept = drop-set-lt (count + 1) now count value (omega arith) ∙ sym (drop-drop 1 count now)
            ∙ ap (drop 1) i.kept ∙ drop-drop 1 count old;
        room = length-set now count value ∙ i.room;
        within = omega (arith, in_room, i.room);
      }

  -- what was written, where there are no more or no room
  pub filled : (count < length old → (u : S) × steps t None u)
      → FillsBy steps gives s old now count
  filled ended = record {
    items = i.items;
    after = t;
    given = i.given;
    count_is = i.count_is;
    written = i.written;
    kept = i.kept;
    within = i.within;
    ended = ended;
  }

  pub filled_full : length now ≤ count → FillsBy steps gives s old now count
  filled_full full = filled (λ less. absurd (omega (arith, full, less, i.room)))

module _ {A B X Y : Type 0} (gives : A → B → Type 0) (view : A → X) (shows : B → Y)
    (as_shown : X → Y) (gave : (x : A) (y : B) → gives x y → shows y ≡ as_shown (view x)) where
  -- what is shown of values that items give
  shown_of_each : (xs : List A) (ys : List B) → EachGives gives xs ys
      → map shows ys ≡ map as_shown (map view xs)
  shown_of_each [] [] each = refl
  shown_of_each [] (y ∷ ys) each = absurd each
  shown_of_each (x ∷ xs) [] each = absurd each
  shown_of_each (x ∷ xs) (y ∷ ys) each =
      ap (λ z. z ∷ map shows ys) (gave x y each.0)
      ∙ ap (λ zs. as_shown (view x) ∷ zs) (shown_of_each xs ys each.1)

  module _ {S : Type 0} (ahead : S → List X) where
    -- what an iterator gave is what was ahead of it
    given_ahead : (s : S) (xs : List A) (t : S) → Yields (YieldsFirstBy view ahead) s xs t
        → ahead s ≡ map view xs ++ ahead t
    given_ahead s [] t none = ap ahead none
    given_ahead s (x ∷ xs) t more = more.1
        ∙ ap (λ rest. view x ∷ rest) (given_ahead more.0 xs t more.2)

    module _ (s : S) (old new : List B) (count : ℕ)
        (f : FillsBy (YieldsFirstBy view ahead) gives s old new count) where
      whole : ahead s ≡ map view f.items ++ ahead f.after
      whole = given_ahead s f.items f.after f.given

      count_is : count ≡ length (map view f.items)
      count_is = f.count_is ∙ sym (length-map f.items view)

      -- as many as there is room for
      pub filled_count : count ≡ min (length old) (length (ahead s))
      filled_count =
          let long : length (ahead s) ≡ length (map view f.items) + length (ahead f.after) =
          ap length whole ∙ length-append (map view f.items) (ahead f.after) in
          elim (eq-or-lt_of_le f.within) [
            | inl full ↦ full ∙ sym (min-eq_left (omega (arith, full, long, count_is)))
            | inr less ↦
                let none : length (ahead f.after) ≡ 0 = ap length (f.ended less).1.0 in
                omega (arith, none, long, count_is)
                ∙ sym (min-eq_right (omega (arith, less, none, long, count_is)))
          ]

      -- the first that were ahead are shown
      pub filled_shows : map shows (take count new) ≡ map as_shown (take count (ahead s))
      filled_shows =
          let first : take count (ahead s) ≡ map view f.items = ap (λ n. take n (ahead s)) count_is
          ∙ ap (take (length (map view f.items))) whole
          ∙ take-append_seam (map view f.items) (ahead f.after) in
          shown_of_each f.items (take count new) f.written ∙ sym (ap (map as_shown) first)
