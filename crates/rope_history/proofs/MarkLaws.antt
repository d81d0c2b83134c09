-- Marks that are added, removed and moved, and those that a cursor has left.
use Rattle.std.proofs.Common.{◌≡◌, ℕ, zero, suc, ◌+◌, ◌<◌, ◌≤◌, List, [], ◌∷◌, ◌++◌, ◌-◌, length, get_or, take, drop, refl, ap, sym, ◌∙◌, subst, arith, append-nil, false, inl, inr}
use Rattle.std.proofs.lemmas.Bool.{cases_eq, eq-eqb, ne_eqb, lt-leb}
use Rattle.std.specs.Prelude.{map, filter, nat_eq, nat_le, cond, ◌&&◌}
use Rattle.std.specs.List.{All, IsDistinct}
use Rattle.std.specs.List.Sorted.{IsPermutation, IsNonDecreasingBy}
use Rattle.std.specs.List.{insert as list_insert, remove}
use Rattle.std.proofs.lemmas.List.{get_or_default, get_or-drop, get_or-append_right, length-map, length-take-le, length-drop, take_all, drop_all}
use Rattle.std.proofs.lemmas.List.Elements.{All-nil, All-cons, All-tail, All-map, All-weaker, recursion_from_All}
use Rattle.std.proofs.lemmas.List.Quantifiers.{all_pairs_remove}
use Rattle.std.proofs.lemmas.List.Sorted.{All-permutation, IsPermutation-map, IsPermutation-insert, IsPermutation-remove, IsNonDecreasingBy-insert, IsNonDecreasingBy-short}
use Rattle.std.proofs.lemmas.Map.Keys.{IsDistinct-IsPermutation, IsDistinct-cons, IsDistinct-tail, IsDistinct-from_apart}
use Rattle.rope_changes.specs.Ops.{Op, keep, delete, insert, len_before, len_after}
use Rattle.rope_changes.specs.Moved.{moved, moved_before, moved_after}
use Rattle.rope_changes.specs.declared.side.Side.{Side}
use Rattle.rope_changes.specs.declared.side.Side.TheVariants.{Before, After}
use Rattle.rope_history.specs.declared.marks.Mark.{Mark}
use Rattle.rope_history.specs.Marking.{IsMarking, IsWithin, start_of, id_of, moved_mark, touches}

before_within : (ops : List Op) (i : ℕ) → i ≤ len_before ops → moved_before ops i ≤ len_after ops
before_within [] i le = le
before_within (keep ∷ ops) zero le = omega arith
before_within (keep ∷ ops) (suc i) le = omega (arith, before_within ops i (omega arith))
before_within (delete ∷ ops) zero le = omega arith
before_within (delete ∷ ops) (suc i) le = before_within ops i (omega arith)
before_within (insert c ∷ ops) zero le = omega arith
before_within (insert c ∷ ops) (suc i) le = omega (arith, before_within ops (suc i) le)

after_within : (ops : List Op) (i : ℕ) → i ≤ len_before ops → moved_after ops i ≤ len_after ops
after_within [] i le = le
after_within (keep ∷ ops) zero le = omega arith
after_within (keep ∷ ops) (suc i) le = omega (arith, after_within ops i (omega arith))
after_within (delete ∷ ops) zero le = after_within ops zero (omega arith)
after_within (delete ∷ ops) (suc i) le = after_within ops i (omega arith)
after_within (insert c ∷ ops) i le = omega (arith, after_within ops i le)

-- an index of the text before lies in the text after
pub moved_within : (side : Side) (ops : List Op) (i : ℕ) → i ≤ len_before ops
    → moved side ops i ≤ len_after ops
moved_within Before ops i le = before_within ops i le
moved_within After ops i le = after_within ops i le

pub mark_within : (ops : List Op) (m : Mark) → IsWithin (len_before ops) m
    → IsWithin (len_after ops) (moved_mark ops m)
mark_within ops m is =
    let start = moved_within m.start_side ops m.start (omega (arith, is.ordered, is.within)) in
    let end = moved_within m.end_side ops m.end is.within in
    record { ordered = omega arith; within = omega (arith, start, end) }

ids_kept : (ops : List Op) (marks : List Mark)
    → map id_of (map (moved_mark ops) marks) ≡ map id_of marks
ids_kept ops [] = refl
ids_kept ops (m ∷ marks) = ap (λ ids. m.id ∷ ids) (ids_kept ops marks)

eq_flips : (x y : ℕ) → nat_eq x y ≡ nat_eq y x
eq_flips x y =
    elim (cases_eq x y) [
      | inl same ↦ eq-eqb x y same ∙ sym (eq-eqb y x (sym same))
      | inr other ↦ ne_eqb x y other ∙ sym (ne_eqb y x (λ e. other (sym e)))
    ]

-- marks in another order
pub permuted_is : (old new : List Mark) (len next_id : ℕ) → IsPermutation old new
    → All (IsWithin len) old → IsDistinct nat_eq (map id_of old)
    → All (λ (x : Mark). x.id < next_id) old
    → IsNonDecreasingBy start_of new
    → IsMarking (record { marks = new; len = len; next_id = next_id })
permuted_is old new len next_id moves within distinct numbered in_order =
    record {
      within = All-permutation (IsWithin len) old new moves within;
      in_order = in_order;
      distinct = IsDistinct-IsPermutation nat_eq eq_flips (map id_of old) (map id_of new)
          (IsPermutation-map id_of old new moves) distinct;
      numbered = All-permutation (λ (x : Mark). x.id < next_id) old new moves numbered;
    }

-- the moved marks, before they are sorted
pub moved_are_within : (ops : List Op) (marks : List Mark) → All (IsWithin (len_before ops)) marks
    → All (IsWithin (len_after ops)) (map (moved_mark ops) marks)
moved_are_within ops marks within =
    All-map (IsWithin (len_after ops)) (moved_mark ops) marks
    (λ k d lt. mark_within ops (get_or marks k d) (within k d lt))

pub moved_is : (ops : List Op) (old new : List Mark) (next_id : ℕ)
    → IsPermutation (map (moved_mark ops) old) new
    → IsMarking (record { marks = old; len = len_before ops; next_id = next_id })
    → IsNonDecreasingBy start_of new
    → IsMarking (record { marks = new; len = len_after ops; next_id = next_id })
moved_is ops old new next_id moves is in_order =
    permuted_is (map (moved_mark ops) old) new (len_after ops) next_id moves
    (moved_are_within ops old is.within)
    (subst (IsDistinct nat_eq) (sym (ids_kept ops old)) is.distinct)
    (All-map (λ (x : Mark). x.id < next_id) (moved_mark ops) old is.numbered)
    in_order

-- no mark that starts after the end of a range touches it
pub none_left : (start end : ℕ) (marks : List Mark)
    → ((k : ℕ) (d : Mark) → k < length marks → end < (get_or marks k d).start)
    → filter (touches start end) marks ≡ []
none_left start end [] later = refl
none_left start end (m ∷ marks) later =
    let rest = filter (touches start end) marks in
    ap (λ b. cond (b && nat_le start m.end) (m ∷ rest) rest)
    (lt-leb m.start end (later 0 m (omega arith)))
    ∙ none_left start end marks (λ k d lt. later (suc k) d (omega arith))

pub none_is : (len : ℕ) → IsMarking (record { marks = []; len = len; next_id = 0 })
none_is len =
    record {
      within = All-nil (IsWithin len);
      in_order = IsNonDecreasingBy-short start_of [] (omega arith);
      distinct = IsDistinct-from_apart nat_eq [] (λ i j d lt far. absurd (omega arith));
      numbered = All-nil (λ (x : Mark). x.id < 0);
    }

-- a mark that is inserted in order, with the next number
pub added_is : (marks : List Mark) (len next_id : ℕ) (m : Mark) (i : ℕ)
    → IsMarking (record { marks = marks; len = len; next_id = next_id })
    → m.id ≡ next_id → IsWithin len m → i ≤ length marks
    → ((k : ℕ) (d : Mark) → k < i → (get_or marks k d).start ≤ m.start)
    → ((k : ℕ) (d : Mark) → i ≤ k → k < length marks → m.start ≤ (get_or marks k d).start)
    → IsMarking (record { marks = list_insert marks i m; len = len; next_id = next_id + 1 })
added_is marks len next_id m i is id_is within le before after =
    let Below : Mark → Type 0 = λ x. x.id < next_id + 1 in
    permuted_is (m ∷ marks) (list_insert marks i m) len (next_id + 1)
    (IsPermutation-insert marks i m)
    (All-cons (IsWithin len) m marks within is.within)
    (IsDistinct-cons nat_eq m.id (map id_of marks)
    (recursion_from_All (λ n. nat_eq m.id n ≡ false) (map id_of marks) others) is.distinct)
    (All-cons Below m marks (omega arith)
    (All-weaker (λ (x : Mark). x.id < next_id) Below (λ x lt. omega arith) marks is.numbered))
    (IsNonDecreasingBy-insert start_of marks i m is.in_order le before after)
  where
    others : All (λ n. nat_eq m.id n ≡ false) (map id_of marks)
    others = All-map (λ n. nat_eq m.id n ≡ false) id_of marks
        (λ k d lt. ne_eqb m.id (get_or marks k d).id (λ e. omega (arith, is.numbered k d lt)))

order_removed : (marks : List Mark) (i : ℕ) → i < length marks → IsNonDecreasingBy start_of marks
    → IsNonDecreasingBy start_of (remove marks i)
order_removed marks i lt in_order = λ j k d le far.
    elim (cases_eq j k) [
      | inl same ↦ omega (arith, ap (λ n. (get_or (remove marks i) n d).start) same)
      | inr other ↦
          all_pairs_remove (λ (x : Mark) (y : Mark). x.start ≤ y.start) marks i lt
          (λ a b e less within. in_order a b e (omega arith) within) j k d (omega arith) far
    ]

pub removed_is : (marks : List Mark) (len next_id : ℕ) (m : Mark) (i : ℕ)
    → IsMarking (record { marks = marks; len = len; next_id = next_id })
    → i < length marks → m ≡ get_or marks i m
    → IsMarking (record { marks = remove marks i; len = len; next_id = next_id })
removed_is marks len next_id m i is lt at =
    let left = remove marks i in
    let moves = IsPermutation-remove marks i m lt at in
    record {
      within = All-tail (IsWithin len) m left
          (All-permutation (IsWithin len) marks (m ∷ left) moves is.within);
      in_order = order_removed marks i lt is.in_order;
      distinct = IsDistinct-tail nat_eq m.id (map id_of left)
          (IsDistinct-IsPermutation nat_eq eq_flips (map id_of marks) (map id_of (m ∷ left))
          (IsPermutation-map id_of marks (m ∷ left) moves) is.distinct);
      numbered = All-tail (λ (x : Mark). x.id < next_id) m left
          (All-permutation (λ (x : Mark). x.id < next_id) marks (m ∷ left) moves is.numbered);
    }

-- the first mark that has not moved is the one that stood there
pub unmoved : (f : Mark → Mark) (marks now : List Mark) (i : ℕ) (d : Mark) → i < length marks
    → now ≡ map f (take i marks) ++ drop i marks → get_or now i d ≡ get_or marks i d
unmoved f marks now i d lt is =
    let front : length (map f (take i marks)) ≡ i =
    length-map (take i marks) f ∙ length-take-le i marks (omega arith) in
    let e : i + (i - i) ≡ i = omega arith in
    ap (λ xs. get_or xs i d) is
    ∙ get_or-append_right (map f (take i marks)) (drop i marks) i i d front (omega arith)
    ∙ get_or-drop i marks (i - i) d
    ∙ ap (λ k. get_or marks k d) e

-- the marks from a mark on start no earlier than it
pub later_start : (marks : List Mark) (i end : ℕ) (m : Mark) → IsNonDecreasingBy start_of marks
    → i < length marks → m ≡ get_or marks i m → end < m.start
    → (k : ℕ) (d : Mark) → k < length (drop i marks) → end < (get_or (drop i marks) k d).start
later_start marks i end m in_order lt at past k d far =
    let here : get_or marks i d ≡ m = get_or_default marks i d m lt ∙ sym at in
    let order = in_order i (i + k) d (omega arith) (omega (arith, length-drop i marks)) in
    omega (arith, ap start_of (get_or-drop i marks k d), ap start_of here, order)

-- what a vector has after its slice was changed in place
pub in_place : {X : Type 0} (n : ℕ) (xs ys : List X) → length xs ≡ length ys → n ≡ length ys
    → take n (xs ++ drop (length xs) ys) ≡ xs
in_place n xs ys same is =
    ap (λ zs. take n (xs ++ zs)) (drop_all (length xs) ys (omega arith))
    ∙ ap (take n) (append-nil xs) ∙ take_all n xs (omega arith)
