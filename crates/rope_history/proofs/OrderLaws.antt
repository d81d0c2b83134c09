-- Marks in the order of a list of their indices: added, removed and moved.
use Rattle.std.proofs.Common.{◌≡◌, ◌≢◌, ℕ, suc, ◌+◌, ◌-◌, ◌<◌, ◌≤◌, List, [], ◌∷◌, ◌++◌, length, get_or, take, drop, refl, ap, ap₂, sym, ◌∙◌, subst, arith, inl, inr}
use Rattle.std.proofs.lemmas.Bool.{cases_eq, cases_lt, lt-ltb, le-ltb, le-leb, lt-leb, eq-eqb}
use Rattle.std.specs.Prelude.{map, filter, nat_eq, cond, false, true, ◌&&◌}
use Rattle.std.specs.List.{All, Contains, IsDistinct}
use Rattle.std.specs.Ordering.{nat_cmp, ordering_index}
use Rattle.std.proofs.lemmas.Bool.Decides.{nat_tests}
use Rattle.std.specs.List.{insert as list_insert, remove}
use Rattle.std.specs.List.Sorted.{IsPermutation, IsNonDecreasingBy}
use Rattle.std.proofs.lemmas.List.{get_or_default, get_or-map, get_or_append_left, get_or-append_right, length-map, length-append, map-append, take-map, drop-map, at_drop_more}
use Rattle.std.proofs.lemmas.List.Edits.{get_or-remove_below, get_or-remove_above, length-remove}
use Rattle.std.proofs.lemmas.List.Elements.{All-nil, All-cons, All-map, All-weaker}
use Rattle.std.proofs.lemmas.List.Quantifiers.{all_pairs_remove}
use Rattle.std.proofs.lemmas.List.Sorted.{All-permutation, Contains-permutation, IsPermutation-map, IsPermutation-insert, IsPermutation-remove, IsNonDecreasingBy-push, IsNonDecreasingBy-short}
use Rattle.std.proofs.lemmas.Grind.{in_between, in_insert, in_remove}
use Rattle.std.proofs.lemmas.Simd.{map-map}
use Rattle.std.proofs.lemmas.Map.Keys.{apart_from_distinct}
use Rattle.rope_changes.specs.declared.side.Side.TheVariants.{Before}
use Rattle.rope_history.specs.declared.marks.Mark.{Mark}
use Rattle.rope_history.specs.Marking.{IsMarking, IsWithin, id_of, moved_mark, start_of, touches}
use Rattle.rope_changes.specs.Ops.{Op, len_before, len_after}
use Rattle.rope_history.proofs.MarkLaws.{added_is, later_start, moved_is, none_is, none_left, removed_is}
use Rattle.rope_history.specs.MarkLists.{closed, mark_at, marks_in}
use Rattle.rope_history.specs.MarkViews.{Covers, IsOrdered}

-- a mark of nothing
abbrev pub none : Mark
none = record { id = 0; start = 0; end = 0; start_side = Before; end_side = Before }

pub map_insert : {X Y : Type 0} (f : X → Y) (xs : List X) (i : ℕ) (y : X)
    → map f (list_insert xs i y) ≡ list_insert (map f xs) i (f y)
map_insert f xs i y =
    map-append f (take i xs) (y ∷ drop i xs)
    ∙ ap₂ (λ front back. front ++ f y ∷ back) (sym (take-map f i xs)) (sym (drop-map f i xs))

pub map_remove : {X Y : Type 0} (f : X → Y) (xs : List X) (i : ℕ)
    → map f (remove xs i) ≡ remove (map f xs) i
map_remove f xs i =
    map-append f (take i xs) (drop (suc i) xs)
    ∙ ap₂ (λ front back. front ++ back) (sym (take-map f i xs)) (sym (drop-map f (suc i) xs))

pub map_same : {X Y : Type 0} (f g : X → Y) (xs : List X) → All (λ x. f x ≡ g x) xs
    → map f xs ≡ map g xs
map_same f g [] same = refl
map_same f g (x ∷ xs) same =
    ap₂ (λ y ys. y ∷ ys) (same 0 x (omega arith))
    (map_same f g xs (λ k d lt. same (suc k) d (omega arith)))

-- the mark at an index of the order
pub at_in : (marks : List Mark) (order : List ℕ) (k : ℕ) (d : Mark) → k < length order
    → get_or (marks_in marks order) k d ≡ mark_at marks (get_or order k 0)
at_in marks order k d lt = get_or-map (mark_at marks) order k 0 d lt

pub count_in : (marks : List Mark) (order : List ℕ)
    → length (marks_in marks order) ≡ length order
count_in marks order = length-map order (mark_at marks)

-- what each mark has, each one in the order has
pub all_in : (P : Mark → Type 0) (marks : List Mark) (order : List ℕ) → All P marks
    → All (λ i. i < length marks) order → All P (marks_in marks order)
all_in P marks order each within k d lt =
    let at : k < length order = omega (arith, lt, count_in marks order) in
    subst P (sym (at_in marks order k d at))
    (each (get_or order k 0) none (within k 0 at))

-- an order that is sorted by the starts of its marks
pub sorted_in : (marks : List Mark) (order : List ℕ)
    → IsNonDecreasingBy (λ i. (mark_at marks i).start) order
    → IsNonDecreasingBy start_of (marks_in marks order)
sorted_in marks order sorted i j d le lt =
    let at : j < length order = omega (arith, lt, count_in marks order) in
    let first = ap start_of (at_in marks order i d (omega (arith, le, at))) in
    let second = ap start_of (at_in marks order j d at) in
    omega (arith, first, second, sorted i j 0 le at)

compares : (a b x : ℕ) → a ≤ b → ordering_index (nat_cmp a x) ≤ ordering_index (nat_cmp b x)
compares a b x le = grind (arith, nat_tests)

-- the comparisons with a number rise along the marks
pub searchable : (marks : List Mark) (id : ℕ) → IsNonDecreasingBy id_of marks
    → IsNonDecreasingBy (λ m. ordering_index (nat_cmp (id_of m) id)) marks
searchable marks id in_order i j d le lt =
    compares (get_or marks i d).id (get_or marks j d).id id (in_order i j d le lt)

-- a mark by its index is in the order
pub found_in : (marks : List Mark) (order : List ℕ) (i : ℕ) (d : Mark) → i < length marks
    → Contains order i → Contains (marks_in marks order) (get_or marks i d)
found_in marks order i d lt (k, at, is) = (
  k,
  omega (arith, at, count_in marks order),
  at_in marks order k (get_or marks i d) at
      ∙ ap (mark_at marks) (get_or_default order k 0 i at ∙ is)
      ∙ get_or_default marks i none d lt,
)

-- a position that a search for the index of a mark found
pub is_found : (marks : List Mark) (order : List ℕ) (p i : ℕ) → Covers marks order
    → i < length marks → p ≤ length order
    → (p ≡ length order → (k : ℕ) (d : ℕ) → k < length order → get_or order k d ≢ i)
    → p < length order
is_found marks order p i covers lt le none =
    let (k, at, is) = covers i lt in
    elim (cases_lt p (length order)) [
      | inl less ↦ less
      | inr more ↦ absurd (none (omega (arith, le, more)) k i at is)
    ]

-- what each mark in the order has, each mark has
pub all_of : (P : Mark → Type 0) (marks : List Mark) (order : List ℕ)
    → All P (marks_in marks order) → Covers marks order → All P marks
all_of P marks order each covers i d lt =
    let (k, at, is) = found_in marks order i d lt (covers i lt) in
    subst P is (each k (get_or marks i d) at)

-- a mark that is added at the end, and its index in the order
pub added_in : (marks : List Mark) (order : List ℕ) (p : ℕ) (m : Mark)
    → All (λ i. i < length marks) order
    → marks_in (marks ++ m ∷ []) (list_insert order p (length marks))
    ≡ list_insert (marks_in marks order) p m
added_in marks order p m within =
    let more = marks ++ m ∷ [] in
    let first : length marks - length marks ≡ 0 = omega arith in
    let here : mark_at more (length marks) ≡ m =
    get_or-append_right marks (m ∷ []) (length marks) (length marks) none refl (omega arith)
    ∙ ap (λ i. get_or (m ∷ []) i none) first in
    map_insert (mark_at more) order p (length marks)
    ∙ ap₂ (λ front y. list_insert front p y)
    (map_same (mark_at more) (mark_at marks) order
    (λ k d lt. get_or_append_left marks (m ∷ []) none (get_or order k d) (within k d lt)))
    here

below_last : (j i : ℕ) → i ≤ j → closed j i ≡ i
below_last j i le = ap (λ b. cond b (i - 1) i) (le-ltb j i le)

above_gap : (j i : ℕ) → j < i → closed j i ≡ i - 1
above_gap j i lt = ap (λ b. cond b (i - 1) i) (lt-ltb j i lt)

-- a mark by its index after another one is removed
shifted : (marks : List Mark) (j i : ℕ) → j < length marks → i ≢ j
    → mark_at (remove marks j) (closed j i) ≡ mark_at marks i
shifted marks j i at other =
    elim (cases_lt j i) [
      | inl above ↦
          let e : i - 1 + 1 ≡ i = omega arith in
          ap (mark_at (remove marks j)) (above_gap j i above)
          ∙ get_or-remove_above marks j none (i - 1) (omega arith) at
          ∙ ap (mark_at marks) e
      | inr below ↦
          let less : i < j = omega (arith, below, other) in
          ap (mark_at (remove marks j)) (below_last j i below)
          ∙ get_or-remove_below marks j none i less at
    ]

id_at : (marks : List Mark) (order : List ℕ) (k : ℕ) → k < length order
    → get_or (map id_of (marks_in marks order)) k 0 ≡ (mark_at marks (get_or order k 0)).id
id_at marks order k lt =
    get_or-map id_of (marks_in marks order) k none 0 (omega (arith, lt, count_in marks order))
    ∙ ap id_of (at_in marks order k none lt)

-- the order has no index twice
differ : (marks : List Mark) (order : List ℕ) (k p : ℕ)
    → IsDistinct nat_eq (map id_of (marks_in marks order))
    → k < p → p < length order → get_or order k 0 ≢ get_or order p 0
differ marks order k p distinct less at same =
    let ids = map id_of (marks_in marks order) in
    let n : length ids ≡ length order =
    length-map (marks_in marks order) id_of ∙ count_in marks order in
    let equal : get_or ids k 0 ≡ get_or ids p 0 =
    id_at marks order k (omega arith) ∙ ap (λ i. (mark_at marks i).id) same
    ∙ sym (id_at marks order p at) in
    let no = apart_from_distinct nat_eq ids k p 0 distinct less (omega (arith, at, n)) in
    let both : false ≡ true = sym no ∙ eq-eqb (get_or ids k 0) (get_or ids p 0) equal in
    absurd (cc)

apart : (marks : List Mark) (order : List ℕ) (k p : ℕ)
    → IsDistinct nat_eq (map id_of (marks_in marks order))
    → k ≢ p → k < length order → p < length order → get_or order k 0 ≢ get_or order p 0
apart marks order k p distinct other k_at p_at same =
    elim (cases_lt k p) [
      | inl less ↦ differ marks order k p distinct less p_at same
      | inr more ↦
          differ marks order p k distinct (omega (arith, more, other)) k_at (sym same)
    ]

-- an index other than the one that is removed
pub record IsLeft (marks : List Mark) (j i : ℕ) : Type 0 where
  pub within : i < length marks
  pub other : i ≢ j

-- the order without one of its elements
left_are : (marks : List Mark) (order : List ℕ) (p j : ℕ)
    → IsDistinct nat_eq (map id_of (marks_in marks order))
    → All (λ i. i < length marks) order → p < length order → get_or order p 0 ≡ j
    → All (IsLeft marks j) (remove order p)
left_are marks order p j distinct within at is k d lt =
    let n = length-remove order p at in
    elim (cases_lt k p) [
      | inl less ↦
          subst (IsLeft marks j) (sym (get_or-remove_below order p d k less at))
          (each k d (omega arith) (omega arith))
      | inr more ↦
          subst (IsLeft marks j) (sym (get_or-remove_above order p d k more at))
          (each (k + 1) d (omega (arith, n)) (omega arith))
    ]
  where
    each : (q : ℕ) (e : ℕ) → q < length order → q ≢ p → IsLeft marks j (get_or order q e)
    each q e here other =
        record {
          within = within q e here;
          other = λ same.
              apart marks order q p distinct other here at
              (get_or_default order q 0 e here ∙ same ∙ sym is);
        }

-- the marks in the order, after one of them is removed
pub removed_in : (marks : List Mark) (order : List ℕ) (p j : ℕ)
    → IsDistinct nat_eq (map id_of (marks_in marks order))
    → All (λ i. i < length marks) order → j < length marks → p < length order
    → get_or order p 0 ≡ j
    → marks_in (remove marks j) (map (closed j) (remove order p))
    ≡ remove (marks_in marks order) p
removed_in marks order p j distinct within j_at p_at is =
    let left = remove order p in
    map-map (mark_at (remove marks j)) (closed j) left
    ∙ map_same (λ i. mark_at (remove marks j) (closed j i)) (mark_at marks) left
    (λ k d lt. shifted marks j (get_or left k d) j_at
    (left_are marks order p j distinct within p_at is k d lt).other)
    ∙ map_remove (mark_at marks) order p

-- the mark that is removed, and those that are left
pub removed_permuted : (marks : List Mark) (order : List ℕ) (p j : ℕ) (m : Mark)
    → IsDistinct nat_eq (map id_of (marks_in marks order))
    → All (λ i. i < length marks) order → j < length marks → p < length order
    → get_or order p 0 ≡ j → m ≡ get_or marks j m
    → IsPermutation (marks_in marks order)
    (m ∷ marks_in (remove marks j) (map (closed j) (remove order p)))
removed_permuted marks order p j m distinct within j_at p_at is here =
    let view = marks_in marks order in
    let read : m ≡ get_or view p m =
    here ∙ get_or_default marks j m none j_at ∙ ap (mark_at marks) (sym is)
    ∙ sym (at_in marks order p m p_at) in
    subst (λ ms. IsPermutation view (m ∷ ms))
    (sym (removed_in marks order p j distinct within j_at p_at is))
    (IsPermutation-remove view p m (omega (arith, p_at, count_in marks order)) read)

removed_order : {X : Type 0} (n : X → ℕ) (xs : List X) (i : ℕ) → i < length xs
    → IsNonDecreasingBy n xs → IsNonDecreasingBy n (remove xs i)
removed_order n xs i lt in_order = λ j k d le far.
    elim (cases_eq j k) [
      | inl same ↦ omega (arith, ap (λ m. n (get_or (remove xs i) m d)) same)
      | inr other ↦
          all_pairs_remove (λ x y. n x ≤ n y) xs i lt
          (λ a b e less within. in_order a b e (omega arith) within) j k d (omega arith) far
    ]

-- each index of the marks that are left is in the order that is left
removed_covers : (marks : List Mark) (order : List ℕ) (p j : ℕ)
    → Covers marks order → j < length marks → p < length order → get_or order p 0 ≡ j
    → Covers (remove marks j) (map (closed j) (remove order p))
removed_covers marks order p j covers j_at p_at is i lt =
    let n = length-remove marks j j_at in
    elim (cases_lt i j) [
      | inl less ↦ found i (omega (arith, n)) (omega arith) (below_last j i (omega arith))
      | inr more ↦
          found (i + 1) (omega (arith, n)) (omega arith)
          (above_gap j (i + 1) (omega arith) ∙ (let e : i + 1 - 1 ≡ i = omega arith in e))
    ]
  where
    found : (old : ℕ) → old < length marks → old ≢ j → closed j old ≡ i
        → Contains (map (closed j) (remove order p)) i
    found old at other becomes =
        let (k, k_at, here) = covers old at in
        let apart : k ≢ p = λ same.
        other (sym here ∙ ap (λ q. get_or order q old) same
        ∙ get_or_default order p old 0 p_at ∙ is) in
        let stands = in_remove order p k old p_at k_at (sym here) apart in
        let (q, q_at, found) = stands.1 in (
          q,
          omega (arith, q_at, length-map (remove order p) (closed j)),
          get_or-map (closed j) (remove order p) q old i q_at ∙ ap (closed j) found ∙ becomes,
        )

pub none_ordered : (len : ℕ) → IsOrdered [] [] len 0
none_ordered len =
    record {
      is = none_is len;
      by_id = IsNonDecreasingBy-short id_of [] (omega arith);
      within = All-nil (λ i. i < 0);
      covers = λ i lt. absurd (omega arith);
    }

pub removed_ordered : (marks : List Mark) (order : List ℕ) (len next_id p j : ℕ)
    → IsOrdered marks order len next_id → j < length marks → p < length order
    → get_or order p 0 ≡ j
    → IsOrdered (remove marks j) (map (closed j) (remove order p)) len next_id
removed_ordered marks order len next_id p j kept j_at p_at is =
    let n = length-remove marks j j_at in
    let view = marks_in marks order in
    let Is : List Mark → Type 0 =
    λ ms. IsMarking (record { marks = ms; len = len; next_id = next_id }) in
    let p_in : p < length view = omega (arith, p_at, count_in marks order) in
    let m = get_or view p none in
    record {
      is = subst Is (sym (removed_in marks order p j kept.is.distinct kept.within j_at p_at is))
          (removed_is view len next_id m p kept.is p_in
          (get_or_default view p none m p_in));
      by_id = removed_order id_of marks j j_at kept.by_id;
      within = All-map (λ i. i < length (remove marks j)) (closed j) (remove order p)
          (λ k d lt. closes (get_or (remove order p) k d)
          (left_are marks order p j kept.is.distinct kept.within p_at is k d lt));
      covers = removed_covers marks order p j kept.covers j_at p_at is;
    }
  where
    closes : (i : ℕ) → IsLeft marks j i → closed j i < length (remove marks j)
    closes i left =
        let n = length-remove marks j j_at in
        elim (cases_lt j i) [
          | inl above ↦ omega (arith, n, above_gap j i above, left.within)
          | inr below ↦ omega (arith, n, below_last j i below, left.within, left.other)
        ]

pub added_ordered : (marks : List Mark) (order : List ℕ) (len next_id : ℕ) (m : Mark) (p : ℕ)
    → IsOrdered marks order len next_id → m.id ≡ next_id → IsWithin len m → p ≤ length order
    → ((k : ℕ) (d : Mark) → k < p → (get_or (marks_in marks order) k d).start ≤ m.start)
    → ((k : ℕ) (d : Mark) → p ≤ k → k < length order
    → m.start ≤ (get_or (marks_in marks order) k d).start)
    → IsOrdered (marks ++ m ∷ []) (list_insert order p (length marks)) len (next_id + 1)
added_ordered marks order len next_id m p kept id_is within p_at before after =
    let view = marks_in marks order in
    let more = marks ++ m ∷ [] in
    let n : length more ≡ length marks + 1 = length-append marks (m ∷ []) in
    let count = count_in marks order in
    let Is : List Mark → Type 0 =
    λ ms. IsMarking (record { marks = ms; len = len; next_id = next_id + 1 }) in
    let Below : ℕ → Type 0 = λ i. i < length more in
    let numbered = all_of (λ (x : Mark). x.id < next_id) marks order kept.is.numbered kept.covers in
    record {
      is = subst Is (sym (added_in marks order p m kept.within))
          (added_is view len next_id m p kept.is id_is within (omega (arith, p_at, count)) before
          (λ k d le lt. after k d le (omega (arith, lt, count))));
      by_id = IsNonDecreasingBy-push id_of marks m kept.by_id
          (λ d some. omega (arith, numbered (length marks - 1) d (omega arith), id_is));
      within = All-permutation Below (length marks ∷ order) (list_insert order p (length marks))
          (IsPermutation-insert order p (length marks))
          (All-cons Below (length marks) order (omega (arith, n))
          (All-weaker (λ i. i < length marks) Below (λ i lt. omega (arith, n)) order kept.within));
      covers = added_covers marks order m p kept.covers p_at;
    }
  where
    added_covers : (marks : List Mark) (order : List ℕ) (m : Mark) (p : ℕ) → Covers marks order
        → p ≤ length order → Covers (marks ++ m ∷ []) (list_insert order p (length marks))
    added_covers marks order m p covers p_at i lt =
        let n = length marks in
        elim (cases_lt i n) [
          | inl old ↦
              let (k, k_at, here) = covers i old in
              (in_insert order p k n i p_at k_at (sym here)).1
          | inr new ↦
              let same : n ≡ i = omega (arith, lt, new, length-append marks (m ∷ [])) in
              subst (Contains (list_insert order p n)) same
              (in_between (take p order) (drop p order) n).1
        ]

-- marks that are moved, and then put in order again
pub moved_in : (ops : List Op) (marks : List Mark) (order : List ℕ)
    → All (λ i. i < length marks) order
    → marks_in (map (moved_mark ops) marks) order ≡ map (moved_mark ops) (marks_in marks order)
moved_in ops marks order within =
    let f = moved_mark ops in
    map_same (mark_at (map f marks)) (λ i. f (mark_at marks i)) order
    (λ k d lt. get_or-map f marks (get_or order k d) none none (within k d lt))
    ∙ sym (map-map f (mark_at marks) order)

pub moved_permuted : (ops : List Op) (marks : List Mark) (order new : List ℕ)
    → All (λ i. i < length marks) order → IsPermutation order new
    → IsPermutation (map (moved_mark ops) (marks_in marks order))
    (marks_in (map (moved_mark ops) marks) new)
moved_permuted ops marks order new within moves =
    let after = map (moved_mark ops) marks in
    subst (λ ms. IsPermutation ms (marks_in after new)) (moved_in ops marks order within)
    (IsPermutation-map (mark_at after) order new moves)

pub moved_ordered : (ops : List Op) (marks : List Mark) (order new : List ℕ) (next_id : ℕ)
    → IsOrdered marks order (len_before ops) next_id → IsPermutation order new
    → IsNonDecreasingBy start_of (marks_in (map (moved_mark ops) marks) new)
    → IsOrdered (map (moved_mark ops) marks) new (len_after ops) next_id
moved_ordered ops marks order new next_id kept moves in_order =
    let f = moved_mark ops in
    let after = map f marks in
    let n : length after ≡ length marks = length-map marks f in
    let Below : ℕ → Type 0 = λ i. i < length after in
    record {
      is = moved_is ops (marks_in marks order) (marks_in after new) next_id
          (moved_permuted ops marks order new kept.within moves) kept.is in_order;
      by_id = λ i j d le lt.
          let j_at : j < length marks = omega (arith, lt, n) in
          let first = ap id_of (get_or-map f marks i d d (omega (arith, le, j_at))) in
          let second = ap id_of (get_or-map f marks j d d j_at) in
          omega (arith, first, second, kept.by_id i j d le j_at);
      within = All-permutation Below order new moves
          (All-weaker (λ i. i < length marks) Below (λ i lt. omega (arith, n)) order kept.within);
      covers = λ i lt.
          Contains-permutation order new i moves (kept.covers i (omega (arith, lt, n)));
    }

-- the next mark of a cursor, which touches its range, or doesn't
pub taken : (start end : ℕ) (marks : List Mark) (order : List ℕ) (i : ℕ) (m : Mark)
    → i < length order → m ≡ mark_at marks (get_or order i 0) → m.start ≤ end → start ≤ m.end
    → filter (touches start end) (drop i (marks_in marks order))
    ≡ m ∷ filter (touches start end) (drop (i + 1) (marks_in marks order))
taken start end marks order i m lt is first last =
    let view = marks_in marks order in
    let rest = filter (touches start end) (drop (i + 1) view) in
    at_drop_more (filter (touches start end)) view i none (omega (arith, lt, count_in marks order))
    ∙ ap (λ x. filter (touches start end) (x ∷ drop (i + 1) view)) (at_in marks order i none lt
    ∙ sym is)
    ∙ ap₂ (λ a b. cond (a && b) (m ∷ rest) rest) (le-leb m.start end first)
    (le-leb start m.end last)

pub skipped : (start end : ℕ) (marks : List Mark) (order : List ℕ) (i : ℕ) (m : Mark)
    → i < length order → m ≡ mark_at marks (get_or order i 0) → m.start ≤ end → m.end < start
    → filter (touches start end) (drop i (marks_in marks order))
    ≡ filter (touches start end) (drop (i + 1) (marks_in marks order))
skipped start end marks order i m lt is first last =
    let view = marks_in marks order in
    let rest = filter (touches start end) (drop (i + 1) view) in
    at_drop_more (filter (touches start end)) view i none (omega (arith, lt, count_in marks order))
    ∙ ap (λ x. filter (touches start end) (x ∷ drop (i + 1) view)) (at_in marks order i none lt
    ∙ sym is)
    ∙ ap₂ (λ a b. cond (a && b) (m ∷ rest) rest) (le-leb m.start end first)
    (lt-leb start m.end last)

-- no mark from one on that starts after the end of a range touches it
pub past_last : (start end : ℕ) (marks : List Mark) (order : List ℕ) (i : ℕ) (m : Mark)
    → IsNonDecreasingBy start_of (marks_in marks order) → i < length order
    → m ≡ mark_at marks (get_or order i 0) → end < m.start
    → filter (touches start end) (drop i (marks_in marks order)) ≡ []
past_last start end marks order i m in_order lt is past =
    let view = marks_in marks order in
    none_left start end (drop i view)
    (later_start view i end m in_order (omega (arith, lt, count_in marks order))
    (is ∙ sym (at_in marks order i m lt)) past)
