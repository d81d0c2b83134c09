-- Rows of counts.
use Rattle.std.proofs.Common.{◌≡◌, ℕ, suc, ◌+◌, ◌-◌, ◌<◌, ◌≤◌, ◌^◌, List, ◌∷◌, ◌++◌, length, take, drop, set, get_or, sym, ap, ◌∙◌, arith, add-one, get_or-set_other, get_or-set_same}
use Rattle.std.specs.List.{insert, copy_within}
use Rattle.std.proofs.lemmas.List.{length-take-le, get_or-take, take-append-le, take-take, drop-take, drop_all, set_split, append_assoc, append-nil}
use Rattle.std.proofs.Math.Seq.{drop-append_seam}
use Rattle.std.proofs.lemmas.List.Edits.{length-insert, get_or-insert_at, get_or-insert_below, get_or-insert_above}
use Rattle.rope_leaf.specs.Shifted.{IsShifted}

abbrev pub pasted : ℕ → ℕ → ℕ → List ℕ → List ℕ → List ℕ
pasted at count from xs ys = take at xs ++ (take count (drop from ys) ++ drop (at + count) xs)

-- the entries after an index move up by one, over the last, and another takes the index
pub made_room : (xs moved : List ℕ) (p x : ℕ) → p < length xs → length moved ≡ length xs
    → moved ≡ copy_within xs p (length xs - 1) (p + 1)
    → set moved p x ≡ insert (take (length xs - 1) xs) p x
made_room xs moved p x lt len is =
    let n = length xs - 1 in
    let following = take (n - p) (drop p xs) ++ drop (p + 1 + (n - p)) xs in
    let front : length (take (p + 1) xs) ≡ p + 1 = length-take-le (p + 1) xs (omega arith) in
    let joined =
    append_assoc (take (p + 1) xs) (take (n - p) (drop p xs)) (drop (p + 1 + (n - p)) xs) in
    let before : take p moved ≡ take p (take n xs) =
    ap (take p) is ∙ ap (take p) joined
    ∙ take-append-le p (take (p + 1) xs) following (omega (arith, front))
    ∙ take-take p (p + 1) xs (omega arith) ∙ sym (take-take p n xs (omega arith)) in
    let past : p + 1 + (n - p) ≡ length xs = omega arith in
    let within : p + (n - p) ≡ n = omega arith in
    let next : suc p ≡ p + 1 = sym (add-one p) in
    let after : drop (suc p) moved ≡ drop p (take n xs) =
    ap (λ k. drop k moved) next ∙ ap (drop (p + 1)) is ∙ ap (drop (p + 1)) joined
    ∙ ap (λ k. drop k (take (p + 1) xs ++ following)) (sym front)
    ∙ drop-append_seam (take (p + 1) xs) following
    ∙ ap (λ l. take (n - p) (drop p xs) ++ l) (drop_all (p + 1 + (n - p)) xs (omega (arith, past)))
    ∙ append-nil (take (n - p) (drop p xs)) ∙ sym (drop-take p (n - p) xs)
    ∙ ap (λ k. drop p (take k xs)) within in
    set_split moved p x (omega (arith, len)) ∙ ap (λ l. l ++ x ∷ drop (suc p) moved) before
    ∙ ap (λ l. take p (take n xs) ++ x ∷ l) after

-- one overwritten count
pub set_same : (xs : List ℕ) (k x : ℕ) → k < length xs → get_or (set xs k x) k 0 ≡ x
set_same xs k x lt = get_or-set_same xs k x 0 lt

pub set_other : (xs : List ℕ) (k j x : ℕ) → j < k → get_or (set xs k x) j 0 ≡ get_or xs j 0
set_other xs k j x lt = get_or-set_other xs k j x 0 (λ e. absurd (omega arith))

-- one count inserted before another, of 24
module _ (xs : List ℕ) (place x : ℕ) (len : length xs ≡ 24) (within : place < 24) where
  abbrev shorter : List ℕ
  shorter = take (length xs - 1) xs

  short : length shorter ≡ 23
  short = length-take-le (length xs - 1) xs (omega arith) ∙ omega (arith, len)

  pub in_length : length (insert shorter place x) ≡ 24
  in_length = length-insert shorter place x (omega (arith, short)) ∙ omega (arith, short)

  pub in_here : get_or (insert shorter place x) place 0 ≡ x
  in_here = get_or-insert_at shorter place x 0 (omega (arith, short))

  pub in_before : (k : ℕ) → k < place → get_or (insert shorter place x) k 0 ≡ get_or xs k 0
  in_before k lt = get_or-insert_below shorter place x 0 k lt (omega (arith, short))
      ∙ get_or-take (length xs - 1) xs k 0 (omega (arith, len))

  pub in_after : (k : ℕ) → place ≤ k → k < 23
      → get_or (insert shorter place x) (k + 1) 0 ≡ get_or xs k 0
  in_after k le lt = get_or-insert_above shorter place x 0 k le (omega (arith, short))
      ∙ get_or-take (length xs - 1) xs k 0 (omega (arith, len))

-- in all entries from an index on, a count has `new` in place of `old`
pub shifted_row : (xs ys : List ℕ) (from to old new : ℕ) → to ≤ 24 → length xs ≡ 24 → length ys ≡ 24
    → ((j : ℕ) → j < from → get_or ys j 0 ≡ get_or xs j 0)
    → ((j : ℕ) → from ≤ j → j < to → j < 24 → old ≤ get_or xs j 0
    → get_or xs j 0 + new < 2 ^ 32 + old → get_or ys j 0 + old ≡ get_or xs j 0 + new)
    → ((j : ℕ) → from ≤ j → j < to → (old ≤ get_or xs j 0) × (get_or xs j 0 + new < 2 ^ 32 + old))
    → IsShifted xs ys from to old new
shifted_row xs ys from to old new few was is early after has = record {
  len = is ∙ sym was;
  early = early;
  within = λ k le lt. after k le lt (omega arith) (has k le lt).0 (has k le lt).1;
}
