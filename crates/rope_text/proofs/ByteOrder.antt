-- The order of joined bytes, by fronts of one length.
use Rattle.std.proofs.Common.{◌≡◌, ℕ, ◌≤◌, List, [], ◌∷◌, ◌++◌, length, take, drop, refl, sym, ap, ◌∙◌, append_assoc, arith, ◌⊎◌, Ordering, Less, Equal, Greater, true, false, not, ◌==◌}
use Rattle.std.proofs.lemmas.List.{take-append-drop, length-take-le}
use Rattle.std.proofs.lemmas.Bool.Decides.{nat_tests}
use Rattle.std.specs.Cmp.Lexicographic.{slice_cmp}
use Rattle.std.specs.Ordering.{nat_cmp, ordering_then, ordering_index}

then_assoc : (p q r : Ordering) → ordering_then p (ordering_then q r)
    ≡ ordering_then (ordering_then p q) r
then_assoc Less q r = refl
then_assoc Equal q r = refl
then_assoc Greater q r = refl

slice_cmp-append : (xs ys us vs : List ℕ) → length xs ≡ length ys
    → slice_cmp nat_cmp (xs ++ us) (ys ++ vs)
    ≡ ordering_then (slice_cmp nat_cmp xs ys) (slice_cmp nat_cmp us vs)
slice_cmp-append [] [] us vs e = refl
slice_cmp-append [] (y ∷ ys) us vs e = absurd (omega arith)
slice_cmp-append (x ∷ xs) [] us vs e = absurd (omega arith)
slice_cmp-append (x ∷ xs) (y ∷ ys) us vs e =
    ap (ordering_then (nat_cmp x y)) (slice_cmp-append xs ys us vs (omega arith))
    ∙ then_assoc (nat_cmp x y) (slice_cmp nat_cmp xs ys) (slice_cmp nat_cmp us vs)

-- where one of two fronts is empty, and a front is empty only where nothing is left, their lengths
-- decide
pub slice_cmp_ends : (xs ys us vs : List ℕ) → (length xs ≡ 0 → us ≡ []) → (length ys ≡ 0 → vs ≡ [])
    → (length xs ≡ 0) ⊎ (length ys ≡ 0) → nat_cmp (length xs) (length ys)
    ≡ slice_cmp nat_cmp (xs ++ us) (ys ++ vs)
slice_cmp_ends [] [] us vs p q r = let a : us ≡ [] = p refl in let b : vs ≡ [] = q refl in
    rw (a, b) refl
slice_cmp_ends [] (y ∷ ys) us vs p q r = let a : us ≡ [] = p refl in rw a (grind (arith, nat_tests))
slice_cmp_ends (x ∷ xs) [] us vs p q r = let b : vs ≡ [] = q refl in rw b (grind (arith, nat_tests))
slice_cmp_ends (x ∷ xs) (y ∷ ys) us vs p q r = absurd (omega arith)

joined : (x r : List ℕ) (n : ℕ) → x ++ r ≡ take n x ++ (drop n x ++ r)
joined x r n = ap (λ y. y ++ r) (sym (take-append-drop n x)) ∙ append_assoc (take n x) (drop n x) r

split : (x y r s : List ℕ) (n : ℕ) → n ≤ length x → n ≤ length y
    → slice_cmp nat_cmp (x ++ r) (y ++ s) ≡ ordering_then (slice_cmp nat_cmp (take n x) (take n y))
    (slice_cmp nat_cmp (drop n x ++ r) (drop n y ++ s))
split x y r s n h k =
    ap (λ z. slice_cmp nat_cmp z (y ++ s)) (joined x r n)
    ∙ ap (slice_cmp nat_cmp (take n x ++ (drop n x ++ r))) (joined y s n)
    ∙ slice_cmp-append (take n x) (take n y) (drop n x ++ r) (drop n y ++ s) (length-take-le n x h
    ∙ sym (length-take-le n y k))

unequal : (o p : Ordering) → not (ordering_index o == 1) ≡ true → ordering_then o p ≡ o
unequal Less p e = refl
unequal Equal p e = cc
unequal Greater p e = refl

equal : (o p : Ordering) → not (ordering_index o == 1) ≡ false → ordering_then o p ≡ p
equal Less p e = cc
equal Equal p e = refl
equal Greater p e = cc

-- fronts of one length that differ decide
pub decided : (o : Ordering) (x y r s : List ℕ) (n : ℕ) → n ≤ length x → n ≤ length y
    → o ≡ slice_cmp nat_cmp (take n x) (take n y) → not (ordering_index o == 1) ≡ true
    → o ≡ slice_cmp nat_cmp (x ++ r) (y ++ s)
decided o x y r s n h k e d =
    sym (split x y r s n h k
    ∙ ap (λ q. ordering_then q (slice_cmp nat_cmp (drop n x ++ r) (drop n y ++ s))) (sym e)
    ∙ unequal o _ d)

-- if prefixes of one length are equal, the rest decides
pub left_open : (o : Ordering) (x y r s : List ℕ) (n : ℕ) → n ≤ length x → n ≤ length y
    → o ≡ slice_cmp nat_cmp (take n x) (take n y) → not (ordering_index o == 1) ≡ false
    → slice_cmp nat_cmp (drop n x ++ r) (drop n y ++ s) ≡ slice_cmp nat_cmp (x ++ r) (y ++ s)
left_open o x y r s n h k e d =
    sym (split x y r s n h k
    ∙ ap (λ q. ordering_then q (slice_cmp nat_cmp (drop n x ++ r) (drop n y ++ s))) (sym e)
    ∙ equal o _ d)

-- the same bytes tie
pub slice_cmp_same : (xs : List ℕ) → slice_cmp nat_cmp xs xs ≡ Equal
slice_cmp_same [] = refl
slice_cmp_same (x ∷ xs) =
    let tie : nat_cmp x x ≡ Equal = grind (arith, nat_tests) in
    ap (λ o. ordering_then o (slice_cmp nat_cmp xs xs)) tie ∙ slice_cmp_same xs
