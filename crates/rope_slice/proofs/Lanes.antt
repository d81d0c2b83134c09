-- Lanes compared, and the mask of those that differ.
use Rattle.std.proofs.Common.{◌≡◌, ℕ, ◌+◌, ◌-◌, ◌*◌, ◌^◌, ◌%◌, ◌≤◌, Bool, true, false, not, cond, eqb, List, [], ◌∷◌, map, length, get_or, zero, suc, refl, sym, ap, ap₂, ◌∙◌, arith}
use Rattle.std.proofs.lemmas.Bool.{eqb-true, eq-eqb}
use Rattle.std.proofs.lemmas.List.{length-map}
use Rattle.std.proofs.lemmas.Simd.{mask_l-mod, length-zip2, length-chunk, get_or-chunk}
use lib.Bits.{bit_or}
use lib.Lanes.{zip2, mask_l, top, chunk}
use Rattle.rope_slice.specs.Same.{IsSameFrom}

abbrev count : Bool → ℕ
count b = cond b 1 0

-- 255 where two lanes differ
abbrev pub other : ℕ → ℕ → ℕ
other a b = cond (not (eqb a b)) 255 0

two_lanes : (s t : Bool) → count (top 7 (bit_or (cond (not s) 255 0) (cond (not t) 255 0))) ≡ 0
    → (s ≡ true) × (t ≡ true)
two_lanes true true e = (refl, refl)
two_lanes true false e = cc
two_lanes false true e = cc
two_lanes false false e = cc

head_none : (a b : ℕ) → a + 2 * b ≡ 0 → a ≡ 0
head_none a b e = omega (arith, e)

tail_none : (a b : ℕ) → a + 2 * b ≡ 0 → b ≡ 0
tail_none a b e = omega (arith, e)

same_lanes : (x z : ℕ) → count (top 7 (bit_or (other x x) (other z z))) ≡ 0
same_lanes x z = ap (λ s. count (top 7 (bit_or (cond (not s) 255 0) (other z z)))) (eq-eqb x x refl)
    ∙ ap (λ s. count (top 7 (bit_or 0 (cond (not s) 255 0)))) (eq-eqb z z refl)

all_same_both : (xs zs : List ℕ)
    → mask_l (map (top 7) (zip2 bit_or (zip2 other xs xs) (zip2 other zs zs))) ≡ 0
all_same_both [] zs = refl
all_same_both (x ∷ xs) [] = refl
all_same_both (x ∷ xs) (z ∷ zs) = let e = same_lanes x z in let f = all_same_both xs zs in
    omega (arith, e, f)

pub record AreSame (a b c d : List ℕ) : Type 0 where
  pub first : a ≡ b
  pub second : c ≡ d

none_of_both : (a b c d : List ℕ) (n : ℕ) → length a ≡ n → length b ≡ n → length c ≡ n
    → length d ≡ n
    → mask_l (map (top 7) (zip2 bit_or (zip2 other a b) (zip2 other c d))) ≡ 0 → AreSame a b c d
none_of_both [] [] [] [] n e f g h m = record { first = refl; second = refl }
none_of_both (x ∷ xs) (y ∷ ys) (z ∷ zs) (w ∷ ws) zero e f g h m = absurd (omega (arith, e))
none_of_both (x ∷ xs) (y ∷ ys) (z ∷ zs) (w ∷ ws) (suc n) e f g h m =
    let head = two_lanes (eqb x y) (eqb z w) (head_none _ _ m) in
    let rest =
    none_of_both xs ys zs ws n (omega (arith, e)) (omega (arith, f)) (omega (arith, g))
    (omega (arith, h)) (tail_none _ _ m) in
    record {
      first = ap₂ (λ a b. a ∷ b) (eqb-true x y head.0) rest.first;
      second = ap₂ (λ a b. a ∷ b) (eqb-true z w head.1) rest.second;
    }
none_of_both [] [] [] (w ∷ ws) n e f g h m = absurd (omega (arith, g, h))
none_of_both [] [] (z ∷ zs) [] n e f g h m = absurd (omega (arith, g, h))
none_of_both [] [] (z ∷ zs) (w ∷ ws) n e f g h m = absurd (omega (arith, e, h))
none_of_both [] (y ∷ ys) c d n e f g h m = absurd (omega (arith, e, f))
none_of_both (x ∷ xs) [] c d n e f g h m = absurd (omega (arith, e, f))
none_of_both (x ∷ xs) (y ∷ ys) [] d n e f g h m = absurd (omega (arith, e, g))
none_of_both (x ∷ xs) (y ∷ ys) (z ∷ zs) [] n e f g h m = absurd (omega (arith, e, h))

length-both : (a b c d : List ℕ) (n : ℕ) → length a ≡ n → length b ≡ n → length c ≡ n → length d ≡ n
    → length (map (top 7) (zip2 bit_or (zip2 other a b) (zip2 other c d))) ≡ n
length-both a b c d n e f g h =
    let left = length-zip2 other a b (e ∙ sym f) ∙ e in
    let right = length-zip2 other c d (g ∙ sym h) ∙ g in
    length-map (zip2 bit_or (zip2 other a b) (zip2 other c d)) (top 7)
    ∙ length-zip2 bit_or (zip2 other a b) (zip2 other c d) (left ∙ sym right) ∙ left

no_mask : (ms : List Bool) (n : ℕ) → length ms ≡ n → n ≤ 64 → mask_l ms % 2 ^ 64 ≡ 0 → mask_l ms ≡ 0
no_mask ms n long few none = sym (mask_l-mod ms 64 (omega (arith, long, few))) ∙ none

from_chunks : (xs ys : List ℕ) (at n : ℕ) → chunk at n xs ≡ chunk at n ys → IsSameFrom xs ys at n
from_chunks xs ys at n e = record {
  same = λ k from to.
      let place : at + (k - at) ≡ k = omega (arith, from) in
      ap (λ j. get_or xs j 0) (sym place)
      ∙ sym (get_or-chunk at n xs (k - at) 0 (omega (arith, from, to)))
      ∙ ap (λ l. get_or l (k - at) 0) e
      ∙ get_or-chunk at n ys (k - at) 0 (omega (arith, from, to)) ∙ ap (λ j. get_or ys j 0) place;
}

-- if no lane differs in either block, both are equal
module _ (xs ys : List ℕ) (at next n : ℕ) (few : n ≤ 64) where
  abbrev others : List ℕ
  others = zip2 bit_or (zip2 other (chunk at n xs) (chunk at n ys))
      (zip2 other (chunk next n xs) (chunk next n ys))

  both_same : length xs ≡ length ys → at + n ≤ length xs → next + n ≤ length xs
      → mask_l (map (top 7) others) % 2 ^ 64 ≡ 0
      → AreSame (chunk at n xs) (chunk at n ys) (chunk next n xs) (chunk next n ys)
  both_same size x z none =
      let a = length-chunk at n xs x in
      let b = length-chunk at n ys (omega (arith, size, x)) in
      let c = length-chunk next n xs z in
      let d = length-chunk next n ys (omega (arith, size, z)) in
      none_of_both _ _ _ _ n a b c d (no_mask _ n (length-both _ _ _ _ n a b c d) few none)

  pub first_same : length xs ≡ length ys → at + n ≤ length xs → next + n ≤ length xs
      → mask_l (map (top 7) others) % 2 ^ 64 ≡ 0 → IsSameFrom xs ys at n
  first_same size x z none = from_chunks xs ys at n (both_same size x z none).first

  pub second_same : length xs ≡ length ys → at + n ≤ length xs → next + n ≤ length xs
      → mask_l (map (top 7) others) % 2 ^ 64 ≡ 0 → IsSameFrom xs ys next n
  second_same size x z none = from_chunks xs ys next n (both_same size x z none).second

  -- the converse
  pub same_blocks : xs ≡ ys → mask_l (map (top 7) others) % 2 ^ 64 ≡ 0
  same_blocks e =
      ap (λ l. mask_l (map (top 7)
      (zip2 bit_or (zip2 other (chunk at n xs) (chunk at n l))
      (zip2 other (chunk next n xs) (chunk next n l)))) % 2 ^ 64) (sym e)
      ∙ ap (λ m. m % 2 ^ 64) (all_same_both (chunk at n xs) (chunk next n xs))
