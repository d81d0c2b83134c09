-- Sums in lanes, and the counts of a range of the bytes by those of its halves.
use Rattle.std.proofs.Common.{◌≡◌, ℕ, zero, suc, ◌+◌, ◌-◌, ◌^◌, ◌/◌, ◌%◌, ◌<◌, ◌≤◌, Bool, true, false, cond, ◌&&◌, ◌||◌, eqb, leb, List, [], ◌∷◌, map, length, take, drop, get_or, replicate, count_by, bit_and, count_ones, refl, sym, ap, ◌∙◌, arith, inl, inr}
use Rattle.std.specs.List.{range_with_len}
use Rattle.std.proofs.lemmas.Bool.{both_ways, cases_lt}
use Rattle.std.proofs.lemmas.Bool.Decides.{nat_tests}
use Rattle.std.proofs.lemmas.Simd.{length-zip2, Each1-weaker, Each1-replicate}
use Rattle.std.proofs.Math.Nat.{mod-eq_of_lt}
use Rattle.std.proofs.Math.Path.{subst}
use Rattle.std.proofs.lemmas.List.{take_all}
use Rattle.std.proofs.lemmas.List.FromFn.{length-range_with_len, length-map-range_with_len}
use Rattle.std.proofs.lemmas.List.Sums.{sum_by-cons, count_by-le-length}
use lib.Lanes.{Each1, zip2, sum_l}
use Rattle.rope_text.specs.declared.line_breaks.LineBreaks.{LineBreaks}
use Rattle.rope_text.specs.declared.line_breaks.LineBreaks.TheVariants.{Lf, CrLf, Unicode}
use Rattle.rope_text.specs.declared.lanes.Mark.TheVariants.{Break}
use Rattle.rope_text.specs.Bits.{ones_below}
use Rattle.rope_text.specs.Bytes.{begins_char, begins_pair}
use Rattle.rope_text.specs.ByteBreaks.{break_at, byte_break_count, breaks_at}
use Rattle.rope_text.specs.Marks.{IsLanes, ascii_at, ahead}
use Rattle.rope_text.specs.Runs.{IsSum, IsRun, multibyte_at, ascii_here, multibyte_here, multibyte_begin, places, chars_of, pairs_of, ascii_of, multibyte_of, high_of}
use Rattle.rope_text.proofs.BitLaws.{ones_more, no_marks, one_at_most}
use Rattle.rope_text.proofs.Blocks.{byte_break_count-block, count_by-places}
use Rattle.rope_text.proofs.UnicodeLanes.{no_multibyte_begin}
use Rattle.rope_text.proofs.Marks.{take_range}
use Rattle.std.proofs.lemmas.Nat.{zero_from_ones, shr-shr}

-- ---- indices

pub places_are : (i n : ℕ) → range_with_len i n ≡ places i n
unfolding places
places_are i n = refl

pub length-places : (i n : ℕ) → length (places i n) ≡ n
length-places i n = ap length (sym (places_are i n)) ∙ length-range_with_len i n

range_split : (q : ℕ → Bool) (i m n : ℕ)
    → count_by q (range_with_len i (m + n)) ≡ count_by q (range_with_len i m) + count_by q
    (range_with_len (i + m) n)
range_split q i zero n =
    omega (
      arith,
      ap (λ j. count_by q (range_with_len j n)) (let e : i + 0 ≡ i = omega arith in e),
      ap (λ j. count_by q (range_with_len i j)) (let e : 0 + n ≡ n = omega arith in e),
    )
range_split q i (suc m) n =
    omega (
      arith,
      ap (λ j. count_by q (range_with_len i j)) (let e : suc m + n ≡ suc (m + n) = omega arith in
          e),
      sum_by-cons (λ k. cond (q k) 1 0) i (range_with_len (i + 1) (m + n)),
      sum_by-cons (λ k. cond (q k) 1 0) i (range_with_len (i + 1) m),
      range_split q (i + 1) m n,
      ap (λ j. count_by q (range_with_len j n)) (let e : (i + 1) + m ≡ i + suc m = omega arith in
          e),
    )

-- if the test holds at none of the indices, it holds at none of the first
pub none_in_front : (q : ℕ → Bool) (i n m : ℕ) → n ≤ m → count_by q (range_with_len i m) ≡ 0
    → count_by q (range_with_len i n) ≡ 0
none_in_front q i n m within none =
    let rest : ℕ = m - n in
    omega (
      arith,
      ap (λ k. count_by q (range_with_len i k)) (let all : m ≡ n + rest =
          omega (arith, within) in all),
      range_split q i n rest,
      none,
    )

-- the indices from i on as those of two ranges
pub places_split : (q : ℕ → Bool) (i m n j k : ℕ) → j ≡ i + m → k ≡ m + n
    → count_by q (places i k) ≡ count_by q (places i m) + count_by q (places j n)
unfolding places
places_split q i m n j k next all = ap (λ l. count_by q (range_with_len i l)) all
    ∙ range_split q i m n ∙ ap (λ l. count_by q (range_with_len i m) + count_by q
    (range_with_len l n)) (sym next)

pub places_four : (q : ℕ → Bool) (i total a b c d : ℕ) → a ≡ count_by q (places i 16)
    → b ≡ count_by q (places (i + 16) 16) → c ≡ count_by q (places (i + 32) 16)
    → d ≡ count_by q (places (i + 48) 16)
    → (((total + a) + b) + c) + d ≡ total + count_by q (places i 64)
places_four q i total a b c d first second third fourth =
    omega (
      arith,
      first,
      second,
      third,
      fourth,
      places_split q i 16 48 (i + 16) 64 refl refl,
      places_split q (i + 16) 16 32 (i + 32) 48 (omega arith) refl,
      places_split q (i + 32) 16 16 (i + 48) 32 (omega arith) refl,
    )

pub chars_block : (xs : List ℕ) (i n : ℕ) → i + n ≤ length xs
    → count_by begins_char (drop i xs) ≡ chars_of xs i n + count_by begins_char (drop (i + n) xs)
unfolding places
chars_block xs i n h = count_by-places begins_char xs i n h

pub pairs_block : (xs : List ℕ) (i n : ℕ) → i + n ≤ length xs
    → count_by begins_pair (drop i xs) ≡ pairs_of xs i n + count_by begins_pair (drop (i + n) xs)
unfolding places
pairs_block xs i n h = count_by-places begins_pair xs i n h

-- a break begins with a byte below 128 or with one above
split_at : (b : LineBreaks) (x y z : ℕ) → cond {A = ℕ} (break_at b x y z) 1 0
    ≡ cond (ascii_at b x y) 1 0 + cond (multibyte_at b x y z) 1 0
split_at Lf x y z = omega arith
split_at CrLf x y z = omega arith
split_at Unicode x y z =
    go (ascii_at Unicode x y) (multibyte_at Unicode x y z) (grind (arith, nat_tests))
  where
    go : (s t : Bool) → (s && t) ≡ false → cond {A = ℕ} (s || t) 1 0 ≡ cond s 1 0 + cond t 1 0
    go true true e = absurd (both_ways true e refl)
    go true false e = refl
    go false true e = refl
    go false false e = refl

split_all : (b : LineBreaks) (xs ks : List ℕ)
    → count_by (breaks_at b xs) ks ≡ count_by (ascii_here b xs) ks + count_by (multibyte_here b xs)
    ks
split_all b xs [] = refl
split_all b xs (k ∷ ks) =
    omega (
      arith,
      sum_by-cons (λ j. cond (breaks_at b xs j) 1 0) k ks,
      sum_by-cons (λ j. cond (ascii_here b xs j) 1 0) k ks,
      sum_by-cons (λ j. cond (multibyte_here b xs j) 1 0) k ks,
      split_at b (get_or xs k 0) (get_or xs (k + 1) 0) (get_or xs (k + 2) 0),
      split_all b xs ks,
    )

pub breaks_block : (b : LineBreaks) (xs : List ℕ) (i n : ℕ) → i + n ≤ length xs
    → byte_break_count b (drop i xs) ≡ (ascii_of b xs i n + multibyte_of b xs i n)
    + byte_break_count b (drop (i + n) xs)
unfolding places
breaks_block b xs i n h = byte_break_count-block b xs i n h
    ∙ ap (λ k. k + byte_break_count b (drop (i + n) xs)) (split_all b xs (range_with_len i n))

-- ---- bytes below 128

all_of : (p q : ℕ → Bool) (ks : List ℕ) → ((k : ℕ) → p k ≡ false → q k ≡ true) → count_by p ks ≡ 0
    → count_by q ks ≡ length ks
all_of p q [] same none = refl
all_of p q (k ∷ ks) same none =
    go (p k) refl (sym (sum_by-cons (λ j. cond (p j) 1 0) k ks) ∙ none) (all_of p q ks same)
  where
    go : (t : Bool) → p k ≡ t → cond t 1 0 + count_by p ks ≡ 0
        → (count_by p ks ≡ 0 → count_by q ks ≡ length ks) → count_by q (k ∷ ks) ≡ length (k ∷ ks)
    go true e few rest = absurd (omega (arith, few))
    go false e few rest = sum_by-cons (λ j. cond (q j) 1 0) k ks
        ∙ rw (same k e, rest (omega (arith, few))) (omega arith)

pub none_of_others : (p q : ℕ → Bool) (ks : List ℕ) → ((k : ℕ) → p k ≡ false → q k ≡ false)
    → count_by p ks ≡ 0 → count_by q ks ≡ 0
none_of_others p q [] same none = refl
none_of_others p q (k ∷ ks) same none =
    go (p k) refl (sym (sum_by-cons (λ j. cond (p j) 1 0) k ks) ∙ none) (none_of_others p q ks same)
  where
    go : (t : Bool) → p k ≡ t → cond t 1 0 + count_by p ks ≡ 0
        → (count_by p ks ≡ 0 → count_by q ks ≡ 0) → count_by q (k ∷ ks) ≡ 0
    go true e few rest = absurd (omega (arith, few))
    go false e few rest = sum_by-cons (λ j. cond (q j) 1 0) k ks
        ∙ rw (same k e, rest (omega (arith, few))) refl

low_begins : (x : ℕ) → leb 128 x ≡ false → begins_char x ≡ true
low_begins x h = grind (arith, nat_tests)

low_no_pair : (x : ℕ) → leb 128 x ≡ false → begins_pair x ≡ false
low_no_pair x h = grind (arith, nat_tests)

low_not_multibyte : (b : LineBreaks) (x y z : ℕ) → leb 128 x ≡ false → multibyte_at b x y z ≡ false
low_not_multibyte Lf x y z h = refl
low_not_multibyte CrLf x y z h = refl
low_not_multibyte Unicode x y z h = grind (arith, nat_tests)

pub ascii_chars : (xs : List ℕ) (i n : ℕ) → high_of xs i n ≡ 0 → chars_of xs i n ≡ n
ascii_chars xs i n low =
    all_of (λ k. leb 128 (get_or xs k 0)) (λ k. begins_char (get_or xs k 0)) (places i n)
    (λ k e. low_begins (get_or xs k 0) e) low ∙ length-places i n

pub ascii_pairs : (xs : List ℕ) (i n : ℕ) → high_of xs i n ≡ 0 → pairs_of xs i n ≡ 0
ascii_pairs xs i n low =
    none_of_others (λ k. leb 128 (get_or xs k 0)) (λ k. begins_pair (get_or xs k 0)) (places i n)
    (λ k e. low_no_pair (get_or xs k 0) e) low

pub ascii_no_multibyte : (b : LineBreaks) (xs : List ℕ) (i n : ℕ) → high_of xs i n ≡ 0
    → multibyte_of b xs i n ≡ 0
ascii_no_multibyte b xs i n low =
    none_of_others (λ k. leb 128 (get_or xs k 0)) (multibyte_here b xs) (places i n)
    (λ k e. low_not_multibyte b (get_or xs k 0) (get_or xs (k + 1) 0) (get_or xs (k + 2) 0) e) low

-- ---- lanes

sum_of_marks : (p : ℕ → Bool) (ks : List ℕ) → sum_l (map (λ k. cond (p k) 1 0) ks) ≡ count_by p ks
sum_of_marks p [] = refl
sum_of_marks p (k ∷ ks) = ap (λ n. cond (p k) 1 0 + n) (sum_of_marks p ks)
    ∙ sym (sum_by-cons (λ j. cond (p j) 1 0) k ks)

few_marks : (p : ℕ → Bool) (ks : List ℕ) → Each1 (λ x. x ≤ 1) (map (λ k. cond (p k) 1 0) ks)
few_marks p [] = tt
few_marks p (k ∷ ks) = (one_at_most (p k), few_marks p ks)

-- 1 where the test holds
pub ones_of : (p : ℕ → Bool) {v : List ℕ} (i : ℕ)
    → IsLanes (range_with_len i 16) (λ k. cond (p k) 1 0) v → IsSum 1 (count_by p (places i 16)) v
ones_of p {v} i lanes =
    let ks : List ℕ = range_with_len i 16 in
    record {
      long = ap length lanes.same ∙ length-map-range_with_len (λ k. cond {A = ℕ} (p k) 1 0) i 16;
      few = subst (Each1 (λ x. x ≤ 1)) (sym lanes.same) (few_marks p ks);
      sum = ap sum_l lanes.same ∙ sum_of_marks p ks ∙ ap (count_by p) (places_are i 16);
    }

abbrev wraps : ℕ → ℕ → ℕ
wraps x y = (x + y) % 2 ^ 8

wraps_not : (j k x y : ℕ) → j + k < 256 → x ≤ j → y ≤ k → wraps x y ≡ x + y
wraps_not j k x y fit left right = mod-eq_of_lt (let low : x + y < 2 ^ 8 = omega arith in low)

added_few : (j k : ℕ) (xs ys : List ℕ) → j + k < 256 → Each1 (λ x. x ≤ j) xs → Each1 (λ y. y ≤ k) ys
    → Each1 (λ x. x ≤ j + k) (zip2 wraps xs ys)
added_few j k [] ys fit a b = tt
added_few j k (x ∷ xs) [] fit a b = tt
added_few j k (x ∷ xs) (y ∷ ys) fit a b =
    (omega (arith, wraps_not j k x y fit a.0 b.0, a.0, b.0), added_few j k xs ys fit a.1 b.1)

added_sum : (j k : ℕ) (xs ys : List ℕ) → j + k < 256 → Each1 (λ x. x ≤ j) xs → Each1 (λ y. y ≤ k) ys
    → length xs ≡ length ys → sum_l (zip2 wraps xs ys) ≡ sum_l xs + sum_l ys
added_sum j k [] [] fit a b same = refl
added_sum j k [] (y ∷ ys) fit a b same = absurd (omega (arith, same))
added_sum j k (x ∷ xs) [] fit a b same = absurd (omega (arith, same))
added_sum j k (x ∷ xs) (y ∷ ys) fit a b same =
    omega (
      arith,
      wraps_not j k x y fit a.0 b.0,
      added_sum j k xs ys fit a.1 b.1 (omega (arith, same)),
    )

-- two vectors, lane by lane
pub added : (j k s t : ℕ) (xs ys : List ℕ) → j + k < 256 → IsSum j s xs → IsSum k t ys
    → IsSum (j + k) (s + t) (zip2 (λ x y. (x + y) % 2 ^ 8) xs ys)
added j k s t xs ys fit a b = record {
  long = length-zip2 wraps xs ys (a.long ∙ sym b.long) ∙ a.long;
  few = added_few j k xs ys fit a.few b.few;
  sum = omega (arith, added_sum j k xs ys fit a.few b.few (a.long ∙ sym b.long), a.sum, b.sum);
}

pub same_sum : (j k s t : ℕ) (xs : List ℕ) → j ≡ k → s ≡ t → IsSum j s xs → IsSum k t xs
same_sum j k s t xs most total h =
    subst (λ n. IsSum n t xs) most (subst (λ n. IsSum j n xs) total h)

pub four_more : (q : ℕ → Bool) (i most total : ℕ) {xs : List ℕ}
    → IsSum (((((most + 1) + 1) + 1) + 1))
    ((((total + count_by q (places i 16)) + count_by q (places (i + 16) 16)) + count_by q
    (places (i + 32) 16)) + count_by q (places (i + 48) 16)) xs
    → IsSum (most + 4) (total + count_by q (places i 64)) xs
four_more q i most total {xs} h =
    same_sum _ (most + 4) _ (total + count_by q (places i 64)) xs (omega arith)
    (places_four q i total _ _ _ _ refl refl refl refl) h

-- ---- marks one by one

-- the lowest mark, and those after it
pub record IsLowest (mask k : ℕ) (b : ℕ → Bool) (i n : ℕ) : Type 0 where
  pub inside : k < n
  pub none : count_by b (places i k) ≡ 0
  pub rest : (m : ℕ) → ones_below (mask / 2 ^ k / 2) m
      ≡ count_by b (take m (places (i + (k + 1)) (n - (k + 1))))

split_take : (q : ℕ → Bool) (i a n m : ℕ) → a ≤ n
    → count_by q (take (a + m) (range_with_len i n))
    ≡ count_by q (range_with_len i a) + count_by q (take m (range_with_len (i + a) (n - a)))
split_take q i zero n m h =
    omega (
      arith,
      ap (λ j. count_by q (take j (range_with_len i n))) (let e : zero + m ≡ m =
          omega arith in e),
      ap (λ j. count_by q (take m (range_with_len j n))) (let e : i + 0 ≡ i = omega arith in e),
      ap (λ j. count_by q (take m (range_with_len (i + 0) j))) (let e : n - 0 ≡ n = omega arith in
          e),
    )
split_take q i (suc a) zero m h = absurd (omega (arith, h))
split_take q i (suc a) (suc n) m h =
    omega (
      arith,
      ap (λ j. count_by q (take j (range_with_len i (suc n)))) (let e : suc a + m ≡ suc (a + m) =
          omega arith in e),
      sum_by-cons (λ k. cond (q k) 1 0) i (take (a + m) (range_with_len (i + 1) n)),
      sum_by-cons (λ k. cond (q k) 1 0) i (range_with_len (i + 1) a),
      split_take q (i + 1) a n m (omega (arith, h)),
      ap (λ j. count_by q (take m (range_with_len j (n - a)))) (let e : (i + 1) + a ≡ i + suc a =
          omega arith in e),
      ap (λ j. count_by q (take m (range_with_len (i + suc a) j))) (let e : suc n - suc a ≡ n - a =
          omega arith in e),
    )

-- a number of the first indices, out of more
take_split : (q : ℕ → Bool) (i n k m : ℕ) → k ≤ n
    → count_by q (take (k + m) (places i n))
    ≡ count_by q (places i k) + count_by q (take m (places (i + k) (n - k)))
unfolding places
take_split q i n k m h = split_take q i k n m h

take_front : (q : ℕ → Bool) (i n k : ℕ) → k ≤ n
    → count_by q (take k (places i n)) ≡ count_by q (places i k)
unfolding places
take_front q i n k h = ap (count_by q) (take_range i n k h)

take_past : (q : ℕ → Bool) (i n k : ℕ) → n ≤ k
    → count_by q (take k (places i n)) ≡ count_by q (places i n)
take_past q i n k h =
    ap (count_by q) (take_all k (places i n) (omega (arith, length-places i n, h)))

pub lowest : (mask k : ℕ) (b : ℕ → Bool) (i n : ℕ)
    → ((m : ℕ) → ones_below mask m ≡ count_by b (take m (places i n))) → ones_below mask k ≡ 0
    → 0 < ones_below mask (k + 1) → IsLowest mask k b i n
lowest mask k b i n marked before after = elim (cases_lt k n) [
  | inl inside ↦ record {
    inside = inside;
    none = sym (take_front b i n k (omega (arith, inside))) ∙ sym (marked k) ∙ before;
    rest = λ m.
        omega (
          arith,
          ap (λ x. ones_below x m) (shr-shr mask k 1),
          ones_more mask (k + 1) m ((k + 1) + m) refl,
          marked ((k + 1) + m),
          marked (k + 1),
          take_split b i n (k + 1) m (omega (arith, inside)),
          take_front b i n (k + 1) (omega (arith, inside)),
        );
  }
  | inr past ↦ absurd (omega (
    arith,
    marked k,
    marked (k + 1),
    take_past b i n k past,
    take_past b i n (k + 1) (omega (arith, past)),
    before,
    after,
  ))
]

not_multibyte : (x y z : ℕ) → eqb (bit_and x 223) 194 ≡ false → multibyte_at Unicode x y z ≡ false
not_multibyte x y z off =
    go (eqb x 194) (eqb x 226) (eqb y 133) (eqb y 128 && (eqb z 168 || eqb z 169))
    (no_multibyte_begin x off)
  where
    go : (s t e f : Bool) → (s || t) ≡ false → ((s && e) || (t && f)) ≡ false
    go true t e f h = absurd (both_ways true h refl)
    go false true e f h = absurd (both_ways true h refl)
    go false false e f h = refl

one_place : (q : ℕ → Bool) (i : ℕ) → count_by q (places i 1) ≡ cond (q i) 1 0
unfolding places
one_place q i = omega arith

-- the breaks after the lowest mark, and the one that it may be
pub multibyte_step : (xs : List ℕ) (mask k i n : ℕ) → IsLowest mask k (multibyte_begin xs) i n
    → multibyte_of Unicode xs i n ≡ cond (multibyte_here Unicode xs (i + k)) 1 0 + multibyte_of
    Unicode xs (i + (k + 1)) (n - (k + 1))
multibyte_step xs mask k i n h =
    let q : ℕ → Bool = multibyte_here Unicode xs in
    let none : count_by q (places i k) ≡ 0 =
    none_of_others (multibyte_begin xs) q (places i k)
    (λ j off. not_multibyte (get_or xs j 0) (get_or xs (j + 1) 0) (get_or xs (j + 2) 0) off)
    h.none in
    omega (
      arith,
      none,
      places_split q i k (n - k) (i + k) n refl (omega (arith, h.inside)),
      places_split q (i + k) 1 (n - (k + 1)) (i + (k + 1)) (n - k) (omega arith)
          (omega (arith, h.inside)),
      one_place q (i + k),
    )

pub multibyte_end : (xs : List ℕ) (mask i n : ℕ)
    → ((m : ℕ) → ones_below mask m ≡ count_by (multibyte_begin xs) (take m (places i n)))
    → count_ones mask ≡ 0 → multibyte_of Unicode xs i n ≡ 0
multibyte_end xs mask i n marked none =
    let zero_mask : mask ≡ 0 = zero_from_ones mask none in
    let no : ones_below mask n ≡ 0 = ap (λ x. ones_below x n) zero_mask ∙ no_marks n in
    none_of_others (multibyte_begin xs) (multibyte_here Unicode xs) (places i n)
    (λ j off. not_multibyte (get_or xs j 0) (get_or xs (j + 1) 0) (get_or xs (j + 2) 0) off)
    (sym (take_past (multibyte_begin xs) i n n (omega arith)) ∙ sym (marked n) ∙ no)

pub multibyte_few : (b : LineBreaks) (xs : List ℕ) (i n : ℕ) → multibyte_of b xs i n ≤ n
multibyte_few b xs i n =
    omega (arith, count_by-le-length (multibyte_here b xs) (places i n), length-places i n)

nowhere : (q : ℕ → Bool) (ks : List ℕ) → ((k : ℕ) → q k ≡ false) → count_by q ks ≡ 0
nowhere q [] off = refl
nowhere q (k ∷ ks) off = sum_by-cons (λ j. cond (q j) 1 0) k ks ∙ rw (off k, nowhere q ks off) refl

pub multibyte_none : (b : LineBreaks) (xs : List ℕ) (i n : ℕ) → ahead (Break b) < 2
    → multibyte_of b xs i n ≡ 0
multibyte_none Lf xs i n h = nowhere (multibyte_here Lf xs) (places i n) (λ k. refl)
multibyte_none CrLf xs i n h = nowhere (multibyte_here CrLf xs) (places i n) (λ k. refl)
multibyte_none Unicode xs i n h = absurd (omega (arith, h))

pub is_unicode : (b : LineBreaks) → 2 ≤ ahead (Break b) → b ≡ Unicode
is_unicode Lf h = absurd (omega (arith, h))
is_unicode CrLf h = absurd (omega (arith, h))
is_unicode Unicode h = refl

pub ascii_few : (b : LineBreaks) (xs : List ℕ) (i n : ℕ) → ascii_of b xs i n ≤ n
ascii_few b xs i n =
    omega (arith, count_by-le-length (ascii_here b xs) (places i n), length-places i n)

-- ---- runs

pub more_sum : (q : ℕ → Bool) (from n at most t : ℕ) {xs : List ℕ} → at ≡ from + n
    → t ≡ count_by q (places at 64) → IsSum (most + 4) (count_by q (places from n) + t) xs
    → IsSum (most + 4) (count_by q (places from (n + 64))) xs
more_sum q from n at most t {xs} next more h =
    same_sum (most + 4) (most + 4) _ (count_by q (places from (n + 64))) xs refl
    (omega (arith, more, places_split q from n 64 at (n + 64) next refl)) h

pub same_more : (q : ℕ → Bool) (from n at most : ℕ) {xs : List ℕ} → at ≡ from + n
    → count_by q (places at 64) ≡ 0 → IsSum most (count_by q (places from n)) xs
    → IsSum (most + 4) (count_by q (places from (n + 64))) xs
same_more q from n at most {xs} next none h = record {
  long = h.long;
  few = Each1-weaker (λ x. x ≤ most) (λ x. x ≤ most + 4) (λ x le. omega (arith, le)) xs h.few;
  sum = omega (arith, h.sum, none, places_split q from n 64 at (n + 64) next refl);
}

pub same_multibyte : (b : LineBreaks) (xs : List ℕ) (from n at t : ℕ) → at ≡ from + n
    → multibyte_of b xs at 64 ≡ 0 → t ≡ multibyte_of b xs from n
    → t ≡ multibyte_of b xs from (n + 64)
same_multibyte b xs from n at t next none before =
    omega (arith, none, before, places_split (multibyte_here b xs) from n 64 at (n + 64) next refl)

pub multibyte_more : (b : LineBreaks) (xs : List ℕ) (from n at t u : ℕ) → at ≡ from + n
    → u ≡ multibyte_of b xs at 64 → t ≡ multibyte_of b xs from n
    → t + u ≡ multibyte_of b xs from (n + 64)
multibyte_more b xs from n at t u next more before =
    omega (arith, more, before, places_split (multibyte_here b xs) from n 64 at (n + 64) next refl)

pub same_run : (b : LineBreaks) (xs : List ℕ) (i n most m more : ℕ) (cs ps ns : List ℕ) (w : ℕ)
    → n ≡ m → most ≡ more → IsRun b xs i n most cs ps ns w → IsRun b xs i m more cs ps ns w
same_run b xs i n most m more cs ps ns w wider higher h =
    subst (λ k. IsRun b xs i m k cs ps ns w) higher
    (subst (λ k. IsRun b xs i k most cs ps ns w) wider h)

no_places : (q : ℕ → Bool) (i : ℕ) → 0 ≡ count_by q (places i 0)
unfolding places
no_places q i = refl

pub no_run : (b : LineBreaks) (xs : List ℕ) (i : ℕ)
    → IsRun b xs i 0 0 (replicate 16 0) (replicate 16 0) (replicate 16 0) 0
no_run b xs i = record {
  chars = zeros (λ k. begins_char (get_or xs k 0));
  pairs = zeros (λ k. begins_pair (get_or xs k 0));
  ascii = zeros (ascii_here b xs);
  multibyte = no_places (multibyte_here b xs) i;
}
  where
    zeros : (q : ℕ → Bool) → IsSum 0 (count_by q (places i 0)) (replicate 16 0)
    zeros q = record {
      long = refl;
      few = Each1-replicate (λ x. x ≤ 0) 16 0 (omega arith);
      sum = no_places q i;
    }

pub fours : IsSum 4 64 (replicate 16 4)
fours = record { long = refl; few = Each1-replicate (λ x. x ≤ 4) 16 4 (omega arith); sum = refl }
