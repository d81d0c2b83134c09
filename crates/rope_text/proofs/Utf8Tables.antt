-- The faults of two neighbouring bytes, as three tables have them.
use Rattle.std.proofs.Common.{◌≡◌, ℕ, zero, suc, ◌+◌, ◌*◌, ◌/◌, ◌^◌, ◌<◌, ◌≤◌, Bool, true, false, cond, not, eqb, ltb, leb, ◌&&◌, List, [], ◌∷◌, ◌++◌, map, length, get_or, replicate, bit_and, w8, Fits, refl, ap, ap₂, ◌∙◌, arith, ⊎_elim}
use Rattle.std.proofs.lemmas.Bool.{both_ways, and_parts, cases_lt, eqb-true}
use Rattle.std.proofs.lemmas.Bool.Decides.{nat_tests}
use Rattle.std.proofs.lemmas.List.{get_or_append_left}
use Rattle.std.proofs.lemmas.Simd.{swz_l, get_or-swz_l_below, zip2_of_maps}
use lib.Lanes.{Each1, zip2, pick_l}
use Rattle.rope_text.specs.declared.utf8.TheConstants.{OF_LANES, BY_FIRST_HIGH, BY_FIRST_LOW, BY_SECOND_HIGH}
use Rattle.rope_text.specs.Marks.{IsLanes}
use Rattle.rope_text.specs.Utf8.{pair_fault, IsRepeated}

-- ---- lookups lane by lane

swizzled : (t lanes : List ℕ) (g : ℕ → ℕ) (ks : List ℕ) (i : ℕ) → i + length ks ≤ 64
    → ((k : ℕ) → g k < 16) → IsRepeated t lanes
    → swz_l w8 16 lanes i (map g ks) ≡ map (λ k. get_or t (g k) 0) ks
swizzled t lanes g [] i few small repeated = refl
swizzled t lanes g (k ∷ ks) i few small repeated =
    let here = get_or-swz_l_below w8 16 lanes i (g k ∷ map g ks) 0 (omega arith) (small k) in
    let same : i + 0 ≡ i = omega arith in
    ap₂ (λ a b. a ∷ b) (here ∙ ap (λ j. get_or lanes (16 * (j / 16) + g k) 0) same
    ∙ repeated.same i (g k) (omega arith) (small k))
    (swizzled t lanes g ks (suc i) (omega arith) small repeated)

pub looked_up : (t lanes : List ℕ) (ks : List ℕ) (g : ℕ → ℕ) (v : List ℕ) → length ks ≡ 64
    → ((k : ℕ) → g k < 16) → IsRepeated t lanes → IsLanes ks g v
    → IsLanes ks (λ k. get_or t (g k) 0) (swz_l w8 16 lanes 0 v)
looked_up t lanes ks g v long small repeated indices =
    record {
      same = ap (swz_l w8 16 lanes 0) indices.same
          ∙ swizzled t lanes g ks 0 (omega arith) small repeated;
    }

pub each_below : (f : ℕ → ℕ → ℕ) (y : ℕ) (v : List ℕ) (n : ℕ) → ((a : ℕ) → a < 256 → f a y < 16)
    → Each1 (Fits w8) v → Each1 (λ k. k < 16) (zip2 f v (replicate n y))
each_below f y [] n small fits = tt
each_below f y (a ∷ v) zero small fits = tt
each_below f y (a ∷ v) (suc n) small fits = (small a fits.0.fits, each_below f y v n small fits.1)

pub combined : (f : ℕ → ℕ → ℕ) {ks : List ℕ} {g h : ℕ → ℕ} {v w : List ℕ} → IsLanes ks g v
    → IsLanes ks h w → IsLanes ks (λ k. f (g k) (h k)) (zip2 f v w)
combined f {ks} {g} {h} v w = record { same = zip2_of_maps f g h ks v.same w.same }

-- ---- the entries of the tables

below : (ℕ → Bool) → ℕ → Bool
below p zero = true
below p (suc n) = p n && below p n

each : (p : ℕ → Bool) (n : ℕ) → below p n ≡ true → (k : ℕ) → k < n → p k ≡ true
unfolding below
each p zero all k h = absurd (omega arith)
each p (suc n) all k h =
    let both = and_parts (p n) (below p n) all in
    ⊎_elim (λ (less : k < n). each p n both.1 k less)
    (λ (last : n ≤ k). (let same : k ≡ n = omega arith in ap p same ∙ both.0)) (cases_lt k n)

picked : (xs ks : List ℕ) (i : ℕ) → i < length ks
    → get_or (pick_l 0 xs ks) i 0 ≡ get_or xs (get_or ks i 0) 0
picked xs [] i h = absurd (omega arith)
picked xs (k ∷ ks) zero h = refl
picked xs (k ∷ ks) (suc i) h = picked xs ks i (omega arith)

entry : (i j : ℕ) → i < 64 → j < 16 → get_or OF_LANES (16 * (i / 16) + j) 0 ≡ j
unfolding below
entry i j hi hj =
    eqb-true _ _
    (each (λ n. eqb (get_or OF_LANES (16 * (i / 16) + n) 0) n) 16
    (each (λ m. below (λ n. eqb (get_or OF_LANES (16 * (m / 16) + n) 0) n) 16) 64 refl i hi) j hj)

pub spread : (t : List ℕ) → length t ≡ 16 → IsRepeated t (pick_l 0 (t ++ t) OF_LANES)
spread t long =
    record {
      same = λ i j hi hj. picked (t ++ t) OF_LANES (16 * (i / 16) + j) (omega arith)
          ∙ ap (λ k. get_or (t ++ t) k 0) (entry i j hi hj)
          ∙ get_or_append_left t t 0 j (omega arith);
    }

abbrev pub faults_of : ℕ → ℕ → ℕ
faults_of z b =
    bit_and (bit_and (get_or BY_FIRST_HIGH (z / 2 ^ 4) 0) (get_or BY_FIRST_LOW (bit_and z 15) 0))
    (get_or BY_SECOND_HIGH (b / 2 ^ 4) 0)

abbrev wanted : Bool → ℕ
wanted in_long = cond in_long 128 0

abbrev seen : Bool → ℕ → ℕ → Bool
seen in_long z h =
    cond (pair_fault in_long z (h * 16)) (not (eqb (faults_of z (h * 16)) (wanted in_long))) true

all_seen : below (λ z. below (λ h. seen true z h && seen false z h) 16) 256 ≡ true
unfolding below
all_seen = refl

seen_at : (in_long : Bool) (z h : ℕ) → z < 256 → h < 16 → seen in_long z h ≡ true
seen_at in_long z h hz hh = go in_long
  where
    both : (seen true z h && seen false z h) ≡ true
    both = each (λ k. seen true z k && seen false z k) 16
        (each (λ y. below (λ k. seen true y k && seen false y k) 16) 256 all_seen z hz) h hh

    go : (t : Bool) → seen t z h ≡ true
    go true = (and_parts (seen true z h) (seen false z h) both).0
    go false = (and_parts (seen true z h) (seen false z h) both).1

-- only the upper half of the second byte matters
upper_half : (in_long : Bool) (z b : ℕ) → pair_fault in_long z b
    ≡ pair_fault in_long z (b / 16 * 16)
upper_half in_long z b =
    let p : leb 128 b ≡ leb 128 (b / 16 * 16) = grind (arith, nat_tests) in
    let q : ltb b 192 ≡ ltb (b / 16 * 16) 192 = grind (arith, nat_tests) in
    let r : ltb b 160 ≡ ltb (b / 16 * 16) 160 = grind (arith, nat_tests) in
    let s : ltb b 144 ≡ ltb (b / 16 * 16) 144 = grind (arith, nat_tests) in
    let t : leb 160 b ≡ leb 160 (b / 16 * 16) = grind (arith, nat_tests) in
    let u : leb 144 b ≡ leb 144 (b / 16 * 16) = grind (arith, nat_tests) in
    rw (p, q, r, s, t, u) refl

pub no_fault : (in_long : Bool) (z b : ℕ) → z < 256 → b < 256
    → not (eqb (faults_of z b) (cond in_long 128 0)) ≡ false → pair_fault in_long z b ≡ false
no_fault in_long z b hz hb fine =
    let h : ℕ = b / 16 in
    let back : h * 16 / 16 ≡ h = omega arith in
    let same : faults_of z (h * 16) ≡ faults_of z b =
    ap (λ k. bit_and (bit_and (get_or BY_FIRST_HIGH (z / 2 ^ 4) 0)
    (get_or BY_FIRST_LOW (bit_and z 15) 0)) (get_or BY_SECOND_HIGH k 0)) back in
    upper_half in_long z b ∙ go (pair_fault in_long z (h * 16))
    (seen_at in_long z h hz (omega arith)) (ap (λ n. not (eqb n (wanted in_long))) same ∙ fine)
  where
    go : (t : Bool) → cond t (not (eqb (faults_of z (b / 16 * 16)) (wanted in_long))) true ≡ true
        → not (eqb (faults_of z (b / 16 * 16)) (wanted in_long)) ≡ false → t ≡ false
    go true p q = absurd (both_ways _ q p)
    go false p q = refl
