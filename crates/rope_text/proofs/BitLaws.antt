-- Set bits of a number, below a bit and from it on.
use Rattle.std.proofs.Common.{◌≡◌, ℕ, zero, suc, inl, inr, ◌+◌, ◌-◌, ◌*◌, ◌/◌, ◌%◌, ◌^◌, ◌≤◌, ◌<◌, Bool, true, false, cond, List, [], ◌∷◌, take, count_ones, refl, sym, ap, ap₂, ◌∙◌, arith, add-one}
use Rattle.std.proofs.Math.Nat.{zero-mul, mod-one, mod-lt, mod-eq_of_lt, div-one, zero-mod, div-div-eq-div-mul, pow-succ'}
use Rattle.std.proofs.Math.Pow.{pow_mono, mod-mod-pow}
use Rattle.std.proofs.lemmas.Bool.{cases_lt}
use Rattle.std.proofs.lemmas.Nat.{ones_le_self, mod-pow-add, pow_pos}
use Rattle.std.specs.Int.Count.{count_trailing_zeros, ones-ones}
use lib.Count.{ones_step, under}
use lib.Lanes.{mask_l}
use Rattle.rope_text.specs.Bits.{ones_below, marks_below}

pub one_at_most : (t : Bool) → cond t 1 0 ≤ 1
one_at_most true = omega arith
one_at_most false = omega arith

no_ones : count_ones 0 ≡ 0
no_ones = omega (arith, ones_le_self 0)

-- the lowest bit, and the others
low_bits : (m k : ℕ) → m % 2 ^ suc k ≡ (m / 2 % 2 ^ k) * 2 + m % 2
low_bits m k = ap (λ j. m % 2 ^ j) (sym (add-one k)) ∙ mod-pow-add m k 1

ones_low : (m k : ℕ) → ones_below m (suc k) ≡ m % 2 + ones_below (m / 2) k
ones_low m k =
    let low = low_bits m k in
    let half : m % 2 ^ suc k / 2 ≡ m / 2 % 2 ^ k = omega (arith, low) in
    let odd : m % 2 ^ suc k % 2 ≡ m % 2 = omega (arith, low) in
    ones_step (m % 2 ^ suc k) ∙ ap₂ (λ a b. a + count_ones b) odd half

pub ones_more : (m a b n : ℕ) → n ≡ a + b
    → ones_below m n ≡ ones_below m a + ones_below (m / 2 ^ a) b
ones_more m zero b n e =
    let same : n ≡ b = omega (arith, e) in
    let none : count_ones (m % 2 ^ 0) ≡ 0 = ap count_ones (mod-one m) ∙ no_ones in
    omega (arith, ap (ones_below m) same, none, ap (λ x. ones_below x b) (div-one m))
ones_more m (suc a) b n e =
    let next : n ≡ suc (a + b) = omega (arith, e) in
    let shift : m / 2 / 2 ^ a ≡ m / 2 ^ suc a = div-div-eq-div-mul m 2 (2 ^ a)
    ∙ ap (λ x. m / x) (sym (pow-succ' 2 a)) in
    omega (
      arith,
      ap (ones_below m) next,
      ones_low m (a + b),
      ones_more (m / 2) a b (a + b) refl,
      ones_low m a,
      ap (λ x. ones_below x b) shift,
    )

pub ones_le : (m n : ℕ) → ones_below m n ≤ n
ones_le m zero = omega (arith, ap count_ones (mod-one m), no_ones)
ones_le m (suc n) = omega (arith, ones_low m n, ones_le (m / 2) n)

-- where each byte of a block has a mark, so have those of its front
pub all_ones : (m n k : ℕ) → ones_below m n ≡ n → k ≤ n → ones_below m k ≡ k
all_ones m n k full within =
    let rest : ℕ = n - k in
    omega (
      arith,
      ones_more m k rest n (omega (arith, within)),
      ones_le m k,
      ones_le (m / 2 ^ k) rest,
      full,
    )

pub no_marks : (n : ℕ) → ones_below 0 n ≡ 0
no_marks n = ap count_ones (zero-mod (2 ^ n)) ∙ no_ones

-- the lowest n bits of a mask are the mask of the first n lanes
pub mask_front : (ms : List Bool) (n : ℕ) → mask_l ms % 2 ^ n ≡ mask_l (take n ms)
mask_front ms zero = mod-one (mask_l ms)
mask_front [] (suc n) = zero-mod (2 ^ suc n)
mask_front (m ∷ ms) (suc n) =
    let bit = one_at_most m in
    let half : mask_l (m ∷ ms) / 2 ≡ mask_l ms = omega (arith, bit) in
    let odd : mask_l (m ∷ ms) % 2 ≡ cond m 1 0 = omega (arith, bit) in
    omega (arith, low_bits (mask_l (m ∷ ms)) n, ap (λ h. h % 2 ^ n) half, odd, mask_front ms n)

-- The mark n of a mask whose marks say where a test holds: the count from its byte on, and that the
-- test holds there. The counts are those from the block on, from the byte on, and from the next
-- byte on.
pub found_mark : (mask n r here there next : ℕ) (t : Bool) → here ≡ ones_below mask r + there
    → here ≡ ones_below mask (r + 1) + next → there ≡ cond t 1 0 + next
    → marks_below mask 0 r ≤ n → n < marks_below mask 0 (r + 1) → (here ≡ n + there) × (t ≡ true)
found_mark mask n r here there next true front more one before after =
    (omega (arith, front, more, one, before, after, no_marks r, no_marks (r + 1)), refl)
found_mark mask n r here there next false front more one before after =
    absurd (omega (arith, front, more, one, before, after, no_marks r, no_marks (r + 1)))

-- the lowest set digit
pub record IsFirst (m k t : ℕ) : Type 0 where
  pub bound : t < k
  pub before : ones_below m t ≡ 0
  pub after : 0 < ones_below m (t + 1)

ones_zero : (m : ℕ) → ones_below m 0 ≡ 0
ones_zero m = omega (arith, ones_le m 0)

no_digit : (m : ℕ) → m % 2 ≡ 0 → ones_below m 1 ≡ 0
no_digit m even = ap count_ones even ∙ no_marks 0

a_digit : (m d : ℕ) → m % 2 ≡ suc d → ones_below m 1 ≡ 1
a_digit m d odd = ap count_ones (let one : m % 2 ≡ 1 = omega arith in one) ∙ ones-ones 1

first_step : (k w m d : ℕ) → m % 2 ≡ d → 0 < ones_below m (suc k)
    → (0 < ones_below (m / 2) k → IsFirst (m / 2) k (count_trailing_zeros w (m / 2)))
    → IsFirst m (suc k) (under d (count_trailing_zeros w (m / 2)))
first_step k w m zero e some rest =
    let low = no_digit m e in
    let half = rest (omega (arith, some, low, ones_more m 1 k (suc k) (omega arith))) in
    let t : ℕ = count_trailing_zeros w (m / 2) in record {
      bound = omega (arith, half.bound);
      before = omega (arith, half.before, low, ones_more m 1 t (suc t) (omega arith));
      after = omega (arith, half.after, low, ones_more m 1 (t + 1) (suc t + 1) (omega arith));
    }
first_step k w m (suc d) e some rest = record {
  bound = omega arith;
  before = ones_zero m;
  after = omega (arith, a_digit m d e);
}

pub first_one : (k w m : ℕ) → k ≤ w → 0 < ones_below m k → IsFirst m k (count_trailing_zeros w m)
unfolding count_trailing_zeros
first_one zero w m few some = absurd (omega (arith, some, ones_zero m))
first_one (suc k) zero m few some = absurd (omega arith)
first_one (suc k) (suc w) m few some =
    first_step k w m (m % 2) refl some (λ more. first_one k w (m / 2) (omega arith) more)

-- where no digit is set, all of them are zeros at the end
pub no_first : (w m : ℕ) → ones_below m w ≡ 0 → count_trailing_zeros w m ≡ w
unfolding count_trailing_zeros
no_first zero m none = refl
no_first (suc w) m none =
    let low : m % 2 ≡ 0 = omega (arith, none, ones_low m w) in
    let rest = no_first w (m / 2) (omega (arith, none, ones_low m w)) in
    ap (λ d. under d (count_trailing_zeros w (m / 2))) low ∙ ap suc rest

-- the lowest set digit is among the first n, if one of these is set
pub first_within : (m k t n : ℕ) → IsFirst m k t → 0 < ones_below m n → t < n
first_within m k t n first some =
    let past : n ≤ t → ⊥ =
    λ above. omega (arith, ones_more m n (t - n) t (omega (arith, above)), first.before, some) in
    omega (arith, past)

-- the highest set digit among the lowest n
pub record IsLast (m n j : ℕ) : Type 0 where
  pub bound : j < n
  pub before : ones_below m n ≡ ones_below m j + 1
  pub with_it : ones_below m n ≡ ones_below m (j + 1)

some_digit : (d : ℕ) → d < 2 → 0 < d → count_ones d ≡ 1
some_digit d few some = ap count_ones (let one : d ≡ 1 = omega arith in one) ∙ ones-ones 1

pub last_one : (m n j : ℕ) → 2 ^ j ≤ m % 2 ^ n → m % 2 ^ n < 2 ^ suc j → IsLast m n j
last_one m n j from to =
    let below : m % 2 ^ n < 2 ^ n = mod-lt m (pow_pos n) in
    let bound : j < n = elim (cases_lt j n) [
      | inl less ↦ less
      | inr past ↦ absurd (omega (arith, below, from, pow_mono past))
    ] in
    let split : n ≡ (n - suc j) + suc j = omega (arith, bound) in
    let front : m % 2 ^ suc j ≡ m % 2 ^ n =
    sym (mod-mod-pow m (n - suc j) (suc j)) ∙ ap (λ k. m % 2 ^ k % 2 ^ suc j) (sym split)
    ∙ mod-eq_of_lt to in
    let d : ℕ = m / 2 ^ j % 2 ^ 1 in
    let digits : m % 2 ^ suc j ≡ d * 2 ^ j + m % 2 ^ j =
    ap (λ k. m % 2 ^ k) (let next : suc j ≡ 1 + j = omega arith in next) ∙ mod-pow-add m 1 j in
    let some : 0 < d = elim (cases_lt 0 d) [
      | inl more ↦ more
      | inr none ↦ absurd (let zero_times : d * 2 ^ j ≡ 0 =
          ap (λ k. k * 2 ^ j) (let no : d ≡ 0 = omega (arith, none) in no) ∙ zero-mul (2 ^ j) in
          omega (arith, mod-lt m (pow_pos j), digits, front, from, zero_times))
    ] in
    let one : ones_below (m / 2 ^ j) 1 ≡ 1 =
    some_digit d (omega (arith, mod-lt (m / 2 ^ j) (pow_pos 1))) some in
    let all : ones_below m (j + 1) ≡ ones_below m n = ap (λ k. count_ones (m % 2 ^ k)) (add-one j)
    ∙ ap count_ones front in record {
      bound = bound;
      before = omega (arith, all, one, ones_more m j 1 (j + 1) refl);
      with_it = sym all;
    }

-- the mark with `left` marks after it among the lowest n
pub mark_back : (m n left r : ℕ) → left < ones_below m n
    → marks_below m 0 r ≤ ones_below m n - 1 - left
    → ones_below m n - 1 - left < marks_below m 0 (r + 1)
    → (r < n) × (ones_below m n ≡ ones_below m r + (left + 1))
    × (ones_below m n ≡ ones_below m (r + 1) + left)
mark_back m n left r some before after =
    let step = ones_more m r 1 (r + 1) refl in
    let most = ones_le (m / 2 ^ r) 1 in
    let bound : r < n = elim (cases_lt r n) [
      | inl less ↦ less
      | inr past ↦ absurd (omega (
        arith,
        ones_more m n (r - n) r (omega (arith, past)),
        before,
        some,
        no_marks r,
      ))
    ] in (
      bound,
      omega (arith, some, before, after, step, most, no_marks r, no_marks (r + 1)),
      omega (arith, some, before, after, step, most, no_marks r, no_marks (r + 1)),
    )
