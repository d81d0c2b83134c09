use Rattle.std.proofs.Common.{◌≡◌, ◌≤◌, ◌<◌, ◌+◌, ◌-◌, ◌*◌, ◌%◌, ◌^◌, ℕ, suc, ap, ◌∙◌, arith, bit_and}
use Rattle.std.specs.Int.Count.{count_leading_zeros}
use Rattle.std.proofs.Math.Nat.{mod-le}
use Rattle.std.proofs.lemmas.Nat.{one_shl, and_mask, ones_le_self, leading_top}
use Rattle.rope_text.proofs.BitLaws.{IsLast, last_one}
use Rattle.rope_text.specs.Bits.{ones_below}
use Rattle.rope_text.proofs.bits.last_mark.Goals as goal

top : (mask len word : ℕ) → mask < 2 ^ 64 → word ≡ mask % 2 ^ len → 0 < ones_below mask len
    → (count_leading_zeros 64 word ≤ 63) × IsLast mask len (63 - count_leading_zeros 64 word)
top mask len word fits same some =
    let a : ℕ = mask % 2 ^ len in
    let found =
    leading_top 64 a (omega (arith, some, ones_le_self a))
    (omega (arith, fits, mod-le mask (2 ^ len))) in
    let zeros : count_leading_zeros 64 word + suc found.0 ≡ 64 =
    ap (λ x. count_leading_zeros 64 x + suc found.0) same ∙ found.1 in
    let here : found.0 ≡ 63 - count_leading_zeros 64 word = omega (arith, zeros) in
    (omega (arith, zeros), rw here at (last_one mask len found.0 found.2 found.3))

front_is : (mask n : ℕ) → n ≤ 32 → bit_and mask (1 * 2 ^ n % 18446744073709551616 - 1)
    ≡ mask % 2 ^ n
front_is mask n few = ap (λ x. bit_and mask (x - 1)) (one_shl n 64 (omega arith)) ∙ and_mask mask n

pub overflow_sub-result : goal.overflow_sub-result
overflow_sub-result c =
    (top c.args.mask c.args.len _ c.ranges.mask.fits
    (front_is c.args.mask c.args.len c.requires.len) c.requires.some).0

pub returns : goal.returns
returns c =
    let last =
    (top c.args.mask c.args.len _ c.ranges.mask.fits
    (front_is c.args.mask c.args.len c.requires.len) c.requires.some).1 in
    record { bound = last.bound; before = last.before; with_it = last.with_it }
