use Rattle.std.proofs.Common.{◌/◌, ◌^◌, not, cond, eqb, leb, ◌||◌, bit_and, arith}
use Rattle.std.proofs.lemmas.Nat.{and_le_r}
use Rattle.rope_text.proofs.Marks.{compared_both, compared_left, computed, chosen, either, none_set}
use Rattle.rope_text.proofs.Utf8Laws.{is_zero}
use Rattle.rope_text.proofs.Utf8Tables.{each_below, combined, no_fault, faults_of}
use Rattle.rope_text.specs.Utf8.{is_fault}
use Rattle.rope_text.proofs.utf8.has_fault.Goals as goal
use Rattle.rope_text.proofs.LaneSums.{none_of_others}

pub look_up-first_high-requires : goal.look_up-first_high-requires
look_up-first_high-requires c =
    each_below (λ a b. a / 2 ^ b) 4 c.args.z 64 (λ a h. omega arith) c.fits-z.1

pub look_up-first_low-requires : goal.look_up-first_low-requires
look_up-first_low-requires c =
    each_below bit_and 15 c.args.z 64 (λ a h. omega (arith, and_le_r a 15)) c.fits-z.1

pub look_up-second_high-requires : goal.look_up-second_high-requires
look_up-second_high-requires c =
    each_below (λ a b. a / 2 ^ b) 4 c.args.b 64 (λ a h. omega arith) c.fits-b.1

pub returns : goal.returns
returns c = λ ks f g h i long hz hb x y z b fine.
    let high =
    c.look_up-first_high.ensures ks (λ k. h k / 2 ^ 4) long (λ k. omega (arith, hz k))
    (computed (λ p q. p / 2 ^ q) 4 64 long z) in
    let low =
    c.look_up-first_low.ensures ks (λ k. bit_and (h k) 15) long
    (λ k. omega (arith, and_le_r (h k) 15)) (computed bit_and 15 64 long z) in
    let second =
    c.look_up-second_high.ensures ks (λ k. i k / 2 ^ 4) long (λ k. omega (arith, hb k))
    (computed (λ p q. p / 2 ^ q) 4 64 long b) in
    let in_long =
    chosen 128 0 64 long (either (compared_left leb 224 64 long y)
    (compared_left leb 240 64 long x)) in
    let differ =
    compared_both (λ p q. not (eqb p q)) (combined bit_and (combined bit_and high low) second)
    in_long in
    none_of_others (λ k. not (eqb (faults_of (h k) (i k))
    (cond (leb 224 (g k) || leb 240 (f k)) 128 0))) (λ k. is_fault (f k) (g k) (h k) (i k)) ks
    (λ k none. no_fault (leb 224 (g k) || leb 240 (f k)) (h k) (i k) (hz k) (hb k) none)
    (none_set (omega (arith, long)) differ (is_zero _ fine))
