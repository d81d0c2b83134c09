use Rattle.std.proofs.Common.{◌≡◌, ◌≤◌, ℕ, false, leb, eqb, bit_and, get_or, count_by, ap, sym, ◌∙◌, arith}
use Rattle.std.proofs.lemmas.Bool.Decides.{nat_tests}
use Rattle.std.proofs.lemmas.List.FromFn.{length-range_with_len}
use Rattle.std.proofs.lemmas.Nat.{and_le_l}
use Rattle.std.specs.Int.Count.{ones-ones}
use Rattle.std.specs.List.{range_with_len}
use Rattle.rope_text.specs.Bits.{ones_below}
use Rattle.rope_text.specs.Runs.{high_of}
use Rattle.rope_text.proofs.BitLaws.{all_ones, no_marks}
use Rattle.rope_text.proofs.LaneSums.{places_are, none_in_front, none_of_others, ascii_chars, ascii_pairs, chars_block, pairs_block}
use Rattle.rope_text.proofs.Marks.{compared_left, none_set, loaded}
use Rattle.rope_text.proofs.lanes.masks_of.Goals as goal

not_multibyte : (x y : ℕ) → y ≤ x → leb 128 x ≡ false → eqb y 194 ≡ false
not_multibyte x y below low = grind (arith, nat_tests)

whole : ones_below 4294967295 32 ≡ 32
whole = ones-ones 32

-- in a block of ASCII no byte is above 127
none_high : (c : goal.After-ascii_mask) (n : ℕ) → n ≤ 32
    → count_by (λ k. leb 128 (get_or c.args.bytes.now k 0)) (range_with_len c.args.at n) ≡ 0
none_high c n few =
    let long = length-range_with_len c.args.at 32 in
    none_in_front _ c.args.at n 32 few
    (none_set (omega (arith, long))
    (compared_left leb 128 32 long
    (loaded c.args.bytes.now c.args.at 32 (omega (arith, c.requires)))) c.if-lanes-eq0.true)

low : (c : goal.After-ascii_mask) (n : ℕ) → n ≤ 32 → high_of c.args.bytes.now c.args.at n ≡ 0
low c n few =
    sym (ap (count_by (λ k. leb 128 (get_or c.args.bytes.now k 0))) (places_are c.args.at n))
    ∙ none_high c n few

pub returns-then-lanes-eq0-clause-breaks : goal.returns-then-lanes-eq0-clause-breaks
returns-then-lanes-eq0-clause-breaks c = λ n few.
    let s = c.args.bytes.now in
    c.ascii_mask.ensures n few
    (λ _. none_of_others (λ k. leb 128 (get_or s k 0)) (λ k. eqb (bit_and (get_or s k 0) 223) 194)
    (range_with_len c.args.at n)
    (λ k e. not_multibyte (get_or s k 0) (bit_and (get_or s k 0) 223) (and_le_l (get_or s k 0) 223)
    e) (none_high c n few))

pub returns-then-lanes-eq0-clause-chars : goal.returns-then-lanes-eq0-clause-chars
returns-then-lanes-eq0-clause-chars c = λ n few.
    let s = c.args.bytes.now in
    omega (
      arith,
      chars_block s c.args.at n (omega (arith, c.requires, few)),
      ascii_chars s c.args.at n (low c n few),
      all_ones 4294967295 32 n whole few,
    )

pub returns-then-lanes-eq0-clause-pairs : goal.returns-then-lanes-eq0-clause-pairs
returns-then-lanes-eq0-clause-pairs c = λ n few.
    let s = c.args.bytes.now in
    omega (
      arith,
      pairs_block s c.args.at n (omega (arith, c.requires, few)),
      ascii_pairs s c.args.at n (low c n few),
      no_marks n,
    )
