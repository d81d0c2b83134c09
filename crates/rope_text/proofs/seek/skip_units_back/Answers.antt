use Rattle.std.proofs.Common.{◌≡◌, ℕ, ◌+◌, ◌-◌, ◌≤◌, Bool, List, drop, count_by, ap, arith}
use Rattle.rope_text.specs.Bytes.{begins_char, begins_pair}
use Rattle.rope_text.proofs.Blocks.{count_by-front}
use Rattle.rope_text.proofs.seek.skip_units_back.Goals as goal

-- the count before a position, a block further back
before : (p : ℕ → Bool) (bs : List ℕ) (at block counted : ℕ) → 32 ≤ at
    → count_by p bs ≡ counted + count_by p (drop at bs)
    → count_by p (drop (at - 32) bs) ≡ block + count_by p (drop ((at - 32) + 32) bs)
    → (block ≤ counted) × (count_by p bs ≡ (counted - block) + count_by p (drop (at - 32) bs))
before p bs at block counted some all more =
    let same : (at - 32) + 32 ≡ at = omega arith in
    let rest = ap (λ k. count_by p (drop k bs)) same in
    let few : block ≤ counted = omega (arith, all, more, rest, count_by-front p bs (at - 32)) in
    (few, omega (arith, all, more, rest, few))

pub overflow_sub-passed-in-loop-passed : goal.overflow_sub-passed-in-loop-passed
overflow_sub-passed-in-loop-passed c =
    let s = c.loop-passed in
    (before begins_char c.args.bytes.now s.passed.at c.marks_in.result s.passed.chars
    c.if-passed-lt32.false s.invariant.chars c.marks_in.ensures).0

pub overflow_sub-passed-in-loop-passed-2 : goal.overflow_sub-passed-in-loop-passed-2
overflow_sub-passed-in-loop-passed-2 c =
    let s = c.loop-passed in
    (before begins_pair c.args.bytes.now s.passed.at c.marks_in-in-loop-passed.result s.passed.pairs
    c.if-passed-lt32.false s.invariant.pairs c.marks_in-in-loop-passed.ensures).0

pub loop-passed-preserved : goal.loop-passed-preserved
loop-passed-preserved c =
    let s = c.loop-passed in
    record {
      within = omega (arith, s.invariant.within);
      chars = (before begins_char c.args.bytes.now s.passed.at c.marks_in.result s.passed.chars
          c.if-passed-lt32.false s.invariant.chars c.marks_in.ensures).1;
      pairs = (before begins_pair c.args.bytes.now s.passed.at c.marks_in-in-loop-passed.result
          s.passed.pairs c.if-passed-lt32.false s.invariant.pairs
          c.marks_in-in-loop-passed.ensures).1;
    }
