use Rattle.std.proofs.Common.{◌≡◌, ◌+◌, ◌≤◌, ◌-◌, ◌/◌, ◌^◌, ℕ, refl, arith}
use Rattle.rope_text.specs.declared.lanes.Mark.TheVariants.{Char, Pair, Break}
use Rattle.rope_text.specs.Bits.{ones_below}
use Rattle.rope_text.proofs.Backs.{never, in_block, block_break}
use Rattle.rope_text.proofs.BitLaws.{ones_le, ones_more}
use Rattle.rope_text.proofs.back.back_by_block.Goals as goal

between_few : (mask place len n : ℕ) → place ≤ len → ones_below mask len ≡ ones_below mask place + n
    → n + place ≤ len
between_few mask place len n within between =
    omega (
      arith,
      between,
      within,
      ones_more mask place (len - place) len (omega (arith, within)),
      ones_le (mask / 2 ^ place) (len - place),
    )

pub overflow_add-before : goal.overflow_add-before
overflow_add-before c =
    omega (
      arith,
      c.requires.room.chars,
      c.ones_before.ensures,
      ones_le c.masks_of-masks.result.chars (c.args.back.at - c.saturating_sub-from.result),
    )

pub overflow_add-before-then-back-passed : goal.overflow_add-before-then-back-passed
overflow_add-before-then-back-passed c =
    omega (
      arith,
      c.requires.room.pairs,
      c.ones_before-then-back-passed.ensures,
      ones_le c.masks_of-masks.result.pairs (c.args.back.at - c.saturating_sub-from.result),
    )

pub overflow_add-before-3 : goal.overflow_add-before-3
overflow_add-before-3 c =
    omega (
      arith,
      c.requires.room.chars,
      between_few c.masks_of-masks.result.chars
          c.mark_from_end-place.result (c.args.back.at - c.saturating_sub-from.result) _
          (omega (arith, c.mark_from_end-place.ensures.bound)) c.ones_between.ensures,
    )

pub overflow_add-before-4 : goal.overflow_add-before-4
overflow_add-before-4 c =
    omega (
      arith,
      c.requires.room.pairs,
      between_few c.masks_of-masks.result.pairs
          c.mark_from_end-place.result (c.args.back.at - c.saturating_sub-from.result) _
          (omega (arith, c.mark_from_end-place.ensures.bound)) c.ones_between-2.ensures,
    )

pub returns-then-back-passed-clause-goes : goal.returns-then-back-passed-clause-goes
returns-then-back-passed-clause-goes c =
    let bytes = c.args.bytes.now in
    let at : ℕ = c.saturating_sub-from.result in
    let len : ℕ = c.args.back.at - at in
    let end : c.args.back.at ≡ at + len = omega (arith, c.saturating_sub-from.ensures) in
    let short : len ≤ 32 = omega (arith, c.saturating_sub-from.ensures) in
    let same : at ≡ at + 0 = omega arith in
    let chars =
    in_block Char bytes at len 0 c.masks_of-masks.result.chars c.ones_before.result at
    c.args.back.at c.masks_of-masks.ensures.chars same end (omega arith) short
    (omega (arith, c.ones_before.ensures, ones_le c.masks_of-masks.result.chars 0)) in
    let pairs =
    in_block Pair bytes at len 0 c.masks_of-masks.result.pairs c.ones_before-then-back-passed.result
    at c.args.back.at c.masks_of-masks.ensures.pairs same end (omega arith) short
    (omega (
      arith,
      c.ones_before-then-back-passed.ensures,
      ones_le c.masks_of-masks.result.pairs 0,
    )) in
    let begun =
    in_block (Break c.args.breaks) bytes at len 0 c.masks_of-masks.result.breaks
    c.ones_before-passed.result at c.args.back.at c.masks_of-masks.ensures.breaks same end
    (omega arith) short (omega (
      arith,
      c.ones_before-passed.ensures,
      ones_le c.masks_of-masks.result.breaks 0,
    )) in
    record {
      back = omega (arith, end);
      few_chars =
          omega (arith, end, c.ones_before.ensures, ones_le c.masks_of-masks.result.chars len);
      few_pairs =
          omega (
            arith,
            end,
            c.ones_before-then-back-passed.ensures,
            ones_le c.masks_of-masks.result.pairs len,
          );
      chars = omega (arith, chars);
      pairs = omega (arith, pairs);
      passed = omega (arith, begun, c.if-back-passed.true);
      found = λ e. never e;
    }

pub returns-clause-goes : goal.returns-clause-goes
returns-clause-goes c =
    let bytes = c.args.bytes.now in
    let at : ℕ = c.saturating_sub-from.result in
    let len : ℕ = c.args.back.at - at in
    let place : ℕ = c.mark_from_end-place.result in
    let found = c.mark_from_end-place.ensures in
    let end : c.args.back.at ≡ at + len = omega (arith, c.saturating_sub-from.ensures) in
    let short : len ≤ 32 = omega (arith, c.saturating_sub-from.ensures) in
    let within : place ≤ len = omega (arith, found.bound) in
    let chars =
    in_block Char bytes at len place c.masks_of-masks.result.chars c.ones_between.result
    (at + place) c.args.back.at c.masks_of-masks.ensures.chars refl end within short
    c.ones_between.ensures in
    let pairs =
    in_block Pair bytes at len place c.masks_of-masks.result.pairs c.ones_between-2.result
    (at + place) c.args.back.at c.masks_of-masks.ensures.pairs refl end within short
    c.ones_between-2.ensures in
    let begun =
    in_block (Break c.args.breaks) bytes at len place c.masks_of-masks.result.breaks
    (c.args.back.left + 1) (at + place) c.args.back.at c.masks_of-masks.ensures.breaks refl end
    within short found.before in
    let rest =
    between_few c.masks_of-masks.result.chars place len _ within c.ones_between.ensures in
    let more =
    between_few c.masks_of-masks.result.pairs place len _ within c.ones_between-2.ensures in
    record {
      back = omega (arith, end, within);
      few_chars = omega (arith, end, within, rest);
      few_pairs = omega (arith, end, within, more);
      chars = omega (arith, chars);
      pairs = omega (arith, pairs);
      passed = omega (arith, begun);
      found = λ _. record {
        before = omega (arith, end, found.bound);
        begins = block_break c.args.breaks bytes at place c.masks_of-masks.result.breaks
            c.masks_of-masks.ensures.breaks (omega (arith, found.bound, short))
            (omega (arith, end, found.bound, c.requires.within))
            (omega (arith, found.before, found.with_it));
        all = refl;
      };
    }
