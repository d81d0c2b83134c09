use Rattle.std.proofs.Common.{◌≡◌, ◌+◌, ◌-◌, ◌<◌, ◌≤◌, ℕ, List, length, drop, ap, ◌∙◌, subst, arith}
use Rattle.rope_text.specs.declared.lanes.Mark.TheVariants.{Char, Pair, Break}
use Rattle.rope_text.specs.declared.line_breaks.LineBreaks.{LineBreaks}
use Rattle.rope_text.specs.Bits.{ones_below}
use Rattle.rope_text.specs.ByteBreaks.{byte_break_count, breaks_at}
use Rattle.rope_text.specs.Marks.{IsBlockMask}
use Rattle.rope_text.specs.Scan.{IsFront}
use Rattle.rope_text.proofs.BitLaws.{found_mark, no_marks}
use Rattle.rope_text.proofs.Blocks.{byte_break_count-drop}
use Rattle.rope_text.proofs.seek.to_first_break.Goals as goal

-- the position `to` bytes later in a block, before which no break of the block begins
module _ (breaks : LineBreaks) (bytes : List ℕ) (chars at pairs to : ℕ) where
  front_in_block : (breaks_mask chars_mask pairs_mask more_chars more_pairs : ℕ)
      → IsFront breaks bytes chars at pairs → IsBlockMask (Break breaks) bytes at breaks_mask
      → IsBlockMask Char bytes at chars_mask → IsBlockMask Pair bytes at pairs_mask
      → to ≤ 32 → 34 ≤ length bytes - at → ones_below breaks_mask to ≡ 0
      → more_chars ≡ ones_below chars_mask to → more_pairs ≡ ones_below pairs_mask to
      → IsFront breaks bytes (chars + more_chars) (at + to) (pairs + more_pairs)
  front_in_block b c p m n front begin begun paired few room none more others = record {
    within = omega (arith, few, room);
    none = omega (arith, front.none, begin to few, none);
    chars = omega (arith, front.chars, begun to few, more);
    pairs = omega (arith, front.pairs, paired to few, others);
  }

at_most : (m n : ℕ) → m < n → m ≤ n
at_most m n less = omega arith

is_none : (m n : ℕ) → m ≡ n → m ≤ 0 → n ≡ 0
is_none m n same none = omega arith

pub returns-then-ones_before-gt0-clause-inside : goal.returns-then-ones_before-gt0-clause-inside
returns-then-ones_before-gt0-clause-inside c = λ inside.
    let s = c.args.bytes.now in
    let breaks = c.args.breaks in
    let i : ℕ = c.loop-at.at in
    let mask = c.masks_of-masks in
    let mark = c.first_mark-skip in
    let r : ℕ = mark.result in
    let few : r < 32 =
    mark.ensures.block (omega (arith, c.ones_before.ensures, c.if-ones_before-gt0.true)) in
    let next : i + (r + 1) ≡ (i + r) + 1 = omega arith in
    let more = mask.ensures.breaks (r + 1) (omega (arith, few))
    ∙ ap (λ j. ones_below mask.result.breaks (r + 1) + byte_break_count breaks (drop j s)) next in
    (found_mark mask.result.breaks 0 r _ _ _ (breaks_at breaks s (i + r))
    (mask.ensures.breaks r (omega (arith, few))) more
    (byte_break_count-drop breaks s (i + r) inside)
    (omega (arith, mark.ensures.before, no_marks r))
    (omega (arith, mark.ensures.after (omega (arith, few))))).1

pub returns-then-ones_before-gt0-clause-front : goal.returns-then-ones_before-gt0-clause-front
returns-then-ones_before-gt0-clause-front c =
    let i = c.loop-at in
    let masks = c.masks_of-masks in
    let mark = c.first_mark-skip in
    let some = subst (λ n. 0 < n) c.ones_before.ensures c.if-ones_before-gt0.true in
    front_in_block c.args.breaks c.args.bytes.now i.chars i.at i.pairs mark.result
    masks.result.breaks masks.result.chars masks.result.pairs c.ones_before-chars.result
    c.ones_before-pairs.result i.invariant masks.ensures.breaks masks.ensures.chars
    masks.ensures.pairs (at_most mark.result 32 (mark.ensures.block some)) c.loop-at-test.true
    mark.ensures.before c.ones_before-chars.ensures c.ones_before-pairs.ensures

pub loop-at-preserved : goal.loop-at-preserved
loop-at-preserved c =
    let i = c.loop-at in
    let masks = c.masks_of-masks in
    let none = is_none _ _ c.ones_before.ensures c.if-ones_before-gt0.false in
    front_in_block c.args.breaks c.args.bytes.now i.chars i.at i.pairs 32 masks.result.breaks
    masks.result.chars masks.result.pairs c.ones_before-chars-in-loop-at.result
    c.ones_before-pairs-in-loop-at.result i.invariant masks.ensures.breaks masks.ensures.chars
    masks.ensures.pairs (omega arith) c.loop-at-test.true none
    c.ones_before-chars-in-loop-at.ensures c.ones_before-pairs-in-loop-at.ensures
