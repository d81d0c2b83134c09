use Rattle.std.proofs.Common.{◌≡◌, ℕ, ◌+◌, ◌-◌, ◌*◌, ◌/◌, ◌<◌, leb, get_or, drop, count_by, refl, ap, sym, ◌∙◌, arith}
use Rattle.std.proofs.lemmas.List.FromFn.{length-range_with_len}
use Rattle.rope_text.specs.Bytes.{begins_char, begins_pair}
use Rattle.rope_text.specs.ByteBreaks.{byte_break_count}
use Rattle.rope_text.specs.Runs.{IsRun, ascii_here, high_of}
use Rattle.rope_text.proofs.LaneSums.{places_are, added, more_sum, same_more, same_multibyte, multibyte_more, ascii_chars, ascii_pairs, ascii_no_multibyte, fours, no_run, same_run, chars_block, pairs_block, breaks_block, multibyte_few, ascii_few}
use Rattle.rope_text.proofs.Marks.{compared_left, none_set, loaded}
use Rattle.rope_text.proofs.lanes.count_run.Goals.{then-lanes-eq0, else-lanes-eq0}
use Rattle.rope_text.proofs.lanes.count_run.Goals as goal

pub loop-i-init : goal.loop-i-init
loop-i-init c = record {
  not_before = omega arith;
  within = omega arith;
  whole = omega arith;
  short = omega arith;
  run = same_run c.args.breaks c.args.bytes.now c.args.from 0 0 _ _ _ _ _ _ (omega arith)
      (omega arith) (no_run c.args.breaks c.args.bytes.now c.args.from);
}

pub overflow_add-multibyte : goal.overflow_add-multibyte
overflow_add-multibyte c =
    omega (
      arith,
      c.loop-i.invariant.run.multibyte,
      c.multibyte_in-multibyte.ensures,
      multibyte_few c.args.breaks c.args.bytes.now c.args.from (c.loop-i.i - c.args.from),
      multibyte_few c.args.breaks c.args.bytes.now c.loop-i.i 64,
    )

pub loop-i-preserved : goal.loop-i-preserved
loop-i-preserved c =
    let s = c.args.bytes.now in
    let b = c.args.breaks in
    let from = c.args.from in
    let l = c.loop-i in
    let go = l.invariant in
    let run = go.run in
    let n : ℕ = l.i - from in
    let most : ℕ = n / 16 in
    let next : l.i ≡ from + n = omega (arith, go.not_before) in
    let fit : most + 4 < 256 = omega (arith, go.whole, go.short, go.within, go.not_before) in
    let ascii =
    more_sum (ascii_here b s) from n l.i most _ next refl
    (c.add_ones-ascii.ensures most _ fit run.ascii) in
    let more : IsRun b s from (n + 64) (most + 4) c.if-lanes-eq0.chars c.if-lanes-eq0.pairs
    c.add_ones-ascii.result c.if-lanes-eq0.multibyte = elim c.if-lanes-eq0.branch [
      | then-lanes-eq0 w ↦
          let long = length-range_with_len l.i 64 in
          let low : high_of s l.i 64 ≡ 0 =
          sym (ap (count_by (λ k. leb 128 (get_or s k 0))) (places_are l.i 64))
          ∙ none_set (omega (arith, long))
          (compared_left leb 128 64 long (loaded s l.i 64 (omega arith))) w.if-lanes-eq0.true in
          record {
            chars = rw w.chars-is (more_sum (λ k. begins_char (get_or s k 0)) from n l.i most 64
                next (sym (ascii_chars s l.i 64 low)) (added most 4 _ 64 _ _ fit run.chars fours));
            pairs = rw w.pairs-is (same_more (λ k. begins_pair (get_or s k 0)) from n l.i most next
                (ascii_pairs s l.i 64 low) run.pairs);
            ascii = ascii;
            multibyte =
                rw w.multibyte-is (same_multibyte b s from n l.i _ next
                (ascii_no_multibyte b s l.i 64 low) run.multibyte);
          }
      | else-lanes-eq0 w ↦ record {
        chars = rw w.chars-is (more_sum (λ k. begins_char (get_or s k 0)) from n l.i most _ next
            refl (w.add_ones-chars.ensures most _ fit run.chars));
        pairs = rw w.pairs-is (more_sum (λ k. begins_pair (get_or s k 0)) from n l.i most _ next
            refl (w.add_ones-pairs.ensures most _ fit run.pairs));
        ascii = ascii;
        multibyte =
            rw w.multibyte-is (multibyte_more b s from n l.i _ _ next
            w.multibyte_in-multibyte.ensures run.multibyte);
      }
    ] in
    record {
      not_before = omega arith;
      within = omega arith;
      whole = omega arith;
      short = omega arith;
      run = same_run b s from (n + 64) (most + 4) _ _ _ _ _ _ (omega (arith, go.not_before))
          (omega (arith, go.not_before)) more;
    }

pub overflow_add-result : goal.overflow_add-result
overflow_add-result c =
    let n : ℕ = c.loop-i.i - c.args.from in
    omega (
      arith,
      c.sum_of-3.ensures,
      c.loop-i.invariant.run.ascii.sum,
      c.loop-i.invariant.run.multibyte,
      ascii_few c.args.breaks c.args.bytes.now c.args.from n,
      multibyte_few c.args.breaks c.args.bytes.now c.args.from n,
    )

pub returns-clause-chars : goal.returns-clause-chars
returns-clause-chars c =
    let s = c.args.bytes.now in
    let n : ℕ = c.loop-i.i - c.args.from in
    let end : c.args.from + n ≡ c.args.from + 64 * c.min-size.result =
    omega (arith, c.loop-i.invariant.within, c.loop-i.invariant.not_before, c.loop-i-test.false) in
    omega (
      arith,
      c.sum_of.ensures,
      c.loop-i.invariant.run.chars.sum,
      chars_block s c.args.from n (omega arith),
      ap (λ k. count_by begins_char (drop k s)) end,
    )

pub returns-clause-pairs : goal.returns-clause-pairs
returns-clause-pairs c =
    let s = c.args.bytes.now in
    let n : ℕ = c.loop-i.i - c.args.from in
    let end : c.args.from + n ≡ c.args.from + 64 * c.min-size.result =
    omega (arith, c.loop-i.invariant.within, c.loop-i.invariant.not_before, c.loop-i-test.false) in
    omega (
      arith,
      c.sum_of-2.ensures,
      c.loop-i.invariant.run.pairs.sum,
      pairs_block s c.args.from n (omega arith),
      ap (λ k. count_by begins_pair (drop k s)) end,
    )

pub returns-clause-break_count : goal.returns-clause-break_count
returns-clause-break_count c =
    let s = c.args.bytes.now in
    let n : ℕ = c.loop-i.i - c.args.from in
    let end : c.args.from + n ≡ c.args.from + 64 * c.min-size.result =
    omega (arith, c.loop-i.invariant.within, c.loop-i.invariant.not_before, c.loop-i-test.false) in
    omega (
      arith,
      c.sum_of-3.ensures,
      c.loop-i.invariant.run.ascii.sum,
      c.loop-i.invariant.run.multibyte,
      breaks_block c.args.breaks s c.args.from n (omega arith),
      ap (λ k. byte_break_count c.args.breaks (drop k s)) end,
    )
