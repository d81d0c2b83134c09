use Rattle.std.proofs.Common.{◌≡◌, ◌+◌, drop, count_by, ap, arith}
use Rattle.std.proofs.lemmas.List.{length-drop}
use Rattle.rope_text.specs.Bytes.{begins_char, begins_pair}
use Rattle.rope_text.specs.ByteBreaks.{byte_break_count}
use Rattle.rope_text.proofs.Blocks.{no_counts, begins_le, pairs_le, byte_break_count_le}
use Rattle.rope_text.proofs.lanes.count_blocks.Goals as goal

pub loop-counts-init : goal.loop-counts-init
loop-counts-init c =
    let none = no_counts _ c.new-counts.ensures in
    let s = c.args.bytes.now in
    let start : c.args.from + c.new-counts.result.bytes ≡ c.args.from = omega (arith, none.bytes) in
    record {
      within = omega (arith, none.bytes);
      chars = omega (arith, none.chars, ap (λ k. count_by begins_char (drop k s)) start);
      pairs = omega (arith, none.pairs, ap (λ k. count_by begins_pair (drop k s)) start);
      break_count =
          omega (
            arith,
            none.break_count,
            ap (λ k. byte_break_count c.args.breaks (drop k s))
                start,
          );
    }

pub plus-counts-requires : goal.plus-counts-requires
plus-counts-requires c =
    let rest = drop c.args.from c.args.bytes.now in
    let so_far = c.loop-counts.invariant in
    let run = c.count_run.ensures in
    let long = length-drop c.args.from c.args.bytes.now in
    record {
      bytes = omega arith;
      chars = omega (arith, so_far.chars, run.chars, begins_le rest, long);
      pairs = omega (arith, so_far.pairs, run.pairs, pairs_le rest, long);
      breaks = omega (
        arith,
        so_far.break_count,
        run.break_count,
        byte_break_count_le c.args.breaks rest,
        long,
      );
    }

pub overflow_add-counts-then-to-at-ge32-2 : goal.overflow_add-counts-then-to-at-ge32-2
overflow_add-counts-then-to-at-ge32-2 c =
    omega (
      arith,
      c.loop-counts.invariant.break_count,
      c.marks_in-then-to-at-ge32-2.ensures,
      byte_break_count_le c.args.breaks (drop c.args.from c.args.bytes.now),
      length-drop c.args.from c.args.bytes.now,
    )
