use Rattle.std.proofs.Common.{◌≡◌, ◌≤◌, ◌+◌, ◌-◌, drop, count_by}
use Rattle.rope_text.specs.Bytes.{begins_char, begins_pair}
use Rattle.rope_text.specs.ByteBreaks.{byte_break_count}
use Rattle.rope_text.proofs.lanes.count_blocks.Given as goal

abbrev pub invariant-loop-counts : goal.invariant-loop-counts
invariant-loop-counts l = record {
  within : l.from + l.counts.bytes ≤ l.to;
  chars : count_by begins_char (drop l.from l.bytes)
      ≡ l.counts.chars + count_by begins_char (drop (l.from + l.counts.bytes) l.bytes);
  pairs : count_by begins_pair (drop l.from l.bytes)
      ≡ l.counts.utf16_surrogates + count_by begins_pair (drop (l.from + l.counts.bytes) l.bytes);
  break_count : byte_break_count l.breaks (drop l.from l.bytes)
      ≡ l.counts.break_count + byte_break_count l.breaks (drop (l.from + l.counts.bytes) l.bytes);
}

abbrev pub decreases-loop-counts : goal.decreases-loop-counts
decreases-loop-counts l = (l.to - l.from) - l.counts.bytes
