use Rattle.std.proofs.Common.{◌≡◌, ◌≤◌, ◌+◌, ◌-◌, length, drop, count_by}
use Rattle.rope_text.specs.Bytes.{begins_char}
use Rattle.rope_text.specs.ByteBreaks.{byte_break_count}
use Rattle.rope_text.proofs.seek.skip_known.Given as goal

abbrev pub invariant-loop-end : goal.invariant-loop-end
invariant-loop-end l = record {
  within : l.end ≤ length l.bytes;
  counted : byte_break_count l.breaks l.bytes + l.left
      ≡ l.fn.n + byte_break_count l.breaks (drop l.end l.bytes);
  chars : count_by begins_char l.bytes ≡ l.chars + count_by begins_char (drop l.end l.bytes);
}

abbrev pub decreases-loop-end : goal.decreases-loop-end
decreases-loop-end l = length l.bytes - l.end
