use Rattle.std.proofs.Common.{◌≡◌, ◌≤◌, ◌+◌, ◌-◌, length, drop, count_by}
use Rattle.rope_text.specs.Bytes.{begins_char}
use Rattle.rope_text.specs.ByteBreaks.{byte_break_count}
use Rattle.rope_text.proofs.seek.line_of_char.Given as goal

abbrev pub invariant-loop-at : goal.invariant-loop-at
invariant-loop-at l =
    (l.at ≤ length l.bytes) × (count_by begins_char l.bytes + l.left
    ≡ l.fn.n + count_by begins_char (drop l.at l.bytes))
    × (byte_break_count l.breaks l.bytes ≡ l.break_count + byte_break_count l.breaks
    (drop l.at l.bytes))

abbrev pub decreases-loop-at : goal.decreases-loop-at
decreases-loop-at l = length l.bytes - l.at
