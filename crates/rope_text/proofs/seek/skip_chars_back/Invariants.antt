use Rattle.std.proofs.Common.{◌≡◌, ◌≤◌, ◌+◌, length, drop, count_by}
use Rattle.rope_text.specs.Bytes.{begins_char}
use Rattle.rope_text.proofs.seek.skip_chars_back.Given as goal

abbrev pub invariant-loop-at : goal.invariant-loop-at
invariant-loop-at l = (l.at ≤ length l.bytes)
    × (l.n + (l.left + count_by begins_char (drop l.at l.bytes)) ≡ count_by begins_char l.bytes)

abbrev pub decreases-loop-at : goal.decreases-loop-at
decreases-loop-at l = l.at
