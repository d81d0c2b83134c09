use Rattle.std.proofs.Common.{◌≡◌, ◌≤◌, drop, ◌+◌}
use Rattle.rope_text.specs.Marks.{marks}
use Rattle.rope_text.proofs.lanes.marks_byte_by_byte.Given as goal

abbrev pub invariant-loop-i : goal.invariant-loop-i
invariant-loop-i l = (l.total ≤ l.i)
    × (marks l.mark (drop l.from l.bytes) ≡ l.total + marks l.mark (drop l.i l.bytes))
