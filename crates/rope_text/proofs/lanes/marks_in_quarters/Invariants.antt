use Rattle.std.proofs.Common.{◌≡◌, ◌≤◌, drop, ◌+◌, ◌-◌, ◌*◌, ◌%◌}
use Rattle.rope_text.specs.Marks.{marks}
use Rattle.rope_text.proofs.lanes.marks_in_quarters.Given as goal

abbrev pub invariant-loop-i : goal.invariant-loop-i
invariant-loop-i l =
    (l.i ≤ l.quarter) × (l.i % 32 ≡ 0)
    × (marks l.mark l.bytes ≡ l.first + marks l.mark (drop l.i l.bytes))
    × (marks l.mark (drop l.quarter l.bytes)
    ≡ l.second + marks l.mark (drop (l.quarter + l.i) l.bytes))
    × (marks l.mark (drop (2 * l.quarter) l.bytes)
    ≡ l.third + marks l.mark (drop (2 * l.quarter + l.i) l.bytes))
    × (marks l.mark (drop (3 * l.quarter) l.bytes)
    ≡ l.fourth + marks l.mark (drop (3 * l.quarter + l.i) l.bytes))

abbrev pub decreases-loop-i : goal.decreases-loop-i
decreases-loop-i l = l.quarter - l.i
