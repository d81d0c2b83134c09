use Rattle.std.proofs.Common.{◌≤◌, ◌<◌, ◌+◌, ◌^◌}
use Rattle.rope_text.specs.Bits.{marks_below}
use Rattle.rope_text.proofs.bits.place_of_mark.Given as goal

abbrev pub invariant-loop-step : goal.invariant-loop-step
invariant-loop-step l =
    (l.step ≤ 5) × (l.place + 2 ^ l.step ≤ 32)
    × (marks_below l.first l.second l.place ≤ l.fn.n)
    × (l.fn.n < marks_below l.first l.second (l.place + 2 ^ l.step))

abbrev pub decreases-loop-step : goal.decreases-loop-step
decreases-loop-step l = l.step
