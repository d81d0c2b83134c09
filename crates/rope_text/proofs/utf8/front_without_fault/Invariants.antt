use Rattle.std.proofs.Common.{◌-◌, ◌≤◌, length}
use Rattle.rope_text.specs.Utf8.{HasNoFault}
use Rattle.rope_text.proofs.utf8.front_without_fault.Given as goal

abbrev pub invariant-loop-at : goal.invariant-loop-at
invariant-loop-at l = (3 ≤ l.at) × (l.at ≤ length l.bytes) × HasNoFault l.bytes l.at

abbrev pub decreases-loop-at : goal.decreases-loop-at
decreases-loop-at l = length l.bytes - l.at
