use Rattle.std.proofs.Common.{◌≡◌, ◌≤◌, ◌+◌, ◌-◌, length, drop}
use Rattle.rope_text.specs.Marks.{marks}
use Rattle.rope_text.proofs.seek.find_from.Given as goal

abbrev pub invariant-loop-at : goal.invariant-loop-at
invariant-loop-at l = record {
  not_before : l.from ≤ l.at;
  within : l.at ≤ length l.bytes;
  counted : marks l.mark (drop l.from l.bytes) + l.left ≡ l.fn.n + marks l.mark (drop l.at l.bytes);
}

abbrev pub decreases-loop-at : goal.decreases-loop-at
decreases-loop-at l = length l.bytes - l.at
