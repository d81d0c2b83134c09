use Rattle.std.proofs.Common.{◌-◌, length}
use Rattle.rope_text.specs.Scan.{IsFront}
use Rattle.rope_text.proofs.seek.to_first_break.Given as goal

abbrev pub invariant-loop-at : goal.invariant-loop-at
invariant-loop-at l = IsFront l.breaks l.bytes l.chars l.at l.pairs

abbrev pub decreases-loop-at : goal.decreases-loop-at
decreases-loop-at l = length l.bytes - l.at
