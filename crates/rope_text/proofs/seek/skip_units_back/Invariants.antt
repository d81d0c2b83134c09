use Rattle.rope_text.specs.Scan.{HasPassed}
use Rattle.rope_text.proofs.seek.skip_units_back.Given as goal

abbrev pub invariant-loop-passed : goal.invariant-loop-passed
invariant-loop-passed l = HasPassed l.bytes l.passed

abbrev pub decreases-loop-passed : goal.decreases-loop-passed
decreases-loop-passed l = l.passed.at
