use Rattle.std.proofs.Common.{◌≤◌}
use Rattle.rope_text.specs.Scan.{GoesBack}
use Rattle.rope_text.proofs.back.back_by_bytes.Given as goal

abbrev pub invariant-loop-is_found : goal.invariant-loop-is_found
invariant-loop-is_found l =
    record {
      goes : GoesBack l.fn.breaks l.bytes l.fn.back l.back l.is_found;
      above : l.fn.to ≤ l.back.at;
    }

abbrev pub decreases-loop-is_found : goal.decreases-loop-is_found
decreases-loop-is_found l = l.back.at
