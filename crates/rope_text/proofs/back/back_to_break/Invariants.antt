use Rattle.std.proofs.Common.{◌≡◌, ◌+◌, ◌<◌, ◌≤◌, false, length}
use Rattle.rope_text.specs.Scan.{GoesBack, back_from}
use Rattle.rope_text.proofs.back.back_to_break.Given as goal

abbrev pub invariant-loop-is_found : goal.invariant-loop-is_found
invariant-loop-is_found l = record {
  goes : GoesBack l.fn.breaks l.bytes (back_from l.fn.end l.fn.skip) l.back l.is_found;
  room : l.is_found ≡ false → 0 < l.back.at → l.back.at + 2 ≤ length l.bytes;
}

abbrev pub decreases-loop-is_found : goal.decreases-loop-is_found
decreases-loop-is_found l = l.back.at
