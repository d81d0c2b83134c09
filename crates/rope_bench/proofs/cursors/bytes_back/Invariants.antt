-- Each iteration takes one of the items before the cursor.
use Rattle.std.proofs.Common.{length}
use Rattle.rope_text.specs.Sides.{passed}
use Rattle.rope_bench.proofs.cursors.bytes_back.Given as goal

abbrev pub decreases-loop-byte : goal.decreases-loop-byte
decreases-loop-byte l = length (passed l.bytes)
