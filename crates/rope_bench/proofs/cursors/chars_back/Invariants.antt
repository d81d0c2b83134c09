-- Each iteration takes one of the items before the cursor.
use Rattle.std.proofs.Common.{length}
use Rattle.rope_text.specs.Sides.{passed}
use Rattle.rope_bench.proofs.cursors.chars_back.Given as goal

abbrev pub decreases-loop-c : goal.decreases-loop-c
decreases-loop-c l = length (passed l.chars)
