-- Each iteration takes one of the items before the cursor.
use Rattle.std.proofs.Common.{length}
use Rattle.rope_text.specs.Sides.{passed}
use Rattle.rope_bench.proofs.cursors.lines_back.Given as goal

abbrev pub decreases-loop-line : goal.decreases-loop-line
decreases-loop-line l = length (passed l.lines)
