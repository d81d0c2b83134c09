-- Each iteration takes one of the items before the cursor.
use Rattle.std.proofs.Common.{length}
use Rattle.rope_text.specs.Sides.{passed}
use Rattle.rope_bench.proofs.cursors.chunks_back.Given as goal

abbrev pub decreases-loop-chunk : goal.decreases-loop-chunk
decreases-loop-chunk l = length (passed l.chunks)
