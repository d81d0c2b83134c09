-- Each iteration takes one of the items ahead.
use Rattle.std.proofs.Common.{length}
use Rattle.rope_text.specs.Sides.{ahead}
use Rattle.rope_bench.proofs.cursors.len_of_chunks.Given as goal

abbrev pub decreases-loop-chunk : goal.decreases-loop-chunk
decreases-loop-chunk l = length (ahead l.chunk-iterator)
