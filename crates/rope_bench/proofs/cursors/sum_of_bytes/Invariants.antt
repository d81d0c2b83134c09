-- Each iteration takes one of the items ahead.
use Rattle.std.proofs.Common.{length}
use Rattle.rope_text.specs.Sides.{ahead}
use Rattle.rope_bench.proofs.cursors.sum_of_bytes.Given as goal

abbrev pub decreases-loop-byte : goal.decreases-loop-byte
decreases-loop-byte l = length (ahead l.byte-iterator)
