-- Each iteration takes one of the items ahead.
use Rattle.std.proofs.Common.{length}
use Rattle.rope_text.specs.Sides.{ahead}
use Rattle.rope_bench.proofs.cursors.sum_of_chars.Given as goal

abbrev pub decreases-loop-c : goal.decreases-loop-c
decreases-loop-c l = length (ahead l.c-iterator)
