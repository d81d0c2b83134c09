-- Each iteration takes one of the items ahead.
use Rattle.std.proofs.Common.{length}
use Rattle.rope_text.specs.Sides.{ahead}
use Rattle.rope_bench.proofs.cursors.mix_of_lines.Given as goal

abbrev pub decreases-loop-line : goal.decreases-loop-line
decreases-loop-line l = length (ahead l.line-iterator)
