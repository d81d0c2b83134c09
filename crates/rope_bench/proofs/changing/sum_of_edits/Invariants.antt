-- Each iteration passes one replacement.
use Rattle.std.proofs.Common.{length}
use Rattle.rope_bench.proofs.changing.sum_of_edits.Given as goal

abbrev pub decreases-loop-edit : goal.decreases-loop-edit
decreases-loop-edit l = length l.edits.edits
