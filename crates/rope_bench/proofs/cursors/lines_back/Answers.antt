-- `search rules`, which is tried first, fails here after seconds.
use Rattle.std.proofs.Common.{arith}
use Rattle.std.proofs.lemmas.Grind.{common_steps}
use Rattle.rope_bench.proofs.cursors.lines_back.Goals as goal

pub loop-line-smaller : goal.loop-line-smaller
loop-line-smaller c = grind (arith, common_steps)
