use Rattle.std.proofs.Common.{◌∙◌, arith}
use Rattle.std.proofs.lemmas.Grind.{common_steps}
use Rattle.rope_files.proofs.ahead.Head.read.Goals as goal

pub loop-count-preserved : goal.loop-count-preserved
loop-count-preserved g c = record {
  given = grind (arith, common_steps);
  room = omega (arith, c.in_ok-count.ensures.bound);
  same = c.in_ok-count.ensures.ok ∙ c.loop-count.invariant.same;
  none_failed = c.in_ok-count.ensures.failures ∙ c.loop-count.invariant.none_failed;
}
