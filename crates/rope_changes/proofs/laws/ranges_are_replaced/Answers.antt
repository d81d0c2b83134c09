use Rattle.rope_changes.proofs.ReplacedLaws.{replaced_runs}
use Rattle.rope_changes.proofs.laws.ranges_are_replaced.Goals as goal

pub returns : goal.returns
returns c = replaced_runs
