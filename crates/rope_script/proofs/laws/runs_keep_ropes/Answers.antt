use Rattle.rope_script.proofs.RunLaws.{runs_keep}
use Rattle.rope_script.proofs.laws.runs_keep_ropes.Goals as goal

pub returns : goal.returns
returns c = runs_keep
