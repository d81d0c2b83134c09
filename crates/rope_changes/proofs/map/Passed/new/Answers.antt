use Rattle.rope_changes.proofs.Passing.{none_passed}
use Rattle.rope_changes.proofs.map.Passed.new.Goals as goal

pub returns-clause-passed : goal.returns-clause-passed
returns-clause-passed c = none_passed
