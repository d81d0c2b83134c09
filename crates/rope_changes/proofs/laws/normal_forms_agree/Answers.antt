use Rattle.rope_changes.proofs.NormalLaws.{normal_runs, normal_before, normal_after, normal_stays}
use Rattle.rope_changes.proofs.OneForm.{operations_tell}
use Rattle.rope_changes.proofs.laws.normal_forms_agree.Goals as goal

pub returns-clause-applies : goal.returns-clause-applies
returns-clause-applies c = normal_runs

pub returns-clause-lengths : goal.returns-clause-lengths
returns-clause-lengths c = λ a. (normal_before a, normal_after a)

pub returns-clause-unique : goal.returns-clause-unique
returns-clause-unique c = λ change normal. normal_stays change.edits change.rest normal

pub returns-clause-operations : goal.returns-clause-operations
returns-clause-operations c = operations_tell
