use Rattle.rope_changes.proofs.ChangeLaws.{lengths, compose_runs, inverse_runs, converge}
use Rattle.rope_changes.proofs.laws.changes_agree.Goals as goal

pub returns-clause-lengths : goal.returns-clause-lengths
returns-clause-lengths c = lengths

pub returns-clause-compose : goal.returns-clause-compose
returns-clause-compose c = compose_runs

pub returns-clause-inverse : goal.returns-clause-inverse
returns-clause-inverse c = inverse_runs

pub returns-clause-converge : goal.returns-clause-converge
returns-clause-converge c = converge
