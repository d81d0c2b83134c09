use Rattle.std.proofs.Common.{rules}
use Rattle.ropey_c.proofs.change_status.status_of_change.Goals as goal

pub returns-in-OutOfOrder-clause-value : goal.returns-in-OutOfOrder-clause-value
returns-in-OutOfOrder-clause-value c = search rules
