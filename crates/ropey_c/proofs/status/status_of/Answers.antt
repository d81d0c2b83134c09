use Rattle.std.proofs.Common.{rules}
use Rattle.ropey_c.proofs.status.status_of.Goals as goal

pub returns-in-TooLong-clause-value : goal.returns-in-TooLong-clause-value
returns-in-TooLong-clause-value c = search rules
