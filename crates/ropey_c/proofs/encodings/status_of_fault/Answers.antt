use Rattle.std.proofs.Common.{rules}
use Rattle.ropey_c.proofs.encodings.status_of_fault.Goals as goal

pub returns-in-HalfCodeUnit-clause-value : goal.returns-in-HalfCodeUnit-clause-value
returns-in-HalfCodeUnit-clause-value c = search rules
