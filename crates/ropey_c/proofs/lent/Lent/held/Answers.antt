use Rattle.std.proofs.Common.{rules}
use Rattle.ropey_c.proofs.lent.Lent.held.Goals as goal

pub returns-clause-found : goal.returns-clause-found
returns-clause-found c = search rules
