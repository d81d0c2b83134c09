use Rattle.std.proofs.Common.{rules}
use Rattle.ropey_c.proofs.compare.ropey_compare.Goals as goal

pub returns-clause-answer : goal.returns-clause-answer
returns-clause-answer c = search rules
