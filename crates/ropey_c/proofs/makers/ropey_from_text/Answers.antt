use Rattle.std.proofs.Common.{rules}
use Rattle.ropey_c.proofs.makers.ropey_from_text.Goals as goal

pub returns-clause-ok : goal.returns-clause-ok
returns-clause-ok c = search rules
