use Rattle.std.proofs.Common.{rules}
use Rattle.ropey_c.proofs.positions.answer_place.Goals as goal

pub returns : goal.returns
returns c = search rules
