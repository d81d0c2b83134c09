use Rattle.rope_position.proofs.Columns.{positions_are_fine}
use Rattle.rope_position.proofs.laws.positions_return.Goals as goal

pub returns : goal.returns
returns c = positions_are_fine
