use Rattle.rope_changes.proofs.MovedLaws.{compose_moves, keep_order, moved_zero}
use Rattle.rope_changes.proofs.NormalMoves.{moves_through_composed}
use Rattle.rope_changes.proofs.laws.indices_move.Goals as goal

pub returns-clause-compose : goal.returns-clause-compose
returns-clause-compose c = compose_moves

pub returns-clause-order : goal.returns-clause-order
returns-clause-order c = keep_order

pub returns-clause-composed : goal.returns-clause-composed
returns-clause-composed c = moves_through_composed

pub returns-clause-start : goal.returns-clause-start
returns-clause-start c = moved_zero
