-- A `&Sole` may go to another thread if a `&` to its value may.
use denote.RattleType.{RattleType}
use denote.Param.Send.{IsSync}
use Rattle.rope_shared.proofs.Crossing.{sole_sync}
use Rattle.rope_shared.specs.contracts.sole.Sole.{the_row}

pub sync : (T : RattleType) → IsSync T → IsSync (the_row T)
sync T y = sole_sync T y
