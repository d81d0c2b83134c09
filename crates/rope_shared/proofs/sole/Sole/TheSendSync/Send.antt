-- A `Sole` may go to another thread if its value may.
use denote.RattleType.{RattleType}
use denote.Param.Send.{IsSend}
use Rattle.rope_shared.proofs.Crossing.{sole_send}
use Rattle.rope_shared.specs.contracts.sole.Sole.{the_row}

pub send : (T : RattleType) → IsSend T → IsSend (the_row T)
send T s = sole_send T s
