-- A log owns nothing, so threads may share it.
use Rattle.rope_io.specs.contracts.device.failure_log.FailureLog.{the_row}
use Rattle.rope_io.proofs.device.failure_log.FailureLog.TheSendSync.Send.{send}
use denote.Param.Send.{IsSync, part_keyless}

pub sync : IsSync the_row
sync = record { shared = λ d b o κ q. part_keyless the_row send q d b o }
