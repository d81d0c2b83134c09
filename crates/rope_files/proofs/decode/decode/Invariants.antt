use Rattle.std.proofs.Common.{◌-◌, length}
use Rattle.rope_files.specs.Decoding.{IsDecoded}
use Rattle.rope_files.proofs.decode.decode.Given as goal

abbrev pub invariant-loop-at : goal.invariant-loop-at
invariant-loop-at l = IsDecoded l.layout l.bytes l.at l.piece.bytes

abbrev pub decreases-loop-at : goal.decreases-loop-at
decreases-loop-at l = length l.bytes - l.at
