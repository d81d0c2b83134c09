-- The writes so far and those of the rest are those of all, whatever follows.
use Rattle.std.proofs.Common.{◌++◌, length, take}
use Rattle.rope_slice.proofs.Feeding.{IsFeeding}
use Rattle.rope_slice.proofs.hashing.feed_piece.Given as goal

abbrev pub invariant-loop-rest : goal.invariant-loop-rest
invariant-loop-rest g l =
    IsFeeding g.H.Hasher.write l.fn.state l.state (take l.held l.fn.block ++ l.bytes) l.rest

abbrev pub decreases-loop-rest : goal.decreases-loop-rest
decreases-loop-rest g l = length l.rest
