-- The writes so far, and those of the held bytes and of the rest, are those of all.
use Rattle.std.proofs.Common.{◌≡◌, ◌<◌, ◌++◌, [], length, take}
use Rattle.std.specs.Str.{encode_utf8_all}
use Rattle.rope_slice.specs.Slice.{text_of}
use Rattle.rope_slice.proofs.Feeding.{IsFeeding}
use Rattle.rope_slice.proofs.hashing.RopeSliceHash.hash.Given as goal

abbrev pub invariant-loop-piece : goal.invariant-loop-piece
invariant-loop-piece g l = record {
  size : length l.block ≡ 256;
  room : l.held < 256;
  some : length l.piece ≡ 0 → l.pieces ≡ [];
  feeding : IsFeeding g.H.Hasher.write l.fn.state l.state (encode_utf8_all (text_of l.self))
      (take l.held l.block ++ (l.piece ++ l.pieces));
}

abbrev pub decreases-loop-piece : goal.decreases-loop-piece
decreases-loop-piece g l = length (l.piece ++ l.pieces)
