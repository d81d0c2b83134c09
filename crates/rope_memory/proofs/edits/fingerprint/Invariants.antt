-- Each iteration takes one of the chunks ahead.
use Rattle.std.proofs.Common.{length}
use Rattle.rope_text.specs.Sides.{ahead}
use Rattle.rope_memory.proofs.edits.fingerprint.Given as goal

abbrev pub decreases-loop-chunk : goal.decreases-loop-chunk
decreases-loop-chunk l = length (ahead l.chunk-iterator)
