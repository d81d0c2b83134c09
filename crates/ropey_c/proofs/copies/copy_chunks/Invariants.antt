use Rattle.std.proofs.Common.{length}
use Rattle.rope_text.specs.Sides.{ahead}
use Rattle.rope_slice.specs.Slice.{text_of}
use Rattle.ropey_c.proofs.Copying.{IsCopied}
use Rattle.ropey_c.proofs.copies.copy_chunks.Given as goal

abbrev pub invariant-loop-chunk : goal.invariant-loop-chunk
invariant-loop-chunk l =
    IsCopied l.fn.buffer l.buffer (text_of l.slice) (ahead l.chunk-iterator) l.at

abbrev pub decreases-loop-chunk : goal.decreases-loop-chunk
decreases-loop-chunk l = length (ahead l.chunk-iterator)
