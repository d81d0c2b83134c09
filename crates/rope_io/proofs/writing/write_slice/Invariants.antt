use Rattle.std.proofs.Common.{length}
use Rattle.rope_text.specs.Sides.{ahead}
use Rattle.rope_slice.specs.Slice.{text_of}
use Rattle.rope_io.proofs.Writings.{IsWritten, NoneFailed}
use Rattle.rope_io.proofs.writing.write_slice.Given as goal

abbrev pub invariant-loop-chunk : goal.invariant-loop-chunk
invariant-loop-chunk g l = record {
  written : IsWritten (g.S.Sink.contents l.fn.sink) (g.S.Sink.contents l.sink) (text_of l.slice)
      (ahead l.chunk-iterator);
  none_failed : NoneFailed (g.S.Mark.marked l.sink) (g.S.Mark.failure l.sink)
      (g.S.Mark.failures l.fn.sink) (g.S.Mark.failures l.sink);
}

abbrev pub decreases-loop-chunk : goal.decreases-loop-chunk
decreases-loop-chunk g l = length (ahead l.chunk-iterator)
