use Rattle.std.proofs.Common.{length}
use Rattle.rope_io.proofs.Writings.{IsWriting, NoneFailed}
use Rattle.rope_io.proofs.writing.write_bytes.Given as goal

abbrev pub invariant-loop-rest : goal.invariant-loop-rest
invariant-loop-rest g l = record {
  writing : IsWriting (g.S.Sink.contents l.fn.sink) (g.S.Sink.contents l.sink) l.bytes l.rest;
  none_failed : NoneFailed (g.S.Mark.marked l.sink) (g.S.Mark.failure l.sink)
      (g.S.Mark.failures l.fn.sink) (g.S.Mark.failures l.sink);
}

abbrev pub decreases-loop-rest : goal.decreases-loop-rest
decreases-loop-rest g l = length l.rest
