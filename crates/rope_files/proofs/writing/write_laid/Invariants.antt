use Rattle.std.proofs.Common.{length}
use Rattle.rope_text.specs.Sides.{ahead}
use Rattle.rope_io.proofs.Writings.{NoneFailed}
use Rattle.rope_files.proofs.Writings.{IsGathering, CanHave}
use Rattle.rope_files.proofs.writing.write_laid.Given as goal

abbrev pub invariant-loop-c : goal.invariant-loop-c
invariant-loop-c g l = record {
  gathering : IsGathering l.layout (g.S.Sink.contents l.fn.sink)
      (g.S.Sink.contents l.sink) l.mark l.rope.text (ahead l.c-iterator) l.gathered.items;
  can_have : CanHave l.layout (ahead l.c-iterator);
  none_failed : NoneFailed (g.S.Mark.marked l.sink) (g.S.Mark.failure l.sink)
      (g.S.Mark.failures l.fn.sink) (g.S.Mark.failures l.sink);
}

abbrev pub decreases-loop-c : goal.decreases-loop-c
decreases-loop-c g l = length (ahead l.c-iterator)
