use Rattle.std.proofs.Common.{◌≡◌, ◌+◌, ◌-◌, ◌^◌, None, length}
use Rattle.rope_files.specs.Layouts.{laid_out}
use Rattle.rope_files.proofs.Decodings.{IsReading}
use Rattle.rope_files.proofs.decode.read_layout.Given as goal

abbrev pub invariant-loop-count : goal.invariant-loop-count
invariant-loop-count g l = record {
  reading : IsReading l.layout l.mark (g.S.Source.remaining l.fn.source)
      (g.S.Source.remaining l.source) l.builder.text l.buffer l.filled l.offset
      (g.S.Mark.marked l.source);
  none_failed : g.S.Mark.failures l.source ≡ g.S.Mark.failures l.fn.source;
  fresh : l.builder.failed ≡ None;
  breaks : l.builder.breaks ≡ l.fn.builder.breaks;
}

abbrev pub decreases-loop-count : goal.decreases-loop-count
decreases-loop-count g l = 2 ^ 64 + 4 - (length (laid_out l.layout l.builder.text) + l.filled)
