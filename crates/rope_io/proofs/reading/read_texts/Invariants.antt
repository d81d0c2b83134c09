use Rattle.std.proofs.Common.{◌≡◌, ◌+◌, ◌-◌, ◌^◌}
use Rattle.rope_text.specs.Text.{byte_len}
use Rattle.rope_io.proofs.Readings.{IsReading}
use Rattle.rope_io.proofs.reading.read_texts.Given as goal

abbrev pub invariant-loop-count : goal.invariant-loop-count
invariant-loop-count g l = record {
  reading : IsReading (g.S.Source.remaining l.fn.source) (g.S.Source.remaining l.source)
      l.builder.text l.buffer l.filled (g.S.Mark.marked l.source);
  none_failed : g.S.Mark.failures l.source ≡ g.S.Mark.failures l.fn.source;
  breaks : l.builder.breaks ≡ l.fn.builder.breaks;
}

abbrev pub decreases-loop-count : goal.decreases-loop-count
decreases-loop-count g l = 2 ^ 63 + 1968 - (byte_len l.builder.text + l.filled)
