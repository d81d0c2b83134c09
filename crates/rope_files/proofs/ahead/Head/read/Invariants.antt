use Rattle.std.proofs.Common.{◌≡◌, ◌-◌, ◌<◌, take}
use Rattle.std.specs.Io.KnownBytes.{Consumes}
use Rattle.rope_files.proofs.ahead.Head.read.Given as goal

abbrev pub invariant-loop-count : goal.invariant-loop-count
invariant-loop-count g l = record {
  given : Consumes (g.S.Source.remaining l.fn.source) (g.S.Source.remaining l.source)
      (take l.len l.bytes);
  room : l.len < 3;
  same : g.S.Mark.marked l.source ≡ g.S.Mark.marked l.fn.source;
  none_failed : g.S.Mark.failures l.source ≡ g.S.Mark.failures l.fn.source;
}

abbrev pub decreases-loop-count : goal.decreases-loop-count
decreases-loop-count g l = 3 - l.len
