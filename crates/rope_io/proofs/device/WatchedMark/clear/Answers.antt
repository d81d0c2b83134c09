use Rattle.std.proofs.Common.{false}
use Rattle.rope_io.proofs.device.WatchedMark.clear.Goals as goal

pub returns : goal.returns
returns g c = λ i. record {
  inner = c.args.self.now.inner;
  failed = false;
  log = record { last = c.record.ensures.last i; count = c.record.ensures.count i };
}
