use Rattle.std.proofs.Common.{[], arith}
use Rattle.rope_changes.proofs.Prefixes.{keeping_before, keeping_after}
use Rattle.rope_changes.proofs.change_set.ChangeSet.new.Goals as goal

pub invariant_of-result : goal.invariant_of-result
invariant_of-result c = record {
  before_is = rw c.new.ensures (omega (arith, keeping_before c.args.len []));
  after_is = rw c.new.ensures (omega (arith, keeping_after c.args.len []));
  before_fits = omega arith;
  after_fits = omega arith;
  normal = rw c.new.ensures tt;
}
