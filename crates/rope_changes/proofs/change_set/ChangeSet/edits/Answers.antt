use Rattle.std.proofs.Common.{ap, arith}
use Rattle.rope_changes.specs.Ops.{len_before, len_after}
use Rattle.rope_changes.specs.Change.{ops_of}
use Rattle.rope_changes.proofs.Appended.{before_with_rest, after_with_rest}
use Rattle.rope_changes.proofs.change_set.ChangeSet.edits.Goals as goal

pub invariant_of-result : goal.invariant_of-result
invariant_of-result c =
    let edits = c.self.inside.edits in
    record {
      before = omega (
        arith,
        ap (λ es. len_before (ops_of es 0)) c.read.ensures,
        before_with_rest edits c.self.inside.rest,
      );
      after = omega (
        arith,
        ap (λ es. len_after (ops_of es 0)) c.read.ensures,
        after_with_rest edits c.self.inside.rest,
      );
    }
