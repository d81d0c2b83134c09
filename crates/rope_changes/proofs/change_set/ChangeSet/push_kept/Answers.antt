use Rattle.std.proofs.Common.{◌+◌, ◌++◌, [], ap, ◌∙◌, arith}
use Rattle.rope_changes.specs.Change.{Change, before, after, ops, keeping}
use Rattle.rope_changes.specs.Normal.{normal_form}
use Rattle.rope_changes.proofs.Appended.{rest_before, before_with_rest, after_with_rest}
use Rattle.rope_changes.proofs.Added.{kept_ops}
use Rattle.rope_changes.proofs.change_set.ChangeSet.push_kept.Goals as goal

pub overflow_add-self : goal.overflow_add-self
overflow_add-self c =
    omega (
      arith,
      rest_before c.self.inside.edits c.self.inside.rest,
      ap (λ (x : Change). before x) c.self.view_is,
    )

pub invariant_of-self : goal.invariant_of-self
invariant_of-self c =
    let edits = c.self.inside.edits in
    let rest = c.self.inside.rest in
    record {
      before_is = omega
          (arith, before_with_rest edits (rest + c.args.count), before_with_rest edits rest);
      after_is = omega
          (arith, after_with_rest edits (rest + c.args.count), after_with_rest edits rest);
      before_fits = omega (arith, ap (λ (x : Change). before x) c.self.view_is);
      after_fits = omega (arith, ap (λ (x : Change). after x) c.self.view_is);
      normal = c.self.invariant.normal;
    }

pub returns : goal.returns
returns c =
    kept_ops
    c.self.inside.edits c.self.inside.rest c.args.count c.self.invariant.normal
    ∙ ap (λ (x : Change). normal_form (ops x ++ keeping c.args.count [])) c.self.view_is
