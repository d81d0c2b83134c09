use Rattle.std.proofs.Common.{◌+◌, ◌++◌, [], ap, ◌∙◌, arith}
use Rattle.std.specs.Str.{chars}
use Rattle.rope_changes.specs.Ops.{len_before, len_after}
use Rattle.rope_changes.specs.Change.{Change, before, after, ops, ops_of, inserting, deleting, AreNormal}
use Rattle.rope_changes.specs.Normal.{normal_form}
use Rattle.rope_changes.proofs.Appended.{appended_before, appended_after, appended_normal, before_with_rest, after_with_rest}
use Rattle.rope_changes.proofs.Lasts.{last_fits}
use Rattle.rope_changes.proofs.Added.{added_ops}
use Rattle.rope_changes.proofs.change_set.ChangeSet.push.Goals as goal

pub add-requires-clause-fits : goal.add-requires-clause-fits
add-requires-clause-fits c =
    let len = ap (λ (x : Change). before x) c.self.view_is in
    let new_len = ap (λ (x : Change). after x) c.self.view_is in
    last_fits c.self.inside.edits c.self.inside.rest _ _
    (omega arith) (omega arith)

pub invariant_of-self-2 : goal.invariant_of-self-2
invariant_of-self-2 c =
    let edits = c.self.inside.edits in
    let rest = c.self.inside.rest in
    let text = chars c.args.text.now in
    let deleted = c.args.deleted in
    record {
      before_is = omega (
        arith,
        ap (λ es. len_before (ops_of es 0)) c.in_ok-add.ensures.ok,
        appended_before edits rest text deleted 0,
        before_with_rest edits (rest + deleted + 0),
        before_with_rest edits rest,
      );
      after_is = omega (
        arith,
        ap (λ es. len_after (ops_of es 0)) c.in_ok-add.ensures.ok,
        appended_after edits rest text deleted 0,
        after_with_rest edits (rest + deleted + 0),
        after_with_rest edits rest,
      );
      before_fits = omega (arith, ap (λ (x : Change). before x) c.self.view_is);
      after_fits = omega (arith, ap (λ (x : Change). after x) c.self.view_is);
      normal = rw c.in_ok-add.ensures.ok
          (appended_normal edits _ text deleted c.self.invariant.normal (omega arith));
    }

pub returns-clause-ok : goal.returns-clause-ok
returns-clause-ok c =
    let edits = c.self.inside.edits in
    let text = chars c.args.text.now in
    let normal : AreNormal _ = appended_normal edits c.self.inside.rest text c.args.deleted
    c.self.invariant.normal (omega arith) in
    ap (λ es. ops_of es 0) c.in_ok-add.ensures.ok
    ∙ added_ops edits c.self.inside.rest text c.args.deleted normal
    ∙ ap (λ (x : Change). normal_form (ops x ++ inserting text (deleting c.args.deleted [])))
    c.self.view_is
