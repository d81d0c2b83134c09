-- Each turn makes one edit.
use Rattle.std.proofs.Common.{◌≡◌, ◌<◌, [], length, drop, ap, sym, ◌∙◌, arith, rules}
use Rattle.std.proofs.lemmas.List.{drop_all}
use Rattle.rope_changes.specs.Change.{Change, before}
use Rattle.rope_changes.specs.Built.{unchanged, built, first_error, RefusesOne}
use Rattle.rope_changes.proofs.BuiltLaws.{built_next, error_next, refuse_next, refuse_here}
use Rattle.rope_changes.proofs.Prefixes.{keeping_before}
use Rattle.rope_changes.proofs.change_set.ChangeSet.of_edits.Goals as goal

pub loop-edit-init : goal.loop-edit-init
loop-edit-init c =
    let is = sym c.in_ok-change.ensures.keeps in
    record {
      built = ap (λ (x : Change). built x c.args.edits.now) is;
      error = ap (λ (x : Change). first_error x c.args.edits.now) is;
      refuses = λ e refused. rw is refused;
      len = omega (arith, ap (λ (x : Change). before x) is, keeping_before c.args.len []);
    }

pub loop-edit-preserved : goal.loop-edit-preserved
loop-edit-preserved c =
    let l = c.loop-edit in
    let all = c.args.edits.now in
    let below : l.edit-index < length all = omega arith in
    record {
      built = l.invariant.built
          ∙ built_next l.change all l.edit-index _ below _ c.in_ok-replace.ensures.ok;
      error = l.invariant.error
          ∙ error_next l.change all l.edit-index _ below _ c.in_ok-replace.ensures.ok
          c.in_ok-replace.ensures.valid;
      refuses = λ e refused. l.invariant.refuses e
          (refuse_next l.change all l.edit-index _ below _ c.in_ok-replace.ensures.ok
          c.in_ok-replace.ensures.valid e refused);
      len = c.in_ok-replace.ensures.len_before ∙ l.invariant.len;
    }

pub returns-in_err-replace-clause-error : goal.returns-in_err-replace-clause-error
returns-in_err-replace-clause-error c = λ short.
    let l = c.loop-edit in
    let all = c.args.edits.now in
    let below : l.edit-index < length all = omega arith in
    let error = c.in_err-replace.field-0.0 in
    let is : RefusesOne (unchanged c.args.len) all error = l.invariant.refuses error
    (refuse_here l.change all l.edit-index _ below error c.in_err-replace.ensures.error) in
    search rules

-- no edit is left
none_left : (c : goal.After-loop-edit) → drop c.loop-edit.edit-index c.args.edits.now ≡ []
none_left c = drop_all _ _ c.loop-edit-test.false

pub returns-clause-valid : goal.returns-clause-valid
returns-clause-valid c =
    c.loop-edit.invariant.error ∙ ap (first_error c.loop-edit.change) (none_left c)

pub returns-clause-ok : goal.returns-clause-ok
returns-clause-ok c =
    sym (c.loop-edit.invariant.built ∙ ap (built c.loop-edit.change) (none_left c))
