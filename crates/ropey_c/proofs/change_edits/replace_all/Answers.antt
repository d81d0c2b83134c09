-- Each turn makes one edit.
use Rattle.std.proofs.Common.{◌≡◌, ◌<◌, length, map, ap, sym, refl, ◌∙◌, arith}
use Rattle.std.proofs.lemmas.List.{drop_all, nil_from_length}
use Rattle.rope_changes.specs.Built.{built}
use Rattle.ropey_c.specs.ChangeEdits.{edit_of}
use Rattle.ropey_c.specs.declared.status.TheConstants.{OK}
use Rattle.ropey_c.proofs.EditLists.{given_next, status_next, status_here}
use Rattle.ropey_c.proofs.change_edits.replace_all.Goals as goal

pub loop-edit-preserved : goal.loop-edit-preserved
loop-edit-preserved c =
    let l = c.loop-edit in
    let all = c.args.edits.now in
    let below : l.edit-index < length all = omega arith in
    let done : c.replace-status.result ≡ OK = c.if-status-ne-OK.false in
    let made = rw c.text_of.ensures at (c.replace-status.ensures.ok done) in
    let fine = rw (done, c.text_of.ensures) at c.replace-status.ensures.status in
    record {
      built = l.invariant.built ∙ given_next l.changes all l.edit-index _ below _ made;
      status = λ s rest. l.invariant.status s (status_next l.changes all l.edit-index _ below _ made
          s fine rest);
    }

pub returns-then-status-ne-OK-clause-status : goal.returns-then-status-ne-OK-clause-status
returns-then-status-ne-OK-clause-status c =
    let l = c.loop-edit in
    let all = c.args.edits.now in
    let below : l.edit-index < length all = omega arith in
    let refused = rw c.text_of.ensures at c.replace-status.ensures.status in
    l.invariant.status c.replace-status.result (status_here l.changes all l.edit-index _ below
    c.replace-status.result (omega (arith, c.if-status-ne-OK.true)) refused)

pub returns-then-status-ne-OK-clause-empty : goal.returns-then-status-ne-OK-clause-empty
returns-then-status-ne-OK-clause-empty c = λ none. absurd (omega (arith, none))

pub returns-clause-empty : goal.returns-clause-empty
returns-clause-empty c = λ none.
    let l = c.loop-edit in
    let all = c.args.edits.now in
    let before = ap (λ es. built c.args.changes.now (map edit_of es)) (nil_from_length all none) in
    let after = ap (λ es. built l.changes (map edit_of es))
    (drop_all l.edit-index all c.loop-edit-test.false) in
    (refl, sym (sym before ∙ l.invariant.built ∙ after))
