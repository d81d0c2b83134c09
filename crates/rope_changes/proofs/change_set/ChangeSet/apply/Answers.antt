-- Each turn makes one replacement.
use Rattle.std.proofs.Common.{◌≡◌, ℕ, ◌+◌, ◌<◌, ◌≤◌, ◌^◌, List, [], ◌++◌, length, take, drop, ap, sym, ◌∙◌, arith, rules}
use Rattle.std.specs.Str.{chars}
use Rattle.std.specs.List.{replace_range}
use Rattle.std.proofs.lemmas.List.{take-append-drop}
use Rattle.std.proofs.lemmas.Str.{length-le-encodes}
use Rattle.rope_changes.specs.Ops.{Op, run, len_before, len_after}
use Rattle.rope_changes.specs.Change.{Change, keeping, inserting, deleting, ops_of, after}
use Rattle.rope_changes.proofs.Steps.{step_before, step_after}
use Rattle.rope_changes.proofs.Runs.{run_kept}
use Rattle.rope_changes.proofs.Spliced.{spliced_runs, spliced_len}
use Rattle.rope_changes.proofs.change_set.ChangeSet.apply.Goals.{In-Some}
use Rattle.rope_changes.proofs.change_set.ChangeSet.apply.Goals as goal

-- the operations after the replacement
abbrev left_over : In-Some → List Op
left_over c = ops_of c.next.new.self c.args.self.now.rest

abbrev text : In-Some → List ℕ
text c = chars c.in-Some.edit.text.now

-- the operations from the replacement on
abbrev here : In-Some → List Op
here c =
    keeping c.in-Some.edit.kept
    (inserting (text c) (deleting c.in-Some.edit.deleted (left_over c)))

next : (c : In-Some) → ops_of c.loop-edit.edits c.args.self.now.rest ≡ here c
next c = ap (λ es. ops_of es c.args.self.now.rest) c.in-Some.ensures.0

-- the text after is no longer than it may be
bound : (c : In-Some) → c.loop-edit.at
    + (c.in-Some.edit.kept + length (text c) + len_after (left_over c)) < 2 ^ 63
bound c =
    omega (
      arith,
      c.loop-edit.invariant.fits,
      ap len_after (next c),
      step_after c.in-Some.edit.kept (text c) c.in-Some.edit.deleted (left_over c),
      ap (λ (x : Change). after x) c.self.view_is,
      c.self.invariant.after_is,
      c.self.invariant.after_fits,
    )

-- what is left to keep and to delete is in the text
room : (c : In-Some) → c.loop-edit.at
    + (c.in-Some.edit.kept + c.in-Some.edit.deleted + len_before (left_over c))
    ≡ length c.loop-edit.edited.text
room c =
    omega (
      arith,
      c.loop-edit.invariant.within,
      ap len_before (next c),
      step_before c.in-Some.edit.kept (text c) c.in-Some.edit.deleted (left_over c),
    )

pub overflow_add-start : goal.overflow_add-start
overflow_add-start c = omega (arith, bound c)

pub overflow_add-start-in-Some : goal.overflow_add-start-in-Some
overflow_add-start-in-Some c =
    omega (
      arith,
      room (goal.at.overflow_add-start-in-Some c).In-Some,
      c.loop-edit.invariant.kept.content.fits,
      length-le-encodes c.loop-edit.edited.text,
    )

pub splice-requires-clause-within : goal.splice-requires-clause-within
splice-requires-clause-within c =
    omega (arith, room (goal.at.splice-requires-clause-within c).In-Some)

pub overflow_add-at : goal.overflow_add-at
overflow_add-at c = omega (arith, bound (goal.at.overflow_add-at c).In-Some, c.in-Some.ensures.1)

pub loop-edit-preserved : goal.loop-edit-preserved
loop-edit-preserved c =
    let e = (goal.at.loop-edit-preserved c).In-Some in
    let r = c.in-Some.edit in
    let at = c.loop-edit.at in
    let t = c.loop-edit.edited.text in
    let rest = left_over e in
    let fits : at + r.kept + r.deleted ≤ length t = omega (arith, room e) in
    let made = replace_range t (at + r.kept) (at + r.kept + r.deleted) (text e) in
    let is : c.splice.new.rope.text ≡ made = c.in_ok-splice.ensures.ok in
    let counted = c.in-Some.ensures.1 in
    let n_is : at + r.kept + r.inserted ≡ at + r.kept + length (text e) = omega (arith, counted) in
    record {
      text = c.loop-edit.invariant.text ∙ ap (λ o. take at t ++ run o (drop at t)) (next e)
          ∙ spliced_runs r.kept (text e) r.deleted rest t at fits
          ∙ ap (λ n. take n made ++ run rest (drop n made)) (sym n_is)
          ∙ ap
          (λ u. take (at + r.kept + r.inserted) u ++ run rest (drop (at + r.kept + r.inserted) u))
          (sym is);
      within = omega (
        arith,
        ap length is,
        spliced_len r.kept (text e) r.deleted rest t at fits,
        room e,
        counted,
      );
      fits = omega (
        arith,
        counted,
        c.loop-edit.invariant.fits,
        ap len_after (next e),
        step_after r.kept (text e) r.deleted rest,
      );
      breaks = c.splice.ensures.breaks ∙ c.loop-edit.invariant.breaks;
      kept = c.splice.ensures.kept;
    }

pub returns-clause-ok : goal.returns-clause-ok
returns-clause-ok c =
    let rest = c.args.self.now.rest in
    let at = c.loop-edit.at in
    let t = c.loop-edit.edited.text in
    let none : c.loop-edit.edits ≡ [] = c.in_default-next.ensures.0 in
    sym (c.loop-edit.invariant.text
    ∙ ap (λ es. take at t ++ run (ops_of es rest) (drop at t)) none
    ∙ ap (λ u. take at t ++ u) (run_kept rest (drop at t)) ∙ take-append-drop at t)

pub returns-then-is_empty-clause-ok : goal.returns-then-is_empty-clause-ok
returns-then-is_empty-clause-ok c =
    let none : c.args.self.now.edits ≡ [] = search rules in
    sym (ap (λ es. run (ops_of es c.args.self.now.rest) c.args.rope.now.text) none
    ∙ run_kept c.args.self.now.rest c.args.rope.now.text)
