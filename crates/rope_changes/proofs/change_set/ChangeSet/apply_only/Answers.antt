-- The text is changed at the only replacement.
use Rattle.std.proofs.Common.{◌≡◌, ℕ, ◌+◌, ◌≤◌, List, [], ◌++◌, length, take, drop, ap, sym, ◌∙◌, arith, rules, append_assoc}
use Rattle.std.specs.Str.{chars}
use Rattle.std.specs.List.{replace_range}
use Rattle.std.proofs.lemmas.List.{nil_from_length}
use Rattle.rope_changes.specs.Ops.{Op, run, len_before}
use Rattle.rope_changes.specs.Change.{Change, keeping, inserting, deleting, ops_of, ops, before}
use Rattle.rope_changes.proofs.Steps.{step_before}
use Rattle.rope_changes.proofs.Runs.{run_kept}
use Rattle.rope_changes.proofs.Spliced.{step_runs}
use Rattle.rope_changes.proofs.change_set.ChangeSet.apply_only.Goals.{In-Some}
use Rattle.rope_changes.proofs.change_set.ChangeSet.apply_only.Goals as goal

abbrev text : In-Some → List ℕ
text c = chars c.in-Some.edit.text.now

-- the characters kept after the replacement
abbrev rest : In-Some → List Op
rest c = keeping c.args.self.now.rest []

-- the replacement's operations, and then others
abbrev step : In-Some → List Op → List Op
step c after =
    keeping c.in-Some.edit.kept
    (inserting (text c) (deleting c.in-Some.edit.deleted after))

-- the operations are those of the replacement
only : (c : In-Some) → ops c.args.self.now ≡ step c (rest c)
only c =
    let kept = c.args.self.now.rest in
    let same = ap (λ (x : Change). x.edits) c.self.view_is in
    let all = c.read-edits.ensures ∙ same in
    let none : c.next.new.self ≡ [] = nil_from_length c.next.new.self
    (omega (arith, ap length all, ap length c.in-Some.ensures.0, c.requires.only)) in
    sym (ap (λ es. ops_of es kept) all)
    ∙ ap (λ es. ops_of es kept) c.in-Some.ensures.0
    ∙ ap (λ es. step c (ops_of es kept)) none

-- what is kept and deleted is in the text
room : (c : In-Some)
    → c.in-Some.edit.kept + c.in-Some.edit.deleted ≤ length c.args.rope.now.text
room c =
    let r = c.in-Some.edit in
    omega (arith, ap len_before (only c), step_before r.kept (text c) r.deleted (rest c))

-- the text with the range replaced
changed : (c : In-Some) → run (ops c.args.self.now) c.args.rope.now.text
    ≡ replace_range c.args.rope.now.text c.in-Some.edit.kept
    (c.in-Some.edit.kept + c.in-Some.edit.deleted) (text c)
changed c =
    let r = c.in-Some.edit in
    let t = c.args.rope.now.text in
    let end = r.kept + r.deleted in
    ap (λ o. run o t) (only c) ∙ step_runs r.kept (text c) r.deleted (rest c) t
    ∙ ap (λ u. take r.kept t ++ (text c ++ u)) (run_kept c.args.self.now.rest (drop end t))
    ∙ sym (append_assoc (take r.kept t) (text c) (drop end t))

pub overflow_add-end : goal.overflow_add-end
overflow_add-end c =
    omega (
      arith,
      room c,
      ap before c.self.view_is,
      c.self.invariant.before_is,
      c.self.invariant.before_fits,
    )

pub splice-requires-clause-within : goal.splice-requires-clause-within
splice-requires-clause-within c = room (goal.at.splice-requires-clause-within c).In-Some

pub returns-then-start-end-clause-ok : goal.returns-then-start-end-clause-ok
returns-then-start-end-clause-ok c =
    let h = changed (goal.at.returns-then-start-end-clause-ok c).In-Some in
    search rules

pub splice-requires-2-clause-within : goal.splice-requires-2-clause-within
splice-requires-2-clause-within c =
    let h = room (goal.at.splice-requires-2-clause-within c).In-Some in
    let same : c.in-Ok.edited.text ≡ c.args.rope.now.text = search rules in
    omega (arith, h, ap length same)

pub returns-clause-ok : goal.returns-clause-ok
returns-clause-ok c =
    let h = changed (goal.at.returns-clause-ok c).In-Some in
    search rules

pub returns-then-start-end-clause-err : goal.returns-then-start-end-clause-err
returns-then-start-end-clause-err c = search rules
