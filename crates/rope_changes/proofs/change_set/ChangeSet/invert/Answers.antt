-- Each turn inverts one replacement.
use Rattle.std.proofs.Common.{◌≡◌, ℕ, ◌+◌, ◌-◌, ◌<◌, ◌^◌, List, [], ◌∷◌, ◌++◌, length, take, drop, ap, sym, ◌∙◌, arith, append_assoc, append-nil}
use Rattle.std.specs.Str.{chars}
use Rattle.std.proofs.lemmas.List.{drop-drop, length-drop}
use Rattle.rope_changes.specs.Ops.{Op, len_before, len_after}
use Rattle.rope_changes.specs.Change.{Edit, Change, keeping, inserting, deleting, ops_of, before, after}
use Rattle.rope_changes.specs.Inverted.{inverted_edits}
use Rattle.rope_changes.specs.declared.replacements.Replacement.{Replacement}
use Rattle.rope_changes.proofs.Steps.{step_before}
use Rattle.rope_changes.proofs.InvertedLaws.{deleted_len, inverted_before, inverted_after, inverted_normal}
use Rattle.rope_changes.proofs.change_set.ChangeSet.invert.Goals.{In-Some, After-as_str}
use Rattle.rope_changes.proofs.change_set.ChangeSet.invert.Goals as goal

-- the operations after the replacement
abbrev left_over : In-Some → List Op
left_over c = ops_of c.next.new.self c.args.self.now.rest

abbrev text : In-Some → List ℕ
text c = chars c.in-Some.edit.text.now

next : (c : In-Some) → ops_of c.loop-edit.edits c.args.self.now.rest
    ≡ keeping c.in-Some.edit.kept
    (inserting (text c) (deleting c.in-Some.edit.deleted (left_over c)))
next c = ap (λ es. ops_of es c.args.self.now.rest) c.in-Some.ensures.0

-- what is left to keep and to delete is in the text
room : (c : In-Some) → c.loop-edit.at
    + (c.in-Some.edit.kept + c.in-Some.edit.deleted + len_before (left_over c))
    ≡ length c.args.rope.now.text
room c =
    omega (
      arith,
      c.loop-edit.invariant.within,
      ap len_before (next c),
      step_before c.in-Some.edit.kept (text c) c.in-Some.edit.deleted (left_over c),
    )

short : (c : In-Some) → length c.args.rope.now.text < 2 ^ 63
short c = omega arith

pub overflow_add-from : goal.overflow_add-from
overflow_add-from c = omega (arith, room c, short c)

pub overflow_add-at : goal.overflow_add-at
overflow_add-at c =
    let e = (goal.at.overflow_add-at c).In-Some in
    omega (arith, room e, short e)

pub text_of-requires-clause-within : goal.text_of-requires-clause-within
text_of-requires-clause-within c =
    omega (arith, room (goal.at.text_of-requires-clause-within c).In-Some)

-- the characters that a replacement deletes
abbrev deleted_of : Replacement → ℕ → List ℕ → List ℕ
deleted_of r at t = take r.deleted (drop r.kept (drop at t))

abbrev gone : In-Some → List ℕ
gone c = deleted_of c.in-Some.edit c.loop-edit.at c.args.rope.now.text

abbrev made : In-Some → Edit
made c = record { kept = c.in-Some.edit.kept; text = gone c; deleted = length (text c) }

gone_len : (c : In-Some) → length (gone c) ≡ c.in-Some.edit.deleted
gone_len c =
    deleted_len c.in-Some.edit.kept c.in-Some.edit.deleted
    (drop c.loop-edit.at c.args.rope.now.text)
    (omega (arith, room c, length-drop c.loop-edit.at c.args.rope.now.text))

-- the text that was copied is those characters
text_is : (c : After-as_str) → chars c.as_str.result.now
    ≡ deleted_of c.in-Some.edit c.loop-edit.at c.args.rope.now.text
text_is c =
    let old = c.in-Some.edit in
    let at = c.loop-edit.at in
    let t = c.args.rope.now.text in
    let size : at + old.kept + old.deleted - (at + old.kept) ≡ old.deleted = omega arith in
    ap chars c.as_str.ensures.value ∙ c.in_ok-text.ensures.ok
    ∙ ap (λ n. take n (drop (at + old.kept) t)) size
    ∙ ap (take old.deleted) (sym (drop-drop old.kept at t))

pub push-requires : goal.push-requires
push-requires c =
    let e = (goal.at.push-requires c).In-Some in
    record { counted = omega (arith, gone_len e, ap length (text_is c)) }

pub loop-edit-preserved : goal.loop-edit-preserved
loop-edit-preserved c =
    let e = (goal.at.loop-edit-preserved c).In-Some in
    let w = (goal.at.loop-edit-preserved c).After-as_str in
    let old = c.in-Some.edit in
    let at = c.loop-edit.at in
    let t = c.args.rope.now.text in
    let done = c.loop-edit.inverse in
    let pushed : Edit = record {
      kept = old.kept;
      text = chars c.as_str.result.now;
      deleted = old.inserted;
    } in
    let is : c.push.new.self ≡ done ++ pushed ∷ [] = c.in_ok-push.ensures.ok in
    let edit_is : pushed ≡ made e =
    ap (λ x. let y : Edit = record { kept = old.kept; text = x; deleted = old.inserted } in y)
    (text_is w)
    ∙ ap (λ n. let y : Edit = record { kept = old.kept; text = gone e; deleted = n } in y)
    c.in-Some.ensures.1 in
    let later = inverted_edits c.next.new.self (drop (old.kept + old.deleted) (drop at t)) in
    let on : at + (old.kept + old.deleted) ≡ at + old.kept + old.deleted = omega arith in
    record {
      made = c.loop-edit.invariant.made
          ∙ ap (λ es. done ++ inverted_edits es (drop at t)) c.in-Some.ensures.0
          ∙ sym (append_assoc done (made e ∷ []) later)
          ∙ ap (λ u. u ++ later) (ap (λ x. done ++ x ∷ []) (sym edit_is) ∙ sym is)
          ∙ ap (λ u. c.push.new.self ++ inverted_edits c.next.new.self u)
          (drop-drop (old.kept + old.deleted) at t ∙ ap (λ n. drop n t) on);
      within = omega (arith, room e);
    }

-- all replacements are inverted
all_made : (made left all : List Edit) (t u : List ℕ) → left ≡ []
    → inverted_edits all t ≡ made ++ inverted_edits left u → made ≡ inverted_edits all t
all_made made left all t u none is =
    sym (is ∙ ap (λ es. made ++ inverted_edits es u) none ∙ append-nil made)

pub invariant_of-result : goal.invariant_of-result
invariant_of-result c =
    let edits = c.self.inside.edits in
    let rest = c.self.inside.rest in
    let t = c.args.rope.now.text in
    let is : c.loop-edit.inverse ≡ inverted_edits edits t =
    all_made c.loop-edit.inverse c.loop-edit.edits edits t (drop c.loop-edit.at t)
    c.in_default.ensures.0
    (ap (λ (x : Change). inverted_edits x.edits t) c.self.view_is ∙ c.loop-edit.invariant.made) in
    let fits : len_before (ops_of edits rest) ≡ length t = omega arith in
    record {
      before_is = omega (
        arith,
        ap (λ es. len_before (ops_of es rest)) is,
        inverted_before edits rest t,
      );
      after_is = omega (
        arith,
        ap (λ es. len_after (ops_of es rest)) is,
        inverted_after edits rest t fits,
      );
      before_fits = omega arith;
      after_fits = omega arith;
      normal = rw is (inverted_normal edits rest t fits c.self.invariant.normal);
    }

pub returns-clause-len_before : goal.returns-clause-len_before
returns-clause-len_before c =
    let edits = c.self.inside.edits in
    let rest = c.self.inside.rest in
    let t = c.args.rope.now.text in
    let is : c.loop-edit.inverse ≡ inverted_edits edits t =
    all_made c.loop-edit.inverse c.loop-edit.edits edits t (drop c.loop-edit.at t)
    c.in_default.ensures.0
    (ap (λ (x : Change). inverted_edits x.edits t) c.self.view_is ∙ c.loop-edit.invariant.made) in
    omega (
      arith,
      ap (λ es. len_before (ops_of es rest)) is,
      inverted_before edits rest t,
      ap (λ (x : Change). after x) c.self.view_is,
    )

pub returns-clause-len_after : goal.returns-clause-len_after
returns-clause-len_after c =
    let edits = c.self.inside.edits in
    let rest = c.self.inside.rest in
    let t = c.args.rope.now.text in
    let is : c.loop-edit.inverse ≡ inverted_edits edits t =
    all_made c.loop-edit.inverse c.loop-edit.edits edits t (drop c.loop-edit.at t)
    c.in_default.ensures.0
    (ap (λ (x : Change). inverted_edits x.edits t) c.self.view_is ∙ c.loop-edit.invariant.made) in
    let fits : len_before (ops_of edits rest) ≡ length t = omega arith in
    omega (
      arith,
      ap (λ es. len_after (ops_of es rest)) is,
      inverted_after edits rest t fits,
      ap (λ (x : Change). before x) c.self.view_is,
    )
