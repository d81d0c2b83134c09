-- Each turn adds the change of one replacement.
use Rattle.std.proofs.Common.{◌≡◌, ℕ, ◌+◌, List, [], ◌∷◌, ◌++◌, length, ap, sym, ◌∙◌, arith, rules}
use Rattle.std.specs.Prelude.{map, reverse}
use Rattle.std.specs.Str.{chars}
use Rattle.rope_changes.specs.Ops.{run, len_before}
use Rattle.rope_changes.specs.Change.{ops_of}
use Rattle.rope_changes.specs.Listed.{IsNext}
use Rattle.rope_changes.proofs.Runs.{run_kept}
use Rattle.rope_documents.specs.declared.content_change.ContentChange.{ContentChange}
use Rattle.rope_documents.specs.Received.{text_change, all_changed, first_error}
use Rattle.rope_documents.specs.Sent.{from_last, is_copy, is_widened, sent_change, sent, text_bytes}
use Rattle.rope_documents.proofs.Listed.{list_next, map_reverse, next_made, next_within}
use Rattle.rope_documents.proofs.Sending.{all_accepted, sent_changes}
use Rattle.rope_documents.proofs.send.to_content_changes.Goals.{In-Some, After-reverse}
use Rattle.rope_documents.proofs.send.to_content_changes.Goals as goal

pub returns-then-is_empty-clause-leads : goal.returns-then-is_empty-clause-leads
returns-then-is_empty-clause-leads c =
    let none : c.args.change.now.edits ≡ [] = search rules in
    let items : c.new-changes.result.items ≡ [] = c.new-changes.ensures.items in
    let text = c.args.rope.now.text in
    ap (λ xs. all_changed c.args.encoding c.args.rope.now.breaks text (map text_change xs)) items
    ∙ sym (ap (λ es. run (ops_of es c.args.change.now.rest) text) none
    ∙ run_kept c.args.change.now.rest text)

next : (c : In-Some) → IsNext c.loop-edit.edits c.in-Some.edit c.next.new.self
next c = c.in-Some.ensures

within : (c : In-Some) → c.next.new.self.end
    + len_before (ops_of c.next.new.self.edits c.args.change.now.rest) ≡ length c.args.rope.now.text
within c =
    next_within c.loop-edit.edits c.next.new.self c.in-Some.edit (next c) c.args.change.now.rest
    (length c.args.rope.now.text) c.loop-edit.invariant.within

pub content_change-requires-clause-within : goal.content_change-requires-clause-within
content_change-requires-clause-within c =
    let e = (goal.at.content_change-requires-clause-within c).In-Some in
    let n = next e in
    omega (arith, within e, n.end_is)

pub loop-edit-preserved : goal.loop-edit-preserved
loop-edit-preserved c =
    let e = (goal.at.loop-edit-preserved c).In-Some in
    let text = c.args.rope.now.text in
    let make = sent_change c.args.encoding c.args.rope.now.breaks text in
    let old = c.loop-edit.edits in
    let new = c.next.new.self in
    let pushed : c.push.new.self.items ≡ c.loop-edit.changes.items ++ c.in-Ok.content ∷ [] =
    search rules in
    record {
      list = list_next text_change (from_last make old.end old.edits)
          (from_last make new.end new.edits)
          (make c.in-Some.edit.start c.in-Some.edit.end (chars c.in-Some.edit.text.now))
          c.loop-edit.changes.items c.push.new.self.items c.in-Ok.content c.in-Ok.ensures.made
          (next_made old new c.in-Some.edit (next e) make) pushed ∙ c.loop-edit.invariant.list;
      copies = list_next is_copy (from_last (is_widened text) old.end old.edits)
          (from_last (is_widened text) new.end new.edits)
          (is_widened text c.in-Some.edit.start c.in-Some.edit.end (chars c.in-Some.edit.text.now))
          c.loop-edit.changes.items c.push.new.self.items c.in-Ok.content c.in-Ok.ensures.copied
          (next_made old new c.in-Some.edit (next e) (is_widened text)) pushed
          ∙ c.loop-edit.invariant.copies;
      within = within e;
    }

-- nothing is left of the replacements
turned : (c : After-reverse) {A : Type 0} (shows : ContentChange → A)
    (make : ℕ → ℕ → List ℕ → A) → from_last make c.loop-edit.edits.end c.loop-edit.edits.edits
    ++ reverse (map shows c.loop-edit.changes.items) ≡ from_last make 0 c.args.change.now.edits
    → map shows c.reverse.new.self.items ≡ from_last make 0 c.args.change.now.edits
turned c shows make kept =
    let none : c.loop-edit.edits.edits ≡ [] = search rules in
    let items = c.loop-edit.changes.items in
    ap (map shows) c.reverse.ensures.items ∙ map_reverse shows items
    ∙ sym (ap (λ es. from_last make c.loop-edit.edits.end es ++ reverse (map shows items)) none)
    ∙ kept

list_is : (c : After-reverse) → map text_change c.reverse.new.self.items
    ≡ sent c.args.encoding c.args.rope.now.breaks c.args.rope.now.text 0 c.args.change.now.edits
list_is c =
    turned c text_change
    (sent_change c.args.encoding c.args.rope.now.breaks c.args.rope.now.text)
    c.loop-edit.invariant.list

fits : (c : After-reverse)
    → 0 + len_before (ops_of c.args.change.now.edits c.args.change.now.rest)
    ≡ length c.args.rope.now.text
fits c =
    omega (
      arith,
      c.if-len-len_before.false,
      c.len_before.ensures,
      c.len_chars-len.ensures.value,
    )

pub returns-clause-list : goal.returns-clause-list
returns-clause-list c = list_is c

pub returns-clause-copies : goal.returns-clause-copies
returns-clause-copies c =
    turned c is_copy (is_widened c.args.rope.now.text) c.loop-edit.invariant.copies

pub returns-clause-leads : goal.returns-clause-leads
returns-clause-leads c =
    ap (all_changed c.args.encoding c.args.rope.now.breaks c.args.rope.now.text) (list_is c)
    ∙ sent_changes c.args.encoding c.args.rope.now.breaks c.args.rope.now.text 0
    c.args.change.now.edits c.args.change.now.rest c.is_empty.ensures.normal (fits c)

pub returns-clause-accepted : goal.returns-clause-accepted
returns-clause-accepted c = λ few.
    let text = c.args.rope.now.text in
    let list = list_is c in
    ap (first_error c.args.encoding c.args.rope.now.breaks text) list
    ∙ all_accepted c.args.encoding c.args.rope.now.breaks text 0
    c.args.change.now.edits c.args.change.now.rest c.is_empty.ensures.normal (fits c)
    (omega (arith, few, ap text_bytes list))
