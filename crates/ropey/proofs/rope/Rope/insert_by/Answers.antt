-- The tests come in the order of the errors, and past them only memory refuses.
use Rattle.std.proofs.Common.{rules, ◌≡◌, ◌<◌, ◌∙◌, ℕ, List, length, sym, refl, arith, subst, ap, Some, true, false}
use Rattle.std.proofs.lemmas.Bool.Decides.{nat_tests}
use Rattle.std.specs.Prelude.{◌==◌}
use Rattle.std.specs.Str.{IsUtf8, chars}
use Rattle.rope_text.specs.declared.error.Error.TheVariants.{OutOfMemory, TooLong}
use Rattle.rope_text.specs.Edit.{inserted, insert_error, IsRefusal}
use Rattle.ropey.specs.View.{RopeView}
use Rattle.rope_text.proofs.Apart.{has_chars}
use Rattle.rope_text.proofs.Walks.{byte_len-chars}
use Rattle.rope_leaf.proofs.LeafTexts.{no_chars}
use Rattle.ropey.proofs.Refusals.{insert_error-none, insert_error-long, inserted_none}
use Rattle.ropey.proofs.Ropes.{rope_of}
use Rattle.ropey.proofs.TextsGiven.{passed_on}
use Rattle.ropey.proofs.rope.Rope.insert_by.Goals as goal

-- a text that isn't empty has a character
some_chars : {A : Type 0} (new : List ℕ) → IsUtf8 new → (length new == 0) ≡ false
    → length (chars new) ≡ 0 → A
some_chars new u full none =
    let some : 0 < length new = grind (arith, nat_tests) in
    absurd (omega (arith, has_chars new u some))

pub returns-then-text-bytes-clause-refused : goal.returns-then-text-bytes-clause-refused
returns-then-text-bytes-clause-refused c =
    let text = c.args.self.now.text in
    let new = c.args.text.now in
    let long : insert_error text c.args.char_idx (chars new) ≡ Some TooLong =
    insert_error-long text c.args.char_idx (chars new) (omega arith)
    (omega (arith, byte_len-chars new c.utf8.text, c.len_bytes-bytes.ensures.value)) in
    subst (λ o. IsRefusal o TooLong) (sym long) refl

pub returns-then-text-bytes-clause-empty : goal.returns-then-text-bytes-clause-empty
returns-then-text-bytes-clause-empty c = λ _ none.
    let text = c.args.self.now.text in
    let new = c.args.text.now in
    let long : insert_error text c.args.char_idx (chars new) ≡ Some TooLong =
    insert_error-long text c.args.char_idx (chars new) (omega arith)
    (omega (arith, byte_len-chars new c.utf8.text, c.len_bytes-bytes.ensures.value)) in
    cc

pub returns-then-is_empty-clause-ok : goal.returns-then-is_empty-clause-ok
returns-then-is_empty-clause-ok c =
    let text = c.args.self.now.text in
    let new = c.args.text.now in
    let empty : (length new == 0) ≡ true = sym c.is_empty.ensures ∙ c.if-is_empty.true in
    let nothing : length new ≡ 0 = grind (arith, nat_tests) in (
      insert_error-none text c.args.char_idx (chars new) (omega arith)
          (omega (
            arith,
            byte_len-chars new c.utf8.text,
            c.len_bytes-bytes.ensures.value,
            c.len_bytes-bytes.ensures.kept.content.fits,
          )),
      inserted_none text c.args.char_idx (chars new) (no_chars new nothing),
    )

pub returns-clause-ok : goal.returns-clause-ok
returns-clause-ok c =
    let text = c.args.self.now.text in
    let new = c.args.text.now in
    let none =
    insert_error-none text c.args.char_idx (chars new) (omega arith)
    (omega (
      arith,
      byte_len-chars new c.utf8.text,
      c.len_bytes-bytes.ensures.value,
      c.len_bytes-bytes.ensures.kept.content.fits,
    )) in (
      none,
      c.in_ok-insert_into.ensures.text
          ∙ ap (λ (r : RopeView). inserted r.text c.args.char_idx (chars new)) c.self.view_is,
    )

pub returns-clause-empty : goal.returns-clause-empty
returns-clause-empty c =
    λ none _. some_chars c.args.text.now c.utf8.text (sym c.is_empty.ensures ∙ c.if-is_empty.false)
    none

pub returns-in_err-insert_into-clause-refused : goal.returns-in_err-insert_into-clause-refused
returns-in_err-insert_into-clause-refused c =
    let text = c.args.self.now.text in
    let new = c.args.text.now in
    let none =
    insert_error-none text c.args.char_idx (chars new) (omega arith)
    (omega (
      arith,
      byte_len-chars new c.utf8.text,
      c.len_bytes-bytes.ensures.value,
      c.len_bytes-bytes.ensures.kept.content.fits,
    )) in
    passed_on c.from_residual.result OutOfMemory _ c.from_residual.ensures.1
    (subst (λ o. IsRefusal o OutOfMemory) (sym none) refl)

pub returns-in_err-insert_into-clause-empty : goal.returns-in_err-insert_into-clause-empty
returns-in_err-insert_into-clause-empty c =
    λ none _. some_chars c.args.text.now c.utf8.text (sym c.is_empty.ensures ∙ c.if-is_empty.false)
    none

pub returns-clause-kept : goal.returns-clause-kept
returns-clause-kept c =
    (search rules, search rules, rope_of c.insert_into.new.root c.insert_into.ensures.tree)

pub returns-in_err-insert_into-clause-kept : goal.returns-in_err-insert_into-clause-kept
returns-in_err-insert_into-clause-kept c =
    (search rules, search rules, rope_of c.insert_into.new.root c.insert_into.ensures.tree)

-- a text that isn't empty is inserted into the tree
pub returns-in_err-insert_into-clause-outside : goal.returns-in_err-insert_into-clause-outside
returns-in_err-insert_into-clause-outside c =
    λ none. some_chars c.args.text.now c.utf8.text (sym c.is_empty.ensures ∙ c.if-is_empty.false)
    none

pub returns-clause-outside : goal.returns-clause-outside
returns-clause-outside c =
    λ none. some_chars c.args.text.now c.utf8.text (sym c.is_empty.ensures ∙ c.if-is_empty.false)
    none
