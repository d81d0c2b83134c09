use Rattle.std.proofs.Common.{◌≡◌, ◌∙◌, ◌+◌, ℕ, List, [], length, Option, None, sym, ap, subst}
use Rattle.std.proofs.lemmas.List.{nil_from_length}
use Rattle.std.specs.Str.{chars}
use Rattle.rope_text.specs.declared.error.Error.{Error}
use Rattle.rope_text.specs.Edit.{or_else, insert_error, size_error}
use Rattle.rope_text.specs.Text.{byte_len}
use Rattle.ropey_c.proofs.Idle.{index_fine}
use Rattle.ropey_c.proofs.byte_edits.insert_at_byte.Goals as goal

pub returns-clause-empty : goal.returns-clause-empty
unfolding chars
returns-clause-empty c = λ none fine.
    let text = c.args.rope.now.text in
    let is_empty = c.in-Some.ensures.0 ∙ nil_from_length c.args.text.now none in
    let Fits : Option Error → Type 0 =
    λ first. or_else first (size_error (byte_len text + byte_len [])) ≡ None in
    let Fine : List ℕ → Type 0 = λ bytes. insert_error text c.in-Ok.value (chars bytes) ≡ None in
    let size : Fits None = subst Fits c.in-Ok.ensures.ok.0 fine in
    let can : Fine [] =
    subst Fits (sym (index_fine c.in-Ok.value (length text) c.in-Ok.ensures.ok.2)) size in
    let done =
    c.insert.ensures.empty (ap (λ bytes. length (chars bytes)) is_empty)
    (subst Fine (sym is_empty) can) in
    (c.status.ensures.ok done.0, done.1)
