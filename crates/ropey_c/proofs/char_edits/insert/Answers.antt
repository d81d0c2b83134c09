use Rattle.std.proofs.Common.{◌≡◌, ◌∙◌, ℕ, List, length, None, sym, ap, subst}
use Rattle.std.proofs.lemmas.List.{nil_from_length}
use Rattle.std.specs.Str.{chars}
use Rattle.rope_text.specs.Edit.{insert_error}
use Rattle.ropey_c.proofs.char_edits.insert.Goals as goal

pub returns-clause-empty : goal.returns-clause-empty
unfolding chars
returns-clause-empty c = λ none fine.
    let is_empty = c.in-Some.ensures.0 ∙ nil_from_length c.args.text.now none in
    let Fine : List ℕ → Type 0 =
    λ bytes. insert_error c.args.rope.now.text c.args.char_idx (chars bytes) ≡ None in
    let done =
    c.try_insert.ensures.empty (ap (λ bytes. length (chars bytes)) is_empty)
    (subst Fine (sym is_empty) fine) in
    (c.status.ensures.ok done.0, done.1)
