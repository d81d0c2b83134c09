use Rattle.std.proofs.Common.{[], sym, subst, ◌∙◌}
use Rattle.std.proofs.lemmas.List.{append-nil}
use Rattle.rope_text.specs.Edit.{IsRefusal}
use Rattle.rope_text.specs.Text.{byte_len}
use Rattle.rope_text.proofs.EditLaws.{size_error-none}
use Rattle.rope_files.specs.Layouts.{laid_out}
use Rattle.rope_files.proofs.reading.read_laid.Goals as goal

pub returns-in-Err-finish-clause-answer : goal.returns-in-Err-finish-clause-answer
returns-in-Err-finish-clause-answer g c =
    let text = c.read_layout.new.builder.text in
    let a = c.in_ok-read_layout.ensures.answer in
    let whole = a.2.1 ∙ sym (append-nil (laid_out c.args.layout text)) in
    let none = c.in_ok-read_layout.ensures.fresh
    ∙ sym (size_error-none (byte_len text) c.in_ok-read_layout.ensures.fits) in (
      a.0,
      a.1,
      (
        a.2.0,
        text,
        [],
        record
            { whole = whole; scalars = c.in_ok-read_layout.ensures.scalars },
        subst (λ o. IsRefusal o c.in-Err-finish.error) none c.in-Err-finish.ensures.refused,
      ),
    )
