use Rattle.std.proofs.Common.{Some, sym, subst, length, ◌∙◌}
use Rattle.rope_files.specs.Layouts.{laid_out}
use Rattle.rope_files.specs.Reading.{Answers}
use Rattle.ropey.specs.View.{text_of}
use Rattle.rope_files.proofs.Files.{answers_laid}
use Rattle.rope_files.proofs.reading.read_body.Goals as goal

pub returns-in-Some-clause-answer : goal.returns-in-Some-clause-answer
returns-in-Some-clause-answer g c =
    let a = c.read_laid.ensures.answer in
    let layout = c.in-Some.layout in
    let left = g.S.Source.remaining c.read_laid.new.source in
    let failed = g.S.Mark.marked c.read_laid.new.source in (
      a.0,
      a.1,
      answers_laid text_of _ a.0 left failed c.read_laid.result c.args.encoding layout
          (sym c.layout.ensures ∙ c.in-Some.is)
          (subst (λ m. Answers text_of (laid_out layout) (Some layout)
          (length m) a.0 left failed c.read_laid.result) c.mark-mark.ensures.mark a.2),
    )
