use Rattle.std.proofs.Common.{subst}
use Rattle.rope_files.specs.Reading.{ReadsAny, text_read}
use Rattle.rope_files.proofs.reading.read_any.Goals as goal

pub returns-clause-answer : goal.returns-clause-answer
returns-clause-answer g c =
    let read = c.read_any_watched-read.result.0 in
    let source = c.read_any_watched-read.result.1 in (
      g.T.Read.remaining source.inner,
      source.failed,
      subst (λ x. ReadsAny text_read c.args.declared (g.T.Read.remaining x)
          (g.T.Read.remaining source.inner) source.failed read) c.new.ensures.inner
          c.read_any_watched-read.ensures.answer,
    )
