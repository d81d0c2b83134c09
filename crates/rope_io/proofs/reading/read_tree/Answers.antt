use Rattle.std.proofs.Common.{◌∙◌, length, ap, arith}
use Rattle.rope_text.specs.declared.error.Error.TheVariants.{OutOfMemory}
use Rattle.rope_io.specs.declared.error.ReadError.TheVariants.{Rope}
use Rattle.rope_io.proofs.Readings.{no_memory, refusal_answers, same_answers, same_failure}
use Rattle.rope_io.proofs.reading.read_tree.Goals as goal

pub read_texts-requires-clause-empty : goal.read_texts-requires-clause-empty
read_texts-requires-clause-empty g c = c.new-builder.ensures.text

pub read_texts-requires-clause-clear : goal.read_texts-requires-clause-clear
read_texts-requires-clause-clear g c =
    rw c.clear.ensures (g.met.S.Mark.cleared_unmarked c.args.source.now)

-- the tree of the whole text
pub returns-clause-answer : goal.returns-clause-answer
returns-clause-answer g c =
    let start = ap g.S.Source.remaining c.clear.ensures
    ∙ g.met.S.Source.cleared_remaining c.args.source.now in
    rw (← start, c.in_ok-finish.ensures.text) c.in_ok-read_texts.ensures.answer

pub returns-clause-failure : goal.returns-clause-failure
returns-clause-failure g c =
    let count = ap g.S.Mark.failures c.clear.ensures
    ∙ g.met.S.Mark.cleared_failures c.args.source.now in
    rw (← count) c.in_ok-read_texts.ensures.failure

pub returns-clause-breaks : goal.returns-clause-breaks
returns-clause-breaks g c = c.in_ok-finish.ensures.breaks ∙ c.in_ok-read_texts.ensures.breaks
    ∙ c.new-builder.ensures.breaks

pub returns-clause-tree : goal.returns-clause-tree
returns-clause-tree g c = c.in_ok-finish.ensures.tree

pub returns-clause-few : goal.returns-clause-few
returns-clause-few g c = rw c.in_ok-finish.ensures.text c.in_ok-finish.ensures.few

-- the error of the read
pub returns-in_err-read_texts-clause-answer : goal.returns-in_err-read_texts-clause-answer
returns-in_err-read_texts-clause-answer g c =
    let start = ap g.S.Source.remaining c.clear.ensures
    ∙ g.met.S.Source.cleared_remaining c.args.source.now in
    let a = c.in_err-read_texts.ensures.answer in
    rw (← start) (
      a.0,
      a.1,
      same_answers {R = Unit}
          (λ _. c.read_texts.new.builder.text) _ a.0 _ _ c.in_err-read_texts.field-0.0
          c.from_residual.result c.from_residual.ensures.1 a.2,
    )

pub returns-in_err-read_texts-clause-failure : goal.returns-in_err-read_texts-clause-failure
returns-in_err-read_texts-clause-failure g c =
    let count = ap g.S.Mark.failures c.clear.ensures
    ∙ g.met.S.Mark.cleared_failures c.args.source.now in
    rw (
      ← count,
      ← same_failure Unit c.in_err-read_texts.field-0.0 c.from_residual.result
          c.from_residual.ensures.1,
    ) c.in_err-read_texts.ensures.failure

-- out of memory for the tree
pub returns-in_err-finish-clause-answer : goal.returns-in_err-finish-clause-answer
returns-in_err-finish-clause-answer g c =
    let start = ap g.S.Source.remaining c.clear.ensures
    ∙ g.met.S.Source.cleared_remaining c.args.source.now in
    let a = c.in_ok-read_texts.ensures.answer in
    rw (← start) (
      a.0,
      a.1,
      refusal_answers _ a.0 _ _ c.from_residual-in_err-finish.result
          OutOfMemory c.from_residual-in_err-finish.ensures.1 (
            no_memory a.0 (omega (arith, ap length a.2.0, c.in_ok-read_texts.ensures.fits)),
            omega (arith, ap length a.2.0, c.in_ok-read_texts.ensures.fits),
            a.2.3,
          ),
    )

pub returns-in_err-finish-clause-failure : goal.returns-in_err-finish-clause-failure
returns-in_err-finish-clause-failure g c =
    let count = ap g.S.Mark.failures c.clear.ensures
    ∙ g.met.S.Mark.cleared_failures c.args.source.now in
    rw (
      ← count,
      ← same_failure Unit (Rope OutOfMemory) c.from_residual-in_err-finish.result
          c.from_residual-in_err-finish.ensures.1,
    ) c.in_ok-read_texts.ensures.failure
