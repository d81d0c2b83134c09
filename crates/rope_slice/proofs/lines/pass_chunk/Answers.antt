use Rattle.std.proofs.Common.{ap, ◌∙◌, arith, ◌≡◌}
use Rattle.rope_text.specs.TextInfo.{info_of}
use Rattle.rope_text.specs.LineParts.{first_line}
use Rattle.rope_slice.proofs.Spans.{leaves_next}
use Rattle.rope_slice.proofs.Carets.{chunks_next, line_in_next}
use Rattle.rope_slice.specs.Path.{leaves}
use Rattle.rope_slice.proofs.lines.pass_chunk.Goals.{Joined-then-not-has_break_beside, then-not-has_break_beside-via-then-not-has_break_beside, then-not-has_break_beside-via-else-not-has_break_beside+then-not-step}
use Rattle.rope_slice.proofs.lines.pass_chunk.Goals as goal

pub returns-clause-passes : goal.returns-clause-passes
returns-clause-passes c =
    line_in_next c.args.breaks c.args.span.now c.step.new.self c.of_first_line-line.result
    c.requires c.if-not-step.ensures.moved
    (c.of_first_line-line.ensures ∙ ap (λ t. info_of c.args.breaks (first_line c.args.breaks t))
    c.chunk.ensures) (omega (arith, c.if-line-eq0.false))

pub returns-clause-chunks : goal.returns-clause-chunks
returns-clause-chunks c = chunks_next c.args.span.now c.step.new.self c.if-not-step.ensures.moved
    c.requires

pub returns-clause-same : goal.returns-clause-same
returns-clause-same c = leaves_next c.args.span.now c.step.new.self c.if-not-step.ensures.moved

pub returns-then-line-eq0-clause-chunks : goal.returns-then-line-eq0-clause-chunks
returns-then-line-eq0-clause-chunks c =
    chunks_next c.args.span.now c.step.new.self c.if-not-step.ensures.moved c.requires

pub returns-then-line-eq0-clause-same : goal.returns-then-line-eq0-clause-same
returns-then-line-eq0-clause-same c =
    leaves_next c.args.span.now c.step.new.self c.if-not-step.ensures.moved

-- without a step the span is as it was
stays : (c : Joined-then-not-has_break_beside) → c.then-not-has_break_beside.span ≡ c.args.span.now
stays c = elim c.then-not-has_break_beside.branch [
  | then-not-has_break_beside-via-then-not-has_break_beside w ↦ w.span-is
  | then-not-has_break_beside-via-else-not-has_break_beside+then-not-step w ↦
      w.span-is ∙ w.if-not-step.ensures.stays
]

pub returns-then-not-has_break_beside-clause-chunks :
    goal.returns-then-not-has_break_beside-clause-chunks
returns-then-not-has_break_beside-clause-chunks c = rw (stays c) c.requires

pub returns-then-not-has_break_beside-clause-same :
    goal.returns-then-not-has_break_beside-clause-same
returns-then-not-has_break_beside-clause-same c = ap leaves (stays c)
