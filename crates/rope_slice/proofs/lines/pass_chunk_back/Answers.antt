use Rattle.std.proofs.Common.{ap, sym, take, drop, ◌∙◌, arith, ◌≡◌}
use Rattle.rope_text.specs.Text.{byte_len}
use Rattle.rope_text.specs.TextInfo.{info_of}
use Rattle.rope_text.specs.LineParts.{last_start}
use Rattle.rope_slice.proofs.Spans.{leaves_next}
use Rattle.rope_slice.proofs.CaretsBack.{chunks_prev, line_in_last, whole, apart_at_end}
use Rattle.rope_slice.specs.Path.{leaves}
use Rattle.rope_slice.proofs.lines.pass_chunk_back.Goals.{Joined-then-not-has_break_beside, then-not-has_break_beside-via-then-not-has_break_beside, then-not-has_break_beside-via-else-not-has_break_beside+then-not-step}
use Rattle.rope_slice.proofs.lines.pass_chunk_back.Goals as goal

pub of_last_line-start-requires-clause-between : goal.of_last_line-start-requires-clause-between
of_last_line-start-requires-clause-between c = ap byte_len (whole _ _ c.byte_len_of-end.ensures) ∙
    sym c.byte_len_of-end.ensures

pub of_last_line-start-requires-clause-apart : goal.of_last_line-start-requires-clause-apart
of_last_line-start-requires-clause-apart c = apart_at_end _ _ c.byte_len_of-end.ensures

pub returns-clause-passes : goal.returns-clause-passes
returns-clause-passes c =
    line_in_last c.args.breaks c.args.skip c.args.span.now c.step.new.self
    c.of_last_line-start.result.0 c.of_last_line-start.result.1 c.requires
    c.if-not-step.ensures.moved
    (c.of_last_line-start.ensures.start ∙ ap (λ t. byte_len
    (take (last_start c.args.breaks t c.args.skip) t)) (whole _ _ c.byte_len_of-end.ensures ∙
    c.chunk-chunk.ensures))
    (c.of_last_line-start.ensures.counts ∙ ap (λ t. info_of c.args.breaks
    (drop (last_start c.args.breaks t c.args.skip) t)) (whole _ _ c.byte_len_of-end.ensures ∙
    c.chunk-chunk.ensures))
    (omega (arith, c.if-start-eq0.false))

pub returns-clause-chunks : goal.returns-clause-chunks
returns-clause-chunks c = chunks_prev c.args.span.now c.step.new.self c.if-not-step.ensures.moved
    c.requires

pub returns-clause-same : goal.returns-clause-same
returns-clause-same c = sym (leaves_next c.step.new.self c.args.span.now
    c.if-not-step.ensures.moved)

pub returns-then-start-eq0-clause-chunks : goal.returns-then-start-eq0-clause-chunks
returns-then-start-eq0-clause-chunks c =
    chunks_prev c.args.span.now c.step.new.self c.if-not-step.ensures.moved c.requires

pub returns-then-start-eq0-clause-same : goal.returns-then-start-eq0-clause-same
returns-then-start-eq0-clause-same c =
    sym (leaves_next c.step.new.self c.args.span.now c.if-not-step.ensures.moved)

-- without a step the span is as it was
stays : (c : Joined-then-not-has_break_beside) → c.then-not-has_break_beside.span ≡ c.args.span.now
stays c = elim c.then-not-has_break_beside.branch [
  | then-not-has_break_beside-via-then-not-has_break_beside w ↦ w.span-is
  | then-not-has_break_beside-via-else-not-has_break_beside+then-not-step w ↦
      w.span-is ∙ w.if-not-step.ensures.stays
]

pub returns-then-not-has_break_beside-clause-chunks :
    goal.returns-then-not-has_break_beside-clause-chunks
returns-then-not-has_break_beside-clause-chunks c = rw (stays c) c.requires

pub returns-then-not-has_break_beside-clause-same :
    goal.returns-then-not-has_break_beside-clause-same
returns-then-not-has_break_beside-clause-same c = ap leaves (stays c)
