use Rattle.std.proofs.Common.{◌+◌, ◌-◌, arith}
use Rattle.rope_text.proofs.InfoLaws.{rest_of_sum}
use Rattle.rope_slice.specs.Slice.{content_of}
use Rattle.rope_slice.proofs.LineMoves.{start_apart, breaks_enough, before_sum, prev_start, at_count}
use Rattle.rope_slice.proofs.lines.Caret.go_back.Goals as goal

pub overflow_sub-skip : goal.overflow_sub-skip
overflow_sub-skip c = omega (
  arith,
  breaks_enough (content_of c.args.slice.now) c.args.self.now
      c.args.before.now (c.args.line_idx + 1) _ c.requires.start,
)

pub pass_line_back-requires-clause-apart : goal.pass_line_back-requires-clause-apart
pass_line_back-requires-clause-apart c = start_apart (content_of c.args.slice.now) c.args.self.now
    c.args.before.now (c.args.line_idx + 1) _ c.requires.start

pub pass_line_back-requires-clause-part : goal.pass_line_back-requires-clause-part
pass_line_back-requires-clause-part c =
    rest_of_sum _ _ _ (before_sum (content_of c.args.slice.now) c.args.self.now c.args.before.now
    (c.args.line_idx + 1) _ (c.args.before.now.break_count - c.args.line_idx) c.args.breaks
    c.requires.start (omega arith) c.requires.breaks_is (omega arith))

pub returns-then-pass_line_back-clause-start : goal.returns-then-pass_line_back-clause-start
returns-then-pass_line_back-clause-start c =
    let e = c.if-pass_line_back.ensures in
    at_count (content_of c.args.slice.now) c.pass_line_back.new.self c.pass_line_back.new.before
    ((c.args.line_idx + 1) - 1) c.args.line_idx _ (omega arith)
    (prev_start (content_of c.args.slice.now) c.args.self.now c.args.before.now
    (c.args.line_idx + 1) _ (c.args.before.now.break_count - c.args.line_idx) c.args.breaks
    c.requires.start (omega arith) c.requires.breaks_is (omega arith) c.pass_line_back.new.self
    e.front e.back e.chunks c.pass_line_back.new.before e.counts)
