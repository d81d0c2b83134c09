use Rattle.std.proofs.Common.{sym}
use Rattle.rope_slice.specs.Slice.{content_of}
use Rattle.rope_slice.proofs.LineSteps.{ahead_forward, ahead_backward}
use Rattle.rope_slice.proofs.lines.LinesExactSizeIterator.len.Goals as goal

pub returns-then-self-clause-value : goal.returns-then-self-clause-value
returns-then-self-clause-value c =
    let s = c.self.inside in
    rw (← c.self.view_is, c.if-self.true)
    (sym (ahead_backward (content_of s.slice) s.caret s.before s.line s.total
    c.self.invariant.start))

pub returns-else-self-clause-value : goal.returns-else-self-clause-value
returns-else-self-clause-value c =
    let s = c.self.inside in
    rw (← c.self.view_is, c.if-self.false)
    (sym (ahead_forward (content_of s.slice) s.caret s.before s.line s.total
    c.self.invariant.start))
