use Rattle.std.proofs.Common.{ap}
use Rattle.rope_protocol.proofs.Serving.{PutsRun-nothing, PutsRun-both, PutsRun-on, PutsRun-kept}
use Rattle.rope_protocol.proofs.service.Service.answer_lines.Goals as goal

pub loop-earlier-init : goal.loop-earlier-init
loop-earlier-init g c =
    PutsRun-nothing c.args.self.now.session (g.W.Write.contents c.args.writer.now) c.args.output.now

pub loop-earlier-preserved : goal.loop-earlier-preserved
loop-earlier-preserved g c =
    let held = g.W.Write.contents in
    PutsRun-both c.args.self.now.session c.loop-earlier.self.session c.answer.new.session
    (held c.args.writer.now) (held c.next_line.new.writer) (held c.answer.new.writer)
    c.args.output.now c.next_line.new.output c.answer.new.output
    (PutsRun-on c.args.self.now.session c.loop-earlier.self.session
    (held c.args.writer.now) (held c.loop-earlier.writer) (held c.next_line.new.writer)
    c.args.output.now c.loop-earlier.output c.next_line.new.output c.loop-earlier.invariant
    c.in-Ok-true.ensures.put)
    c.in_default.ensures.put

pub returns-in-Ok-false-clause-put : goal.returns-in-Ok-false-clause-put
returns-in-Ok-false-clause-put g c = λ _.
    let held = g.W.Write.contents in (
      c.loop-earlier.self.session,
      PutsRun-on c.args.self.now.session c.loop-earlier.self.session
          (held c.args.writer.now) (held c.loop-earlier.writer) (held c.next_line.new.writer)
          c.args.output.now c.loop-earlier.output c.next_line.new.output c.loop-earlier.invariant
          c.in-Ok-false.ensures.put,
    )

pub returns-in-Err-clause-put : goal.returns-in-Err-clause-put
returns-in-Err-clause-put g c = λ other.
    let held = g.W.Write.contents in (
      c.loop-earlier.self.session,
      PutsRun-on c.args.self.now.session c.loop-earlier.self.session
          (held c.args.writer.now) (held c.loop-earlier.writer) (held c.next_line.new.writer)
          c.args.output.now c.loop-earlier.output c.next_line.new.output c.loop-earlier.invariant
          (c.in-Err.ensures.kept (c.end_of.ensures.failed other)),
    )

pub returns-in-Err-answer-clause-put : goal.returns-in-Err-answer-clause-put
returns-in-Err-answer-clause-put g c = λ other.
    let held = g.W.Write.contents in
    let kept = c.in-Err-answer.ensures.kept (c.end_of-in-Err-answer.ensures.failed other) in (
      c.loop-earlier.self.session,
      PutsRun-kept c.args.self.now.session c.loop-earlier.self.session
          (held c.args.writer.now) (held c.next_line.new.writer) (held c.answer.new.writer)
          c.args.output.now c.next_line.new.output c.answer.new.output
          (PutsRun-on c.args.self.now.session c.loop-earlier.self.session
          (held c.args.writer.now) (held c.loop-earlier.writer) (held c.next_line.new.writer)
          c.args.output.now c.loop-earlier.output c.next_line.new.output c.loop-earlier.invariant
          c.in-Ok-true.ensures.put)
          (ap held kept.0) kept.1,
    )

pub returns-in-Ok-true-next_line-clause-put : goal.returns-in-Ok-true-next_line-clause-put
returns-in-Ok-true-next_line-clause-put g c = λ _.
    let held = g.W.Write.contents in (
      c.loop-earlier.self.session,
      PutsRun-on c.args.self.now.session c.loop-earlier.self.session
          (held c.args.writer.now) (held c.loop-earlier.writer) (held c.next_line-2.new.writer)
          c.args.output.now c.loop-earlier.output c.next_line-2.new.output c.loop-earlier.invariant
          c.in-Ok-true-next_line.ensures.put,
    )

pub returns-in-Ok-false-next_line-clause-put : goal.returns-in-Ok-false-next_line-clause-put
returns-in-Ok-false-next_line-clause-put g c = λ _.
    let held = g.W.Write.contents in (
      c.loop-earlier.self.session,
      PutsRun-on c.args.self.now.session c.loop-earlier.self.session
          (held c.args.writer.now) (held c.loop-earlier.writer) (held c.next_line-2.new.writer)
          c.args.output.now c.loop-earlier.output c.next_line-2.new.output c.loop-earlier.invariant
          c.in-Ok-false-next_line.ensures.put,
    )

pub returns-in-Err-next_line-clause-put : goal.returns-in-Err-next_line-clause-put
returns-in-Err-next_line-clause-put g c = λ other.
    let held = g.W.Write.contents in (
      c.loop-earlier.self.session,
      PutsRun-on c.args.self.now.session c.loop-earlier.self.session
          (held c.args.writer.now) (held c.loop-earlier.writer) (held c.next_line-2.new.writer)
          c.args.output.now c.loop-earlier.output c.next_line-2.new.output c.loop-earlier.invariant
          (c.in-Err-next_line.ensures.kept (c.end_of-in-Err-next_line.ensures.failed other)),
    )
