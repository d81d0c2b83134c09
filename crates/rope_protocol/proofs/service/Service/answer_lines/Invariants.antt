use Rattle.rope_protocol.specs.Serving.{PutsRun}
use Rattle.rope_protocol.proofs.service.Service.answer_lines.Given as goal

abbrev pub invariant-loop-earlier : goal.invariant-loop-earlier
invariant-loop-earlier g l =
    PutsRun l.fn.self.session l.self.session (g.W.Write.contents l.fn.writer)
    (g.W.Write.contents l.writer) l.fn.output l.output
