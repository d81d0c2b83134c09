use Rattle.std.proofs.Common.{[]}
use Rattle.rope_protocol.specs.Serving.{Puts}
use Rattle.rope_protocol.proofs.service.Input.next_line.Given as goal

abbrev pub invariant-loop : goal.invariant-loop
invariant-loop g l =
    Puts (g.W.Write.contents l.fn.writer) (g.W.Write.contents l.writer) l.fn.output l.output []
