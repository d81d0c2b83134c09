use Rattle.std.proofs.Common.{◌≡◌, ◌++◌, ◌∙◌, ap, subst}
use Rattle.std.specs.String.{string_bytes}
use Rattle.rope_protocol.specs.ReplyLine.{reply_line}
use Rattle.rope_protocol.specs.Serving.{Puts}
use Rattle.rope_protocol.proofs.Serving.{PutsRun-step}
use Rattle.rope_protocol.proofs.service.answer.Goals as goal

pub returns-in-Ok-put-clause-put : goal.returns-in-Ok-put-clause-put
returns-in-Ok-put-clause-put g c =
    let old = g.W.Write.contents c.args.writer.now in
    let new = g.W.Write.contents c.put.new.writer in
    let line = string_bytes c.write_reply.new.out in
    let line_is : line ≡ reply_line c.in-Ok.reply =
    c.in_ok-write_reply.ensures
    ∙ ap (λ before. before ++ reply_line c.in-Ok.reply) c.new-reply_line.ensures.bytes in
    PutsRun-step c.args.session.now c.step.new.self old new c.args.output.now c.put.new.self
    c.in-Some-2.command c.in-Ok.reply line c.in-Ok.ensures.step line_is
    (subst (λ bytes. Puts old new c.args.output.now c.put.new.self bytes) c.as_bytes.ensures.value
    c.in-Ok-put.ensures)
