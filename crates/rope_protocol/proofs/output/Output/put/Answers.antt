use Rattle.rope_protocol.proofs.Serving.{Puts-written}
use Rattle.rope_protocol.proofs.output.Output.put.Goals as goal

pub returns : goal.returns
returns g c =
    Puts-written c.write_all.result (g.W.Write.contents c.args.writer.now)
    (g.W.Write.contents c.write_gathered.new.writer) (g.W.Write.contents c.write_all.new.self)
    c.args.self.now c.write_gathered.new.self c.args.reply.now c.in_ok-write_gathered.ensures.ok
    c.write_gathered.ensures.empty c.write_all.ensures.bytes
