use Rattle.std.proofs.Common.{ap, ◌∙◌}
use Rattle.rope_files.proofs.Writings.{appends_encoded, front_encoded}
use Rattle.rope_files.proofs.writing.write_as_watched.Goals as goal

pub returns-in-Ok-clause-ok : goal.returns-in-Ok-clause-ok
returns-in-Ok-clause-ok g c =
    appends_encoded _ _ (g.S.Sink.contents c.write_in.new.sink) c.args.encoding _ c.mark.result.now
    c.args.rope.now.text
    (ap g.S.Sink.contents c.clear.ensures ∙ g.met.S.Sink.cleared_contents c.args.sink.now)
    c.layout-layout.ensures c.mark.ensures.mark c.in-Ok.ensures.ok

pub returns-in-Ok-clause-front : goal.returns-in-Ok-clause-front
returns-in-Ok-clause-front g c =
    front_encoded _ _ (g.S.Sink.contents c.write_in.new.sink) c.args.encoding _ c.mark.result.now
    c.args.rope.now.text
    (ap g.S.Sink.contents c.clear.ensures ∙ g.met.S.Sink.cleared_contents c.args.sink.now)
    c.layout-layout.ensures c.mark.ensures.mark c.in-Ok.ensures.front

pub returns-in-Err-clause-front : goal.returns-in-Err-clause-front
returns-in-Err-clause-front g c =
    front_encoded _ _ (g.S.Sink.contents c.write_in.new.sink) c.args.encoding _ c.mark.result.now
    c.args.rope.now.text
    (ap g.S.Sink.contents c.clear.ensures ∙ g.met.S.Sink.cleared_contents c.args.sink.now)
    c.layout-layout.ensures c.mark.ensures.mark c.in-Err.ensures.front
