use Rattle.std.proofs.Common.{arith}
use Rattle.rope_script.proofs.Contents.{shrink_of}
use Rattle.rope_script.proofs.changing.shrink.Goals as goal

pub returns : goal.returns
returns c =
    rw c.reply_to_edit.ensures
    (shrink_of c.shrink_to_fit.result c.args.ropes.now.items c.args.rope c.index_mut.result.now
    c.shrink_to_fit.new.self
    (omega (arith, c.args.ropes.now.ok.0)) c.index_mut.ensures.value
    c.shrink_to_fit.ensures.text c.shrink_to_fit.ensures.breaks c.shrink_to_fit.ensures.kept
    c.shrink_to_fit.ensures.few c.shrink_to_fit.ensures.refused c.shrink_to_fit.ensures.err)
