use Rattle.std.proofs.Common.{arith}
use Rattle.std.proofs.lemmas.Bool.{eqb-true}
use Rattle.rope_script.proofs.Contents.{of_content, edit_of}
use Rattle.rope_script.proofs.changing.remove.Goals as goal

pub returns : goal.returns
returns c =
    let old = c.args.ropes.now.items in
    let rope = c.index_mut.result.now in
    rw c.reply_to_edit.ensures
    (of_content _ old _ c.args.rope rope _ (omega (arith, c.args.ropes.now.ok.0))
    c.index_mut.ensures.value
    (edit_of c.try_remove.result old c.args.rope rope c.try_remove.new.self _ _ _
    c.index_mut.ensures.value
    c.try_remove.ensures.ok c.try_remove.ensures.refused c.try_remove.ensures.kept.0
    (λ z fine. c.try_remove.ensures.empty fine (eqb-true _ _ z)) c.try_remove.ensures.kept.1
    c.try_remove.ensures.kept.2))
