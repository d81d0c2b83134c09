use Rattle.std.proofs.Common.{arith}
use Rattle.std.proofs.lemmas.Bool.{eqb-true}
use Rattle.rope_script.proofs.Contents.{of_content, edit_of}
use Rattle.rope_script.proofs.changing.insert.Goals as goal

pub returns : goal.returns
returns c =
    let old = c.args.ropes.now.items in
    let rope = c.index_mut.result.now in
    rw c.reply_to_edit.ensures
    (of_content _ old _ c.args.rope rope _ (omega (arith, c.args.ropes.now.ok.0))
    c.index_mut.ensures.value
    (edit_of c.try_insert.result old c.args.rope rope c.try_insert.new.self _ _ _
    c.index_mut.ensures.value
    c.try_insert.ensures.ok c.try_insert.ensures.refused c.try_insert.ensures.kept.0
    (λ z fine. c.try_insert.ensures.empty (eqb-true _ _ z) fine) c.try_insert.ensures.kept.1
    c.try_insert.ensures.kept.2))
