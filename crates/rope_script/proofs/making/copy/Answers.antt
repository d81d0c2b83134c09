use Rattle.std.proofs.Common.{◌++◌, ◌∷◌, [], length, ap, ◌∙◌, arith}
use Rattle.rope_slice.specs.Slice.{content_of}
use Rattle.rope_script.specs.declared.script.Reply.TheVariants.{Made}
use Rattle.rope_script.proofs.Contents.{copied_of, uncopied_of}
use Rattle.rope_script.proofs.making.copy.Goals as goal

pub returns-in-Ok-clause-step : goal.returns-in-Ok-clause-step
returns-in-Ok-clause-step c =
    let same = c.in_ok-reserve.ensures.items in
    copied_of c.args.ropes.now.items c.add.new.ropes.items c.args.rope c.args.range
    c.index.result.now c.in-Ok.copy (content_of c.in-Some.part) c.add.result
    (omega (arith, c.args.ropes.now.ok.0)) c.index.ensures c.in-Some.ensures c.in-Ok.ensures.text
    c.in-Ok.ensures.breaks c.in-Ok.ensures.kept
    (c.add.ensures.reply ∙ ap (λ items. Made (length items)) same) (c.add.ensures.added
    ∙ ap (λ items. items ++ c.in-Ok.copy ∷ []) same)

pub returns-in-Err-clause-step : goal.returns-in-Err-clause-step
returns-in-Err-clause-step c =
    rw c.in_ok-reserve.ensures.items
    (uncopied_of c.args.ropes.now.items c.args.rope c.args.range c.index.result.now
    (content_of c.in-Some.part) c.in-Err.error
    (omega (arith, c.args.ropes.now.ok.0)) c.index.ensures c.in-Some.ensures c.in-Err.ensures.err)
