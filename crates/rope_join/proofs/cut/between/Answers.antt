use Rattle.std.proofs.Common.{◌≡◌, ◌+◌, ◌-◌, take, drop, ap, ◌∙◌, arith}
use Rattle.std.proofs.lemmas.List.{drop-take}
use Rattle.std.proofs.lemmas.Result.{IfOk-weaker}
use Rattle.rope_leaf.specs.Tree.{text}
use Rattle.rope_join.proofs.cut.between.Goals as goal

pub returns-clause-text : goal.returns-clause-text
returns-clause-text c =
    let whole = c.in_ok-front.ensures.front.text_is in
    let more : c.args.end ≡ c.args.start + (c.args.end - c.args.start) =
    omega (arith, c.requires.ordered) in
    IfOk-weaker c.back.result _ _ (λ part is.
    is.text_is ∙ ap (drop c.args.start) (whole ∙ ap (λ n. take n (text c.args.node.now)) more)
    ∙ drop-take c.args.start (c.args.end - c.args.start) (text c.args.node.now)) c.back.ensures.back
