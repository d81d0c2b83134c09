use Rattle.std.proofs.Common.{◌++◌, [], ◌∷◌, take, sym, ap, ◌∙◌, arith}
use Rattle.std.proofs.lemmas.List.{take_more}
use Rattle.rope_leaf.proofs.search.widened.Goals as goal

pub loop-place-preserved : goal.loop-place-preserved
loop-place-preserved c =
    let total = c.get.result in
    let one =
    take_more c.args.totals.now c.loop-place.place total
    (omega (arith, c.loop-place-test.true, c.len-place-end.ensures)) in
    c.push.ensures.items ∙ ap (λ l. l ++ total ∷ []) (ap (λ v. v.items) c.deref_mut.ensures.value
    ∙ c.loop-place.invariant)
    ∙ ap (λ x. take c.loop-place.place c.args.totals.now ++ x ∷ []) (c.get.ensures total) ∙ sym one
