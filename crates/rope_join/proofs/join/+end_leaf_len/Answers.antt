use Rattle.std.proofs.Common.{◌∙◌, refl}
use Rattle.rope_join.proofs.Unions.{begins_in, ends_in}
use Rattle.rope_join.proofs.NearLaws.{dense_of_first, dense_by_first, last_of_last}
use Rattle.rope_join.proofs.join.+end_leaf_len.Goals as goal

pub returns-in-Inner-clause-last : goal.returns-in-Inner-clause-last
returns-in-Inner-clause-last t c = λ _ n.
    let e = ends_in _ _ _ c.in-Inner.ensures.is c.in-Inner.ensures.children
    c.index-children-children.is in
    c.end_leaf_len.ensures.last refl n ∙ last_of_last _ _ _ e n n

pub returns-in-Inner-2-clause-first : goal.returns-in-Inner-2-clause-first
returns-in-Inner-2-clause-first t c = λ _ n.
    let e = begins_in _ _ _ c.in-Inner.ensures.is c.in-Inner.ensures.children
    c.index-children-0.is in
    let own = c.end_leaf_len-in-Inner-2.ensures.first refl n in
    (λ half. dense_by_first _ _ _ e n (own.0 half), λ dense. own.1 (dense_of_first _ _ _ e n dense))
