-- Before the first child and after the last is the leaf that the caller means, at the others the
-- adjacent child.
use Rattle.std.proofs.Common.{◌+◌, arith}
use Rattle.rope_leaf.proofs.BesideLaws.{some_next}
use Rattle.rope_leaf.proofs.beside.least_at.Goals as goal

pub returns-then-place-end-clause-last : goal.returns-then-place-end-clause-last
returns-then-place-end-clause-last c = λ ts b.
    let some =
    some_next _ _ ts (c.args.place + 1) b.children
    (omega (arith, c.requires, c.if-place-end.true, b.totals_right.as_many)) in
    record {
      dense = c.least_next_to-then-place-end.ensures.ahead ts b;
      at_end = λ empty. absurd (omega (arith, some));
    }
