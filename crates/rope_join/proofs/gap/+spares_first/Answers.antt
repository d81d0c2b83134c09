use Rattle.std.proofs.Common.{◌≡◌, ℕ, take, length, sym, ap, ◌∙◌, arith}
use Rattle.std.specs.List.{concat}
use Rattle.rope_leaf.specs.Tree.{leaves_of}
use Rattle.rope_join.proofs.Gaps.{spares_first_at, first_child_cuts}
use Rattle.rope_join.proofs.gap.+spares_first.Goals.{After-get}
use Rattle.rope_join.proofs.gap.+spares_first.Goals as goal

-- the number of characters of the first child
first : (t : ℕ) (c : After-get t) → c.get.result.chars
    ≡ length (concat (leaves_of (take 1 c.in-Inner.children.now)))
first t c =
    let i = c.in-Inner.ensures in
    ap (λ x. x.chars) (c.get.ensures c.get.result)
    ∙ ap (λ x. x.chars) (i.totals_right.total_at 0 c.get.result
    (omega (arith, i.children.at_least_two)))

pub returns-then-get-at-clause-spares : goal.returns-then-get-at-clause-spares
returns-then-get-at-clause-spares t c e =
    let ts = c.in-Inner.children.now in
    let i = c.in-Inner.ensures in
    spares_first_at c.args.node.now ts 1 c.args.at i.is i.children (omega arith)
    (omega (arith, i.children.at_least_two))
    (omega (
      arith,
      c.if-get-at.true,
      first t
          (goal.at.returns-then-get-at-clause-spares t c).After-get,
    ))

pub returns-else-get-at-clause-cuts : goal.returns-else-get-at-clause-cuts
returns-else-get-at-clause-cuts t c fails above =
    let ts = c.in-Inner.children.now in
    let i = c.in-Inner.ensures in
    first_child_cuts c.args.node.now ts 0 c.args.at i.is i.children c.index-children-0.result
    (sym c.index-children-0.is)
    (omega (
      arith,
      c.if-get-at.false,
      first t
          (goal.at.returns-else-get-at-clause-cuts t c).After-get,
    )) (c.spares_first.ensures.cuts fails)
