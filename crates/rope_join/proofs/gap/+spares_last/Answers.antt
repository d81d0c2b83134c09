use Rattle.std.proofs.Common.{◌≡◌, ℕ, ◌+◌, ◌-◌, ◌<◌, take, length, sym, ap, ◌∙◌, arith}
use Rattle.std.specs.List.{concat}
use Rattle.rope_leaf.specs.Tree.{leaves_of}
use Rattle.rope_join.proofs.Gaps.{spares_last_at, last_child_spares, last_child_cuts}
use Rattle.rope_join.proofs.gap.+spares_last.Goals.{After-total_before-before}
use Rattle.rope_join.proofs.gap.+spares_last.Goals as goal

-- the number of characters before the last child
before : (t : ℕ) (c : After-total_before-before t)
    → c.total_before-before.result.chars ≡ length
    (concat (leaves_of (take (length c.in-Inner.children.now - 1) c.in-Inner.children.now)))
before t c =
    let ts = c.in-Inner.children.now in
    let i = c.in-Inner.ensures in
    let k = length ts - 1 in
    let some : 0 < k = omega (arith, i.children.at_least_two) in
    let total =
    ap (λ x. x.chars) (c.total_before-before.ensures.later c.total_before-before.result some) in
    let right =
    ap (λ x. x.chars) (i.totals_right.total_at (k - 1) c.total_before-before.result
    (omega (arith, i.children.at_least_two))) in
    let more : k - 1 + 1 ≡ k = omega (arith, some) in
    total ∙ right ∙ ap (λ n. length (concat (leaves_of (take n ts)))) more

pub returns-then-at-before-clause-spares : goal.returns-then-at-before-clause-spares
returns-then-at-before-clause-spares t c e =
    let ts = c.in-Inner.children.now in
    let i = c.in-Inner.ensures in
    spares_last_at c.args.node.now ts (length ts - 1) c.args.at i.is i.children
    (omega (arith, i.children.at_least_two))
    (omega (
      arith,
      c.if-at-before.true,
      before t
          (goal.at.returns-then-at-before-clause-spares t c).After-total_before-before,
    ))

pub returns-else-at-before-clause-spares : goal.returns-else-at-before-clause-spares
returns-else-at-before-clause-spares t c e =
    let ts = c.in-Inner.children.now in
    let i = c.in-Inner.ensures in
    last_child_spares c.args.node.now ts (length ts - 1) c.args.at i.is i.children
    c.index-children-last.result (c.args.at - c.total_before-before.result.chars)
    (omega (arith, i.children.at_least_two)) (sym c.index-children-last.is)
    (omega (
      arith,
      c.if-at-before.false,
      before t
          (goal.at.returns-else-at-before-clause-spares t c).After-total_before-before,
    )) (c.spares_last.ensures.spares e)

pub returns-else-at-before-clause-cuts : goal.returns-else-at-before-clause-cuts
returns-else-at-before-clause-cuts t c fails above =
    let ts = c.in-Inner.children.now in
    let i = c.in-Inner.ensures in
    last_child_cuts c.args.node.now ts (length ts - 1) c.args.at i.is i.children
    c.index-children-last.result (c.args.at - c.total_before-before.result.chars)
    (omega (arith, i.children.at_least_two)) (sym c.index-children-last.is)
    (omega (
      arith,
      c.if-at-before.false,
      before t
          (goal.at.returns-else-at-before-clause-cuts t c).After-total_before-before,
    )) (omega (arith, c.if-at-before.false)) (c.spares_last.ensures.cuts fails)
