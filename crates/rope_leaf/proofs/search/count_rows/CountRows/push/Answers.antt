use Rattle.std.proofs.Common.{refl, arith}
use Rattle.rope_leaf.specs.Narrow.{IsNarrow}
use Rattle.rope_leaf.proofs.CountsKept.{all_below, pushed, pushed_totals}
use Rattle.rope_leaf.proofs.search.count_rows.CountRows.push.Goals.{After-self}
use Rattle.rope_leaf.proofs.search.count_rows.CountRows.push.Goals as goal

narrow : (c : After-self) → IsNarrow c.args.total
narrow c =
    c.requires.narrow (all_below c.self.inside c.args.self.now c.self.invariant c.self.view_is)

pub overflow_cast-self : goal.overflow_cast-self
overflow_cast-self c = omega (arith, (narrow (goal.at.overflow_cast-self c).After-self).bytes)

pub overflow_cast-self-2 : goal.overflow_cast-self-2
overflow_cast-self-2 c = omega (arith, (narrow (goal.at.overflow_cast-self-2 c).After-self).chars)

pub overflow_cast-self-3 : goal.overflow_cast-self-3
overflow_cast-self-3 c = omega (arith, (narrow (goal.at.overflow_cast-self-3 c).After-self).pairs)

pub overflow_cast-self-4 : goal.overflow_cast-self-4
overflow_cast-self-4 c =
    omega (arith, (narrow (goal.at.overflow_cast-self-4 c).After-self).breaks)

pub returns : goal.returns
returns c =
    pushed c.self.inside _ c.args.self.now c.self.invariant c.self.view_is c.args.total
    c.requires.room (narrow (goal.at.returns c).After-self) refl refl refl refl refl

pub invariant_of-self : goal.invariant_of-self
invariant_of-self c =
    pushed_totals c.self.inside _ c.args.self.now c.self.invariant c.self.view_is c.args.total
    c.requires.room (narrow (goal.at.invariant_of-self c).After-self) refl refl refl refl refl
