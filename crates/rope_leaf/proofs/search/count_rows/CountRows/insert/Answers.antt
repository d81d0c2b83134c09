use Rattle.std.proofs.Common.{refl, arith}
use Rattle.rope_leaf.specs.Narrow.{IsNarrow}
use Rattle.rope_leaf.proofs.CountsKept.{many, all_below, one_more, put_before_same, put_here, put_after_same, put_totals}
use Rattle.rope_leaf.proofs.search.count_rows.CountRows.insert.Goals.{After-self}
use Rattle.rope_leaf.proofs.search.count_rows.CountRows.insert.Goals as goal

narrow : (c : After-self) → IsNarrow c.args.total
narrow c =
    c.requires.narrow (all_below c.self.inside c.args.self.now c.self.invariant c.self.view_is)

pub overflow_cast-total : goal.overflow_cast-total
overflow_cast-total c = omega (arith, (narrow (goal.at.overflow_cast-total c).After-self).bytes)

pub overflow_cast-total-2 : goal.overflow_cast-total-2
overflow_cast-total-2 c = omega (arith, (narrow (goal.at.overflow_cast-total-2 c).After-self).chars)

pub overflow_cast-total-3 : goal.overflow_cast-total-3
overflow_cast-total-3 c = omega (arith, (narrow (goal.at.overflow_cast-total-3 c).After-self).pairs)

pub overflow_cast-total-4 : goal.overflow_cast-total-4
overflow_cast-total-4 c =
    omega (arith, (narrow (goal.at.overflow_cast-total-4 c).After-self).breaks)

pub put_in-requires : goal.put_in-requires
put_in-requires c =
    omega (
      arith,
      c.requires.within,
      c.requires.room,
      c.self.invariant.bytes,
      many c.self.inside c.args.self.now c.self.view_is,
    )

pub put_in-requires-2 : goal.put_in-requires-2
put_in-requires-2 c =
    omega (
      arith,
      c.requires.within,
      c.requires.room,
      c.self.invariant.chars,
      many c.self.inside c.args.self.now c.self.view_is,
    )

pub put_in-requires-3 : goal.put_in-requires-3
put_in-requires-3 c =
    omega (
      arith,
      c.requires.within,
      c.requires.room,
      c.self.invariant.pairs,
      many c.self.inside c.args.self.now c.self.view_is,
    )

pub put_in-requires-4 : goal.put_in-requires-4
put_in-requires-4 c =
    omega (
      arith,
      c.requires.within,
      c.requires.room,
      c.self.invariant.breaks,
      many c.self.inside c.args.self.now c.self.view_is,
    )

pub invariant_of-self : goal.invariant_of-self
invariant_of-self c =
    put_totals c.self.inside _ c.args.self.now c.self.invariant c.self.view_is c.args.place
    c.args.total c.requires.within c.requires.room (narrow (goal.at.invariant_of-self c).After-self)
    refl c.put_in.ensures c.put_in-2.ensures c.put_in-3.ensures c.put_in-4.ensures

pub returns-clause-len : goal.returns-clause-len
returns-clause-len c =
    one_more c.self.inside _ c.args.self.now c.self.invariant c.self.view_is c.args.place
    c.args.total c.requires.within c.requires.room
    (narrow (goal.at.returns-clause-len c).After-self)
    refl c.put_in.ensures c.put_in-2.ensures c.put_in-3.ensures c.put_in-4.ensures

pub returns-clause-before : goal.returns-clause-before
returns-clause-before c =
    put_before_same c.self.inside _ c.args.self.now c.self.invariant c.self.view_is c.args.place
    c.args.total c.requires.within c.requires.room
    (narrow (goal.at.returns-clause-before c).After-self)
    refl c.put_in.ensures c.put_in-2.ensures c.put_in-3.ensures c.put_in-4.ensures

pub returns-clause-here : goal.returns-clause-here
returns-clause-here c =
    put_here c.self.inside _ c.args.self.now c.self.invariant c.self.view_is c.args.place
    c.args.total c.requires.within c.requires.room
    (narrow (goal.at.returns-clause-here c).After-self)
    refl c.put_in.ensures c.put_in-2.ensures c.put_in-3.ensures c.put_in-4.ensures

pub returns-clause-following : goal.returns-clause-following
returns-clause-following c =
    put_after_same c.self.inside _ c.args.self.now c.self.invariant c.self.view_is c.args.place
    c.args.total c.requires.within c.requires.room
    (narrow (goal.at.returns-clause-following c).After-self)
    refl c.put_in.ensures c.put_in-2.ensures c.put_in-3.ensures c.put_in-4.ensures
