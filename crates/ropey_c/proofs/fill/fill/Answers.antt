use Rattle.std.proofs.Common.{[], refl, arith}
use Rattle.ropey_c.proofs.Filling.{next_filled, filled, filled_full}
use Rattle.ropey_c.proofs.fill.fill.Goals as goal

pub loop-count-init : goal.loop-count-init
loop-count-init g c = (
  record {
    items = [];
    given = refl;
    count_is = refl;
    written = tt;
    kept = refl;
    room = refl;
    within = omega arith;
  },
  c.requires.0,
)

pub loop-count-preserved : goal.loop-count-preserved
loop-count-preserved g c = (
  next_filled _ _ _ _ _ _ _ c.loop-count.invariant.0 c.in-Some.item c.next.new.self c.from.result
      c.in-Some.ensures.steps c.from.ensures c.loop-count-test.true,
  c.in-Some.ensures.goes.keeps,
)

pub returns-in_default : goal.returns-in_default
returns-in_default g c =
    filled _ _ _ _ _ _ _ c.loop-count.invariant.0
    (λ _. (c.next.new.self, c.in_default.ensures.steps))

pub returns : goal.returns
returns g c = filled_full _ _ _ _ _ _ _ c.loop-count.invariant.0 c.loop-count-test.false
