use Rattle.std.proofs.Common.{List, ◌++◌, drop, Option}
use Rattle.rope_script.specs.declared.script.Item.{Item}
use Rattle.rope_script.proofs.walks.items.Given as goal

abbrev pub invariant-loop-step : goal.invariant-loop-step
invariant-loop-step g l = (rest : List (Option Item))
    → g.W.Walker.gives l.walker (drop l.step-index l.moves) rest
    → g.W.Walker.gives l.fn.walker l.moves (l.items.items ++ rest)
