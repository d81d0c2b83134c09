use Rattle.rope_leaf.proofs.Halving.{Halves}
use Rattle.rope_leaf.proofs.search.place_of.Given as goal

abbrev pub invariant-loop-room : goal.invariant-loop-room
invariant-loop-room l = Halves l.totals l.unit l.at l.base l.room l.initial.steps l.steps

abbrev pub decreases-loop-room : goal.decreases-loop-room
decreases-loop-room l = l.room
