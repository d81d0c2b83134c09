use Rattle.std.proofs.Common.{◌-◌}
use Rattle.rope_leaf.proofs.leaf.Leaf.touch.Given as goal

abbrev pub decreases-loop-at : goal.decreases-loop-at
decreases-loop-at l = l.len - l.at
