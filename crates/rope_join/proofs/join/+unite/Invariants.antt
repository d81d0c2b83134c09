use Rattle.std.proofs.Common.{max}
use Rattle.rope_join.proofs.join.+unite.Given as goal

abbrev pub decreases-unite : goal.decreases-unite
decreases-unite l = max l.left.now.height l.right.now.height
