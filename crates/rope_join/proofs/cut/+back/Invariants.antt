use Rattle.std.proofs.Common.{◌+◌, ◌*◌}
use Rattle.rope_join.proofs.cut.+back.Given as goal

abbrev pub decreases-back_part : goal.decreases-back_part
decreases-back_part l = 3 * l.node.now.height

abbrev pub decreases-back : goal.decreases-back
decreases-back l = 3 * l.node.now.height + 1

abbrev pub decreases-with_back : goal.decreases-with_back
decreases-with_back l = 3 * l.left.now.height + 2
