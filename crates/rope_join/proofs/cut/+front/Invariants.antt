use Rattle.std.proofs.Common.{◌+◌, ◌*◌}
use Rattle.rope_join.proofs.cut.+front.Given as goal

abbrev pub decreases-front_part : goal.decreases-front_part
decreases-front_part l = 3 * l.node.now.height

abbrev pub decreases-front : goal.decreases-front
decreases-front l = 3 * l.node.now.height + 1

abbrev pub decreases-with_front : goal.decreases-with_front
decreases-with_front l = 3 * l.right.now.height + 2
