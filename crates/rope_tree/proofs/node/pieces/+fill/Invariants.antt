use Rattle.std.proofs.Common.{length}
use Rattle.rope_tree.proofs.node.pieces.+fill.Given as goal

abbrev pub decreases-fill : goal.decreases-fill
decreases-fill l = length l.text.now
