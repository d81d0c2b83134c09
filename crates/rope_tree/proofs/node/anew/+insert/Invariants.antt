use Rattle.rope_tree.proofs.node.anew.+insert.Given as goal

abbrev pub decreases-insert : goal.decreases-insert
decreases-insert l = l.node.now.height
