use Rattle.rope_join.proofs.join.+end_leaf_len.Given as goal

abbrev pub decreases-end_leaf_len : goal.decreases-end_leaf_len
decreases-end_leaf_len l = l.node.now.height
