use Rattle.rope_tree.proofs.node.+splitting.Given as goal

abbrev pub decreases-Children::insert_splitting : goal.decreases-Children::insert_splitting
decreases-Children::insert_splitting l = goal.size-Children::insert_splitting l

abbrev pub decreases-Node::insert_splitting : goal.decreases-Node::insert_splitting
decreases-Node::insert_splitting l = goal.size-Node::insert_splitting l
