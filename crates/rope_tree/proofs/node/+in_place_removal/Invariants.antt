use Rattle.rope_tree.proofs.node.+in_place_removal.Given as goal

abbrev pub decreases-Children::remove_in_place : goal.decreases-Children::remove_in_place
decreases-Children::remove_in_place l = goal.size-Children::remove_in_place l

abbrev pub decreases-Node::remove_in_place : goal.decreases-Node::remove_in_place
decreases-Node::remove_in_place l = goal.size-Node::remove_in_place l
