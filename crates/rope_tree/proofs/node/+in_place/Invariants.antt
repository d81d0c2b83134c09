use Rattle.rope_tree.proofs.node.+in_place.Given as goal

abbrev pub decreases-Children::insert_in_place : goal.decreases-Children::insert_in_place
decreases-Children::insert_in_place l = goal.size-Children::insert_in_place l

abbrev pub decreases-Node::insert_in_place : goal.decreases-Node::insert_in_place
decreases-Node::insert_in_place l = goal.size-Node::insert_in_place l
