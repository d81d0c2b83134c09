use Rattle.std.proofs.Common.{[], ◌∷◌, subst}
use Rattle.rope_leaf.specs.Tree.{tree_over}
use Rattle.rope_tree.proofs.MoveLaws.{AreMovable, movable, movable_left}
use Rattle.rope_tree.proofs.node.Children.pop_two.Goals.{In_ok-second}
use Rattle.rope_tree.proofs.node.Children.pop_two.Goals as goal

kept : (c : In_ok-second) → AreMovable c.pop_list.new.self
kept c =
    movable_left c.pop_list.new.self (tree_over c.in_ok-second.second.value ∷ [])
    (subst AreMovable c.in_ok-second.ensures.list (movable _ c.requires.level c.requires.few))

pub pop_list-requires-2-clause-level : goal.pop_list-requires-2-clause-level
pop_list-requires-2-clause-level c =
    (kept (goal.at.pop_list-requires-2-clause-level c).In_ok-second).level

pub pop_list-requires-2-clause-few : goal.pop_list-requires-2-clause-few
pop_list-requires-2-clause-few c =
    (kept (goal.at.pop_list-requires-2-clause-few c).In_ok-second).few
