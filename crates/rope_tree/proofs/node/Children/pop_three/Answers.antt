use Rattle.std.proofs.Common.{[], ◌∷◌, subst}
use Rattle.rope_leaf.specs.Tree.{tree_over}
use Rattle.rope_tree.proofs.MoveLaws.{AreMovable, movable, movable_left}
use Rattle.rope_tree.proofs.node.Children.pop_three.Goals.{In_ok-third}
use Rattle.rope_tree.proofs.node.Children.pop_three.Goals as goal

kept : (c : In_ok-third) → AreMovable c.pop_list.new.self
kept c =
    movable_left c.pop_list.new.self (tree_over c.in_ok-third.third.value ∷ [])
    (subst AreMovable c.in_ok-third.ensures.list (movable _ c.requires.level c.requires.few))

pub pop_two-requires-clause-level : goal.pop_two-requires-clause-level
pop_two-requires-clause-level c =
    (kept (goal.at.pop_two-requires-clause-level c).In_ok-third).level

pub pop_two-requires-clause-few : goal.pop_two-requires-clause-few
pop_two-requires-clause-few c =
    (kept (goal.at.pop_two-requires-clause-few c).In_ok-third).few
