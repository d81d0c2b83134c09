use Rattle.std.proofs.Common.{[], ◌∷◌, ◌++◌, sym, subst}
use Rattle.std.proofs.lemmas.List.{append_assoc}
use Rattle.rope_leaf.specs.Tree.{tree_over}
use Rattle.rope_tree.proofs.MoveLaws.{AreMovable, movable, movable_left}
use Rattle.rope_tree.proofs.node.Children.push_two.Goals.{After-over}
use Rattle.rope_tree.proofs.node.Children.push_two.Goals as goal

pushed : (c : After-over) → AreMovable (c.args.self.now ++ c.over.result ∷ [])
pushed c =
    subst (λ t. AreMovable (c.args.self.now ++ t ∷ [])) (sym c.over.ensures)
    (movable_left (c.args.self.now ++ tree_over c.args.first.value ∷ [])
    (tree_over c.args.second.value ∷ [])
    (subst AreMovable (sym (append_assoc c.args.self.now (tree_over c.args.first.value ∷ [])
    (tree_over c.args.second.value ∷ []))) (movable _ c.requires.level c.requires.few)))

pub push-requires-clause-level : goal.push-requires-clause-level
push-requires-clause-level c = (pushed (goal.at.push-requires-clause-level c).After-over).level

pub push-requires-clause-few : goal.push-requires-clause-few
push-requires-clause-few c = (pushed (goal.at.push-requires-clause-few c).After-over).few
