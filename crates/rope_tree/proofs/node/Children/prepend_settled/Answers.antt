use Rattle.std.proofs.Common.{◌≡◌, List, ◌++◌, sym, ap, ap₂, subst, ◌∙◌}
use Rattle.std.proofs.lemmas.List.{append_assoc}
use Rattle.rope_leaf.specs.Tree.{Tree}
use Rattle.rope_tree.specs.Split.{nodes_over, AreSettled}
use Rattle.rope_tree.proofs.MoveLaws.{AreMovable, movable, movable_right}
use Rattle.rope_tree.proofs.SettledLaws.{settled, family_first, family_second}
use Rattle.rope_tree.proofs.node.Children.prepend_settled.Goals.{After-settle, After-push_front_over}
use Rattle.rope_tree.proofs.node.Children.prepend_settled.Goals as goal

module _ (c : After-settle) where
  abbrev all : List Tree
  all = c.args.first.value ++ c.args.second.value

  children : AreMovable all
  children = movable all c.requires.level c.requires.few

  same : c.settle.new.self ++ c.settle.new.right ≡ all
  same = c.settle.ensures.same ∙ ap₂ (λ x y. x ++ y) c.as_mut.ensures.value c.as_mut-2.ensures.value

  both : AreSettled all (nodes_over c.settle.new.self ++ nodes_over c.settle.new.right)
  both =
      settled all c.settle.new.self c.settle.new.right children same c.settle.ensures.least
      c.settle.ensures.most c.settle.ensures.least_right c.settle.ensures.most_right

  whole : AreMovable
      (nodes_over c.settle.new.self ++ (nodes_over c.settle.new.right ++ c.args.self.now))
  whole =
      subst AreMovable (append_assoc _ _ c.args.self.now)
      (movable _ (c.requires.fits _ both) (c.requires.narrow _ both))

  -- the list with the second node
  second : AreMovable (nodes_over c.settle.new.right ++ c.args.self.now)
  second = movable_right _ _ whole

pub push_front_over-requires-clause-family : goal.push_front_over-requires-clause-family
push_front_over-requires-clause-family c = λ some.
    let e = (goal.at.push_front_over-requires-clause-family c).After-settle in
    family_second (all e) c.settle.new.self c.settle.new.right (children e) (same e)
    c.settle.ensures.least c.settle.ensures.most c.settle.ensures.least_right
    c.settle.ensures.most_right some

pub push_front_over-requires-clause-level : goal.push_front_over-requires-clause-level
push_front_over-requires-clause-level c =
    (second (goal.at.push_front_over-requires-clause-level c).After-settle).level

pub push_front_over-requires-clause-few : goal.push_front_over-requires-clause-few
push_front_over-requires-clause-few c =
    (second (goal.at.push_front_over-requires-clause-few c).After-settle).few

pub push_front_over-requires-2-clause-family : goal.push_front_over-requires-2-clause-family
push_front_over-requires-2-clause-family c = λ some.
    let e = (goal.at.push_front_over-requires-2-clause-family c).After-settle in
    family_first (all e) c.settle.new.self c.settle.new.right (children e) (same e)
    c.settle.ensures.least c.settle.ensures.most c.settle.ensures.least_right
    c.settle.ensures.most_right

-- the list with both nodes
grown : (c : After-push_front_over)
    → AreMovable (nodes_over c.settle.new.self ++ c.push_front_over.new.self)
grown c =
    subst AreMovable (sym (ap (λ l. nodes_over c.settle.new.self ++ l) c.push_front_over.ensures))
    (whole (goal.at.After-push_front_over c).After-settle)

pub push_front_over-requires-2-clause-level : goal.push_front_over-requires-2-clause-level
push_front_over-requires-2-clause-level c =
    (grown (goal.at.push_front_over-requires-2-clause-level c).After-push_front_over).level

pub push_front_over-requires-2-clause-few : goal.push_front_over-requires-2-clause-few
push_front_over-requires-2-clause-few c =
    (grown (goal.at.push_front_over-requires-2-clause-few c).After-push_front_over).few

pub returns-clause-prepended : goal.returns-clause-prepended
returns-clause-prepended c = record {
  nodes = nodes_over c.settle.new.self ++ nodes_over c.settle.new.right;
  settled = both (goal.at.returns-clause-prepended c).After-settle;
  is = c.push_front_over-2.ensures
      ∙ ap (λ l. nodes_over c.settle.new.self ++ l) c.push_front_over.ensures
      ∙ sym (append_assoc _ _ c.args.self.now);
}
