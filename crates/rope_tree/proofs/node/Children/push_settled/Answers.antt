use Rattle.std.proofs.Common.{◌≡◌, List, ◌++◌, sym, ap, ap₂, subst, ◌∙◌}
use Rattle.std.proofs.lemmas.List.{append_assoc}
use Rattle.rope_leaf.specs.Tree.{Tree}
use Rattle.rope_tree.specs.Split.{nodes_over, AreSettled}
use Rattle.rope_tree.proofs.MoveLaws.{AreMovable, movable, movable_left}
use Rattle.rope_tree.proofs.SettledLaws.{settled, family_first, family_second}
use Rattle.rope_tree.proofs.node.Children.push_settled.Goals.{After-settle, After-push_over}
use Rattle.rope_tree.proofs.node.Children.push_settled.Goals as goal

module _ (c : After-settle) where
  abbrev all : List Tree
  all = c.args.first.value ++ c.args.second.value

  children : AreMovable all
  children = movable all c.requires.level c.requires.few

  same : c.settle.new.self ++ c.settle.new.right ≡ all
  same = c.settle.ensures.same ∙ ap₂ (λ x y. x ++ y) c.as_mut.ensures.value c.as_mut-2.ensures.value

  both : AreSettled all (nodes_over c.settle.new.self ++ nodes_over c.settle.new.right)
  both =
      settled all c.settle.new.self c.settle.new.right children same c.settle.ensures.least
      c.settle.ensures.most c.settle.ensures.least_right c.settle.ensures.most_right

  -- the list with the first node
  pushed : AreMovable (c.args.self.now ++ nodes_over c.settle.new.self)
  pushed =
      movable_left (c.args.self.now ++ nodes_over c.settle.new.self)
      (nodes_over c.settle.new.right)
      (subst AreMovable (sym (append_assoc c.args.self.now _ _))
      (movable _ (c.requires.fits _ both) (c.requires.narrow _ both)))

pub push_over-requires-clause-family : goal.push_over-requires-clause-family
push_over-requires-clause-family c = λ some.
    let e = (goal.at.push_over-requires-clause-family c).After-settle in
    family_first (all e) c.settle.new.self c.settle.new.right (children e) (same e)
    c.settle.ensures.least c.settle.ensures.most c.settle.ensures.least_right
    c.settle.ensures.most_right

pub push_over-requires-clause-level : goal.push_over-requires-clause-level
push_over-requires-clause-level c =
    (pushed (goal.at.push_over-requires-clause-level c).After-settle).level

pub push_over-requires-clause-few : goal.push_over-requires-clause-few
push_over-requires-clause-few c =
    (pushed (goal.at.push_over-requires-clause-few c).After-settle).few

pub push_over-requires-2-clause-family : goal.push_over-requires-2-clause-family
push_over-requires-2-clause-family c =
    let e = (goal.at.push_over-requires-2-clause-family c).After-settle in
    family_second (all e) c.settle.new.self c.settle.new.right (children e) (same e)
    c.settle.ensures.least c.settle.ensures.most c.settle.ensures.least_right
    c.settle.ensures.most_right

-- the list with both nodes
module _ (c : After-push_over) where
  list_is : c.push_over.new.self ++ nodes_over c.settle.new.right ≡ c.args.self.now
      ++ (nodes_over c.settle.new.self ++ nodes_over c.settle.new.right)
  list_is = ap (λ l. l ++ nodes_over c.settle.new.right) c.push_over.ensures
      ∙ append_assoc c.args.self.now _ _

  grown : AreMovable (c.push_over.new.self ++ nodes_over c.settle.new.right)
  grown =
      let t = both (goal.at.After-push_over c).After-settle in
      subst AreMovable (sym list_is) (movable _ (c.requires.fits _ t) (c.requires.narrow _ t))

pub push_over-requires-2-clause-level : goal.push_over-requires-2-clause-level
push_over-requires-2-clause-level c =
    (grown (goal.at.push_over-requires-2-clause-level c).After-push_over).level

pub push_over-requires-2-clause-few : goal.push_over-requires-2-clause-few
push_over-requires-2-clause-few c =
    (grown (goal.at.push_over-requires-2-clause-few c).After-push_over).few

pub returns-clause-pushed : goal.returns-clause-pushed
returns-clause-pushed c = record {
  nodes = nodes_over c.settle.new.self ++ nodes_over c.settle.new.right;
  settled = both (goal.at.returns-clause-pushed c).After-settle;
  is = c.push_over-2.ensures ∙ list_is (goal.at.returns-clause-pushed c).After-push_over;
}
