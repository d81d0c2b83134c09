use Rattle.rope_text.specs.TextInfo.{HasPart}
use Rattle.rope_text.specs.Edit.{inserted}
use Rattle.rope_leaf.specs.Tree.{joined}
use Rattle.rope_leaf.specs.Insert.{AreGrown}
use Rattle.rope_tree.proofs.ChildLaws.{list_has, list_grown}
use Rattle.rope_tree.proofs.node.Children.cut_child.Goals.{After-total}
use Rattle.rope_tree.proofs.node.Children.cut_child.Goals as goal

grown : (c : After-total)
    → AreGrown c.args.self.now c.split_child.new.self
    (inserted (joined c.args.self.now) c.args.at c.args.added.now)
grown c =
    rw c.as_medium.ensures.value at (c.in_ok-split_child.ensures.tried.done c.if-not-branch.false)

-- the counts with the text include those before
has : (c : After-total) → HasPart c.total.result c.total-before.result
has c =
    list_has c.args.self.now c.split_child.new.self c.args.added.now c.args.at c.requires.children
    (grown c) c.requires.takes.some
    c.total-before.result c.total.result c.total-before.ensures c.total.ensures

pub minus-requires : goal.minus-requires
minus-requires c = has (goal.at.minus-requires c).After-total

pub returns-clause-change : goal.returns-clause-change
returns-clause-change c = λ yes.
    list_grown c.args.self.now c.split_child.new.self c.args.added.now c.args.at c.requires.children
    (grown (goal.at.returns-clause-change c).After-total) c.requires.takes.some
    c.total-before.result c.total.result c.total-before.ensures c.total.ensures c.minus.result
    c.minus.ensures.sum
