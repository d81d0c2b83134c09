-- Each iteration makes the next level.
use Rattle.std.proofs.Common.{◌∙◌, ◌≤◌, length, ap, sym, subst, arith}
use Rattle.std.proofs.lemmas.Result.{IfOk-weaker}
use Rattle.rope_leaf.specs.Tree.{IsTree, AreChildren, height_of, breaks_of, tree_over}
use Rattle.rope_leaf.proofs.TreeLaws.{is_tree_over}
use Rattle.rope_leaf.proofs.NodeLaws.{children_of_first}
use Rattle.rope_leaf.proofs.InsertTrees.{siblings_of_first}
use Rattle.rope_leaf.proofs.SiblingLaws.{children_of}
use Rattle.rope_tree.proofs.BuildLaws.{level_up}
use Rattle.rope_tree.proofs.build.root_over.Goals.{After-deref-2}
use Rattle.rope_tree.proofs.build.root_over.Goals as goal

pub loop-level-preserved : goal.loop-level-preserved
loop-level-preserved c =
    let ts = c.loop-level.level.items in
    let us = c.in_ok-level.level.items in
    let few = c.in_ok-level.ensures.count in
    let least = rw c.deref.ensures.value at c.count_over-count.ensures.least in
    let most = rw c.deref.ensures.value at c.count_over-count.ensures.most in
    let more : 1 ≤ length us = omega arith in
    record {
      siblings =
          level_up _ _ ts us c.loop-level.invariant.siblings c.loop-level.invariant.some
          (rw c.deref-in-loop-level.ensures.value at c.in_ok-level.ensures.siblings) more;
      some = more;
      same = rw c.deref-in-loop-level.ensures.value at c.in_ok-level.ensures.leaves
          ∙ c.loop-level.invariant.same;
      made = omega (arith, c.in_ok-level.ensures.made, few, c.loop-level.invariant.made);
    }

children : (c : After-deref-2)
    → AreChildren (breaks_of c.loop-level.level.items) (height_of c.loop-level.level.items)
    c.loop-level.level.items
children c =
    let ts = c.loop-level.level.items in
    children_of_first _ _ ts
    (children_of _ _ ts c.loop-level.invariant.siblings (omega (arith, c.loop-level.invariant.some))
    (omega arith))

pub node_over-requires : goal.node_over-requires
node_over-requires c =
    rw c.deref-2.ensures.value (children (goal.at.node_over-requires c).After-deref-2)

pub returns-clause-tree : goal.returns-clause-tree
returns-clause-tree c =
    let ts = c.loop-level.level.items in
    let whole =
    is_tree_over (breaks_of ts) (height_of ts) ts
    (children (goal.at.returns-clause-tree c).After-deref-2) in
    IfOk-weaker c.node_over.result _ _
    (λ node is. subst IsTree (sym (is ∙ ap tree_over c.deref-2.ensures.value)) whole)
    c.node_over.ensures.ok

pub level_over-requires-clause-siblings : goal.level_over-requires-clause-siblings
level_over-requires-clause-siblings c =
    rw c.deref-in-loop-level.ensures.value
    (siblings_of_first _ _ c.loop-level.level.items c.loop-level.invariant.some
    c.loop-level.invariant.siblings)
