use Rattle.std.proofs.Common.{arith, ap}
use Rattle.std.proofs.lemmas.Result.{IfOk-weaker}
use Rattle.rope_leaf.specs.Tree.{IsTree}
use Rattle.rope_join.specs.Join.{IsJoin}
use Rattle.rope_tree.proofs.LastCalls.{both_ok}
use Rattle.rope_join.proofs.Whole.{join_empty_right, join_empty_left, join_root, join_tree, root_siblings}
use Rattle.rope_join.proofs.join.join.Goals as goal

pub returns-then-info-eq0-clause-join : goal.returns-then-info-eq0-clause-join
returns-then-info-eq0-clause-join c =
    both_ok c.share.result _ _ (IsJoin c.args.left.now c.args.right.now) (λ node e own.
    join_empty_right c.args.left.now c.args.right.now node (rw e at own) c.info.ensures.tree
    (omega (arith, ap (λ x. x.bytes) c.info.ensures.value)) c.requires e) c.share.ensures.same
    c.share.ensures.tree

pub returns-then-info-eq0-2-clause-join : goal.returns-then-info-eq0-2-clause-join
returns-then-info-eq0-2-clause-join c =
    IfOk-weaker c.share-then-info-eq0-2.result _ (IsJoin c.args.left.now c.args.right.now)
    (λ node e.
    join_empty_left c.args.left.now c.args.right.now node c.info-2.ensures.tree c.info.ensures.tree
    (omega (arith, ap (λ x. x.bytes) c.info-2.ensures.value)) c.requires e)
    c.share-then-info-eq0-2.ensures.same

pub root_of-requires : goal.root_of-requires
root_of-requires c =
    root_siblings c.args.left.now c.args.right.now c.in_ok-nodes.nodes c.in_ok-nodes.ensures.union
    c.requires

pub returns-clause-join : goal.returns-clause-join
returns-clause-join c =
    IfOk-weaker c.root_of.result _ (IsJoin c.args.left.now c.args.right.now)
    (λ node e. join_root c.args.left.now c.args.right.now node c.in_ok-nodes.nodes
    c.in_ok-nodes.ensures.union c.requires e) c.root_of.ensures.ok

pub returns-clause-tree : goal.returns-clause-tree
returns-clause-tree c =
    IfOk-weaker c.root_of.result _ IsTree
    (λ node e. join_tree c.args.left.now c.args.right.now node c.in_ok-nodes.nodes
    c.in_ok-nodes.ensures.union c.requires e) c.root_of.ensures.ok
