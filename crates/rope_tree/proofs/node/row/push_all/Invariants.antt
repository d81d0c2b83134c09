use Rattle.std.proofs.Common.{◌≡◌, ◌++◌, take}
use Rattle.rope_leaf.specs.Totals.{IsTotalOf}
use Rattle.rope_tree.specs.NewList.{new_list, nodes_in, IsNewList}
use Rattle.rope_tree.proofs.node.row.push_all.Given as goal

abbrev pub invariant-loop-node : goal.invariant-loop-node
invariant-loop-node l = record {
  list : IsNewList (new_list l.totals l.places);
  nodes : nodes_in (new_list l.totals l.places)
      ≡ nodes_in (new_list l.initial.totals l.initial.places) ++ take l.node-index l.nodes;
  total : IsTotalOf (nodes_in (new_list l.totals l.places)) l.total;
}
