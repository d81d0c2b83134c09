-- The first entries have the nodes, and the others are unchanged.
use Rattle.std.proofs.Common.{◌≡◌, length, take}
use Rattle.rope_tree.proofs.node.row.push_row.Given as goal

abbrev pub invariant-loop-k : goal.invariant-loop-k
invariant-loop-k l = record {
  long : length l.places ≡ length l.nodes;
  front : take l.k l.places ≡ take l.k l.nodes;
}
