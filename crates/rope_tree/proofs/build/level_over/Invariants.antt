-- The nodes so far are over the first of the nodes, and the remaining groups can contain the
-- others.
use Rattle.std.proofs.Common.{◌≡◌, ◌+◌, ◌*◌, ◌≤◌, length}
use Rattle.rope_leaf.specs.Tree.{breaks_of, height_of}
use Rattle.rope_tree.proofs.BuildLaws.{AreOver}
use Rattle.rope_tree.proofs.build.level_over.Given as goal

abbrev pub invariant-loop-groups : goal.invariant-loop-groups
invariant-loop-groups l = record {
  over : AreOver (breaks_of l.fn.nodes) (height_of l.fn.nodes) l.fn.nodes l.level.items l.rest;
  least : 12 * l.groups ≤ length l.rest;
  most : length l.rest ≤ 24 * l.groups;
  counted : length l.level.items + l.groups ≡ l.fn.count;
  made : l.maker.made ≤ l.fn.maker.made + length l.level.items;
}

abbrev pub decreases-loop-groups : goal.decreases-loop-groups
decreases-loop-groups l = l.groups
