-- A tree is at most 18 high.
use Rattle.rope_leaf.proofs.TreeLaws.{low_tree}
use Rattle.ropey.proofs.rope.Rope.begin.Goals as goal

pub returns-clause-low : goal.returns-clause-low
returns-clause-low c = low_tree c.self.inside.root c.self.invariant
