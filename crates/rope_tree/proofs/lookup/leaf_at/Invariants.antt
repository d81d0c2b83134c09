use Rattle.std.specs.Prelude.{◌≡◌}
use Rattle.rope_text.specs.TextInfo.{info_of}
use Rattle.rope_leaf.specs.Tree.{text}
use Rattle.rope_tree.proofs.LookupDescent.{IsOnDescent, GoesDown}
use Rattle.rope_tree.proofs.lookup.leaf_at.Given as goal

abbrev pub invariant-down : goal.invariant-down
invariant-down l = IsOnDescent l.unit l.at l.node l.here l.rest l.before
    × GoesDown l.node.height l.here.height l.initial.steps l.steps
    × (l.inside ≡ info_of l.here.breaks (text l.here))

abbrev pub decreases-down : goal.decreases-down
decreases-down l = l.here.height
