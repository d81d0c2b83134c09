use Rattle.std.proofs.Common.{◌≡◌, ◌<◌, length}
use Rattle.rope_text.specs.TextInfo.{info_of}
use Rattle.rope_leaf.specs.Tree.{text}
use Rattle.rope_slice.specs.Descent.{AreListed}
use Rattle.rope_slice.proofs.PathLaws.{IsOnPath}
use Rattle.rope_slice.proofs.path.Path.at.Given as goal

abbrev pub invariant-down : goal.invariant-down
invariant-down l =
    IsOnPath l.unit l.idx l.root l.here l.rest l.before l.nodes l.at
    × (l.inside ≡ info_of l.here.breaks (text l.here))
    × (0 < length l.nodes → AreListed l.nodes l.totals)

abbrev pub decreases-down : goal.decreases-down
decreases-down l = l.here.height
