-- The rests compare as the wholes.
use Rattle.std.proofs.Common.{length, ◌++◌}
use Rattle.rope_slice.proofs.Comparing.{IsComparing}
use Rattle.rope_slice.proofs.order.order_of_pieces.Given as goal

abbrev pub invariant-pieces : goal.invariant-pieces
invariant-pieces l =
    IsComparing (l.initial.x ++ l.initial.lefts) (l.initial.y ++ l.initial.rights) l.x l.lefts l.y
    l.rights

abbrev pub decreases-pieces : goal.decreases-pieces
decreases-pieces l = length (l.x ++ l.lefts)
