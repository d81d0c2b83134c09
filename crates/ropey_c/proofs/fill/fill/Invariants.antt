use Rattle.std.proofs.Common.{length, ◌-◌}
use Rattle.ropey_c.proofs.Filling.{IsFilling}
use Rattle.ropey_c.proofs.fill.fill.Given as goal

abbrev pub invariant-loop-count : goal.invariant-loop-count
invariant-loop-count g l =
    IsFilling g.I.Iterator.next_gives g.B.From.from_gives l.fn.items l.items l.fn.list l.list
    l.count
    × g.I.Iterator.can_next l.items

abbrev pub decreases-loop-count : goal.decreases-loop-count
decreases-loop-count g l = length l.initial.list - l.count
