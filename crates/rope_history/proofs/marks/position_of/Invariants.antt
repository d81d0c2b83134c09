-- No element before the position is the index.
use Rattle.std.proofs.Common.{◌≢◌, ℕ, ◌<◌, get_or}
use Rattle.rope_history.proofs.marks.position_of.Given as goal

abbrev pub invariant-loop-position : goal.invariant-loop-position
invariant-loop-position l =
    (k : ℕ) (d : ℕ) → k < l.position → get_or l.order k d ≢ l.index
