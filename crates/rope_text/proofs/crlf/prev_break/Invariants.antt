use Rattle.std.proofs.Common.{ℕ, ◌<◌, ◌≤◌, IsTrue}
use Rattle.rope_text.specs.Cuts.{is_cut}
use Rattle.rope_text.proofs.crlf.prev_break.Given as goal

abbrev pub invariant-loop-i : goal.invariant-loop-i
invariant-loop-i l = (l.i < l.at) × ((k : ℕ) → k < l.at → IsTrue (is_cut l.text k) → k ≤ l.i)

abbrev pub decreases-loop-i : goal.decreases-loop-i
decreases-loop-i l = l.i
