use Rattle.std.proofs.Common.{ℕ, ◌<◌, ◌≤◌, ◌-◌, length, IsTrue}
use Rattle.rope_text.specs.Cuts.{is_cut}
use Rattle.rope_text.proofs.crlf.next_break.Given as goal

abbrev pub invariant-loop-i : goal.invariant-loop-i
invariant-loop-i l =
    (l.at < l.i) × (l.i ≤ length l.text)
    × ((k : ℕ) → l.at < k → k ≤ length l.text → IsTrue (is_cut l.text k) → l.i ≤ k)

abbrev pub decreases-loop-i : goal.decreases-loop-i
decreases-loop-i l = length l.text - l.i
