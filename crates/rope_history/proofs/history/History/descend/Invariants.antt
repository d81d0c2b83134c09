-- The rope has the text of the version that comes before the last one of the path.
use Rattle.std.proofs.Common.{ℕ, ◌≡◌, ◌<◌, List, length, vec_len}
use Rattle.rope_changes.specs.Change.{after}
use Rattle.rope_history.specs.Texts.{text_at}
use Rattle.rope_history.specs.Versions.{IsPath, version_at}
use Rattle.ropey.specs.View.{IsRope}
use Rattle.rope_history.proofs.history.History.descend.Given as goal

abbrev pub invariant-loop-child : goal.invariant-loop-child
invariant-loop-child l = (top : ℕ) × (
    (top < length l.self.versions)
    × IsPath l.self l.version l.path.items top
    × (length l.rope.text ≡ after (version_at l.self top).change)
    × ((first : List ℕ) → l.fn.rope.text ≡ text_at first l.self l.fn.top
    → l.rope.text ≡ text_at first l.self top)
    × (l.rope.breaks ≡ l.fn.rope.breaks)
    × IsRope l.rope)

abbrev pub decreases-loop-child : goal.decreases-loop-child
decreases-loop-child l = vec_len l.path
