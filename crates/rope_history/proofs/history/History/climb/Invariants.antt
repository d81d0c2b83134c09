-- The rope has the text of the version to which the parents lead.
use Rattle.std.proofs.Common.{ℕ, ◌≡◌, ◌≢◌, ◌⊎◌, ◌+◌, ◌<◌, List, ◌∷◌, length}
use Rattle.std.specs.List.{All}
use Rattle.rope_changes.specs.Change.{after}
use Rattle.rope_history.specs.Texts.{StandsAt, text_at}
use Rattle.rope_history.specs.Versions.{IsPath, IsAscent, version_at, ascended}
use Rattle.ropey.specs.View.{IsRope}
use Rattle.rope_history.proofs.history.History.climb.Given as goal

abbrev pub invariant-loop-up : goal.invariant-loop-up
invariant-loop-up l = record {
  up : IsAscent l.self l.parents.items;
  at : (ascended l.self l.parents.items).current ≡ l.up;
  path : IsPath l.self l.version l.path.items l.down;
  apart : All (λ x. All (λ y. x ≢ y) (l.self.current ∷ l.parents.items)) l.path.items;
  above : All (λ x. l.up < x) l.path.items;
  left : All (λ y. (l.down < y) ⊎ (y ≡ l.up)) (l.self.current ∷ l.parents.items);
  up_within : l.up < length l.self.versions;
  down_within : l.down < length l.self.versions;
  len : length l.rope.text ≡ after (version_at l.self l.up).change;
  text : (first : List ℕ) → StandsAt first l.self l.fn.rope.text
      → l.rope.text ≡ text_at first l.self l.up;
  breaks : l.rope.breaks ≡ l.fn.rope.breaks;
  kept : IsRope l.rope;
}

abbrev pub decreases-loop-up : goal.decreases-loop-up
decreases-loop-up l = l.up + l.down
