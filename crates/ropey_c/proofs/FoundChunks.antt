-- Chunks that were found and written, with the counts before them.
use Rattle.std.proofs.Common.{◌<◌, ◌≤◌, ℕ, List, ap, refl, arith}
use Rattle.std.specs.Prelude.{Some}
use Rattle.rope_text.specs.Sides.{Sides, ahead}
use Rattle.rope_slice.specs.Found.{StandsBefore}
use Rattle.ropey.specs.View.{RopeView, content}
use Rattle.ropey_c.specs.Pieces.{Fills, FillsAt}
use Rattle.ropey_c.specs.declared.pieces.Piece.{Piece}
use Rattle.ropey_c.specs.declared.status.TheConstants.{OK}

module _ (rope : RopeView) (len i place missing : ℕ) where
  -- an index past a length finds none
  pub none_at : (old : List Piece) (count bytes chars breaks : ℕ) → len < i
      → FillsAt (Some rope) (λ _. len) i (λ _. place) missing missing old old count count bytes
      bytes chars chars breaks breaks
  none_at old count bytes chars breaks past = (
    (λ _. (refl, refl, refl, refl, refl, refl)),
    (λ within. absurd (omega (arith, past, within))),
  )

  -- the chunks ahead of a cursor are those from a place on
  pub fills_at : (found : Sides (List ℕ) × ℕ × ℕ × ℕ) (old new : List Piece)
      (count_old count bytes_old chars_old breaks_old : ℕ)
      → (i ≤ len) × StandsBefore (content rope) place found → Fills (ahead found.0) old new count
      → FillsAt (Some rope) (λ _. len) i (λ _. place) missing OK old new count_old count bytes_old
      found.1 chars_old found.2 breaks_old found.3
  fills_at found old new count_old count bytes_old chars_old breaks_old gives filled = (
    (λ past. absurd (omega (arith, past, gives.0))),
    (λ _. (refl, gives.1.before, rw (ap ahead gives.1.cursor_is) at filled)),
  )
