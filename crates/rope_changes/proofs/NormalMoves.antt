-- How indices move through a normal form.
use Rattle.std.proofs.Common.{◌≡◌, ℕ, zero, suc, List, [], ◌∷◌, refl, ap, sym, ◌∙◌}
use Rattle.rope_changes.specs.Ops.{Op, keep, delete, insert}
use Rattle.rope_changes.specs.Combined.{compose}
use Rattle.rope_changes.specs.Normal.{delete_after, normal_form, composed}
use Rattle.rope_changes.specs.Moved.{moved_before, IsKept}
use Rattle.rope_changes.proofs.MovedLaws.{moved_zero, compose_moves}

past_delete : (a : List Op) (k : ℕ) → moved_before (delete_after a) (suc (suc k))
    ≡ moved_before a (suc k)
past_delete [] k = refl
past_delete (keep ∷ a) k = refl
past_delete (delete ∷ a) k = refl
past_delete (insert c ∷ a) k = ap suc (past_delete a k)

-- an index after a kept character
moves_through_normal : (a : List Op) (k : ℕ) → IsKept a k
    → moved_before (normal_form a) (suc k) ≡ moved_before a (suc k)
moves_through_normal [] k kept = refl
moves_through_normal (keep ∷ a) zero kept = ap suc (moved_zero (normal_form a) ∙ sym (moved_zero a))
moves_through_normal (keep ∷ a) (suc k) kept = ap suc (moves_through_normal a k kept)
moves_through_normal (delete ∷ a) zero kept = absurd kept
moves_through_normal (delete ∷ a) (suc k) kept =
    past_delete (normal_form a) k ∙ moves_through_normal a k kept
moves_through_normal (insert c ∷ a) k kept = ap suc (moves_through_normal a k kept)

pub moves_through_composed : (a b : List Op) (k : ℕ) → IsKept (compose a b) k
    → moved_before (composed a b) (suc k) ≡ moved_before b (moved_before a (suc k))
moves_through_composed a b k kept =
    moves_through_normal (compose a b) k kept ∙ compose_moves a b (suc k)
