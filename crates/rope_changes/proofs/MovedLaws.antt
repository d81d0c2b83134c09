-- How indices move.
use Rattle.std.proofs.Common.{◌≡◌, ℕ, zero, suc, ◌≤◌, List, [], ◌∷◌, refl, ap, sym, ◌∙◌, arith}
use Rattle.rope_changes.specs.Ops.{Op, keep, delete, insert}
use Rattle.rope_changes.specs.Combined.{onto_kept, onto_inserted, compose}
use Rattle.rope_changes.specs.Moved.{moved_before, moved_after, moved}
use Rattle.rope_changes.specs.declared.side.Side.{Side}
use Rattle.rope_changes.specs.declared.side.Side.TheVariants.{Before, After}

pub moved_zero : (a : List Op) → moved_before a zero ≡ zero
moved_zero [] = refl
moved_zero (keep ∷ a) = refl
moved_zero (delete ∷ a) = refl
moved_zero (insert y ∷ a) = refl

onto_kept_moves : (k : List Op → List Op) (b : List Op) (p q : ℕ)
    → ((b : List Op) → moved_before (k b) p ≡ moved_before b q)
    → moved_before (onto_kept k b) (suc p) ≡ moved_before b (suc q)
onto_kept_moves k [] p q h = ap suc (h [])
onto_kept_moves k (keep ∷ b) p q h = ap suc (h b)
onto_kept_moves k (delete ∷ b) p q h = h b
onto_kept_moves k (insert z ∷ b) p q h = ap suc (onto_kept_moves k b p q h)

onto_inserted_moves : (y : ℕ) (k : List Op → List Op) (b : List Op) (p q : ℕ)
    → ((b : List Op) → moved_before (k b) (suc p) ≡ moved_before b q)
    → moved_before (onto_inserted y k b) (suc p) ≡ moved_before b (suc q)
onto_inserted_moves y k [] p q h = ap suc (h [])
onto_inserted_moves y k (keep ∷ b) p q h = ap suc (h b)
onto_inserted_moves y k (delete ∷ b) p q h = h b
onto_inserted_moves y k (insert z ∷ b) p q h = ap suc (onto_inserted_moves y k b p q h)

pub compose_moves : (a b : List Op) (p : ℕ)
    → moved_before (compose a b) p ≡ moved_before b (moved_before a p)
compose_moves [] b p = refl
compose_moves (keep ∷ a) b zero = moved_zero (compose (keep ∷ a) b) ∙ sym (moved_zero b)
compose_moves (keep ∷ a) b (suc p) =
    onto_kept_moves (compose a) b p (moved_before a p) (λ c. compose_moves a c p)
compose_moves (delete ∷ a) b zero = sym (moved_zero b)
compose_moves (delete ∷ a) b (suc p) = compose_moves a b p
compose_moves (insert y ∷ a) b zero = moved_zero (compose (insert y ∷ a) b) ∙ sym (moved_zero b)
compose_moves (insert y ∷ a) b (suc p) =
    onto_inserted_moves y (compose a) b p (moved_before a (suc p)) (λ c. compose_moves a c (suc p))

before_keeps_order : (a : List Op) (i j : ℕ) → i ≤ j → moved_before a i ≤ moved_before a j
before_keeps_order [] i j le = le
before_keeps_order (keep ∷ a) zero zero le = omega arith
before_keeps_order (keep ∷ a) zero (suc j) le = omega arith
before_keeps_order (keep ∷ a) (suc i) zero le = absurd (omega arith)
before_keeps_order (keep ∷ a) (suc i) (suc j) le =
    omega (arith, before_keeps_order a i j (omega arith))
before_keeps_order (delete ∷ a) zero zero le = omega arith
before_keeps_order (delete ∷ a) zero (suc j) le = omega arith
before_keeps_order (delete ∷ a) (suc i) zero le = absurd (omega arith)
before_keeps_order (delete ∷ a) (suc i) (suc j) le = before_keeps_order a i j (omega arith)
before_keeps_order (insert y ∷ a) zero zero le = omega arith
before_keeps_order (insert y ∷ a) zero (suc j) le = omega arith
before_keeps_order (insert y ∷ a) (suc i) zero le = absurd (omega arith)
before_keeps_order (insert y ∷ a) (suc i) (suc j) le =
    omega (arith, before_keeps_order a (suc i) (suc j) le)

after_keeps_order : (a : List Op) (i j : ℕ) → i ≤ j → moved_after a i ≤ moved_after a j
after_keeps_order [] i j le = le
after_keeps_order (keep ∷ a) zero zero le = omega arith
after_keeps_order (keep ∷ a) zero (suc j) le = omega arith
after_keeps_order (keep ∷ a) (suc i) zero le = absurd (omega arith)
after_keeps_order (keep ∷ a) (suc i) (suc j) le =
    omega (arith, after_keeps_order a i j (omega arith))
after_keeps_order (delete ∷ a) zero zero le = omega arith
after_keeps_order (delete ∷ a) zero (suc j) le = after_keeps_order a zero j (omega arith)
after_keeps_order (delete ∷ a) (suc i) zero le = absurd (omega arith)
after_keeps_order (delete ∷ a) (suc i) (suc j) le = after_keeps_order a i j (omega arith)
after_keeps_order (insert y ∷ a) i j le = omega (arith, after_keeps_order a i j le)

pub keep_order : (side : Side) (a : List Op) (i j : ℕ) → i ≤ j → moved side a i ≤ moved side a j
keep_order Before a i j le = before_keeps_order a i j le
keep_order After a i j le = after_keeps_order a i j le
