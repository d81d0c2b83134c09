-- What compositions, inverses and rebased changes do.
use Rattle.std.proofs.Common.{◌≡◌, ℕ, suc, ◌≤◌, List, [], ◌∷◌, length, refl, ap, sym, ◌∙◌, arith}
use Rattle.rope_changes.specs.Ops.{Op, keep, delete, insert, run, len_before, len_after}
use Rattle.rope_changes.specs.Combined.{onto_kept, onto_inserted, compose, inverse, past_kept, past_deleted, rebase_second, over_kept, over_deleted, rebase_first}
use Rattle.rope_changes.proofs.Runs.{run_kept}

onto_kept_runs : (k : List Op → List Op) (b : List Op) (x : ℕ) (t r : List ℕ)
    → ((b : List Op) → run (k b) t ≡ run b r) → run (onto_kept k b) (x ∷ t) ≡ run b (x ∷ r)
onto_kept_runs k [] x t r h = ap (λ u. x ∷ u) (h [])
onto_kept_runs k (keep ∷ b) x t r h = ap (λ u. x ∷ u) (h b)
onto_kept_runs k (delete ∷ b) x t r h = h b
onto_kept_runs k (insert z ∷ b) x t r h = ap (λ u. z ∷ u) (onto_kept_runs k b x t r h)

onto_inserted_runs : (y : ℕ) (k : List Op → List Op) (b : List Op) (t r : List ℕ)
    → ((b : List Op) → run (k b) t ≡ run b r) → run (onto_inserted y k b) t ≡ run b (y ∷ r)
onto_inserted_runs y k [] t r h = ap (λ u. y ∷ u) (h [])
onto_inserted_runs y k (keep ∷ b) t r h = ap (λ u. y ∷ u) (h b)
onto_inserted_runs y k (delete ∷ b) t r h = h b
onto_inserted_runs y k (insert z ∷ b) t r h = ap (λ u. z ∷ u) (onto_inserted_runs y k b t r h)

pub compose_runs : (a b : List Op) (t : List ℕ) → len_before a ≤ length t
    → run (compose a b) t ≡ run b (run a t)
compose_runs [] b t fits = refl
compose_runs (keep ∷ a) b [] fits = absurd (omega arith)
compose_runs (keep ∷ a) b (x ∷ t) fits =
    onto_kept_runs (compose a) b x t (run a t) (λ c. compose_runs a c t (omega arith))
compose_runs (delete ∷ a) b [] fits = absurd (omega arith)
compose_runs (delete ∷ a) b (x ∷ t) fits = compose_runs a b t (omega arith)
compose_runs (insert y ∷ a) b t fits =
    onto_inserted_runs y (compose a) b t (run a t) (λ c. compose_runs a c t fits)

pub inverse_runs : (a : List Op) (t : List ℕ) → len_before a ≤ length t
    → run (inverse a t) (run a t) ≡ t
inverse_runs [] t fits = refl
inverse_runs (keep ∷ a) [] fits = absurd (omega arith)
inverse_runs (keep ∷ a) (x ∷ t) fits = ap (λ u. x ∷ u) (inverse_runs a t (omega arith))
inverse_runs (delete ∷ a) [] fits = absurd (omega arith)
inverse_runs (delete ∷ a) (x ∷ t) fits = ap (λ u. x ∷ u) (inverse_runs a t (omega arith))
inverse_runs (insert y ∷ a) t fits = inverse_runs a t fits

-- a change that does nothing does nothing after another one
second_alone : (a : List Op) (s : List ℕ) → run (rebase_second a []) s ≡ s
second_alone [] s = refl
second_alone (keep ∷ a) s = refl
second_alone (delete ∷ a) s = refl
second_alone (insert y ∷ a) [] = second_alone a []
second_alone (insert y ∷ a) (x ∷ s) = ap (λ u. x ∷ u) (second_alone a s)

module _ (k l : List Op → List Op) (x : ℕ) (t r : List ℕ) where
  kept_converge : (b : List Op) → len_before b ≤ suc (length t) → run (l []) t ≡ r
      → ((b : List Op) → len_before b ≤ length t → run (k b) r ≡ run (l b) (run b t))
      → run (past_kept k b) (x ∷ r) ≡ run (over_kept l b) (run b (x ∷ t))
  kept_converge [] fits none h = ap (λ u. x ∷ u) (sym none)
  kept_converge (keep ∷ b) fits none h = ap (λ u. x ∷ u) (h b (omega arith))
  kept_converge (delete ∷ b) fits none h = h b (omega arith)
  kept_converge (insert z ∷ b) fits none h = ap (λ u. z ∷ u) (kept_converge b fits none h)

  deleted_converge : (b : List Op) → len_before b ≤ suc (length t) → run (l []) t ≡ r
      → ((b : List Op) → len_before b ≤ length t → run (k b) r ≡ run (l b) (run b t))
      → run (past_deleted k b) r ≡ run (over_deleted l b) (run b (x ∷ t))
  deleted_converge [] fits none h = sym none
  deleted_converge (keep ∷ b) fits none h = h b (omega arith)
  deleted_converge (delete ∷ b) fits none h = h b (omega arith)
  deleted_converge (insert z ∷ b) fits none h = ap (λ u. z ∷ u) (deleted_converge b fits none h)

pub converge : (a b : List Op) (t : List ℕ) → len_before a ≤ length t → len_before b ≤ length t
    → run (rebase_second a b) (run a t) ≡ run (rebase_first a b) (run b t)
converge [] b t m n = sym (run_kept (len_after b) (run b t))
converge (keep ∷ a) b [] m n = absurd (omega arith)
converge (keep ∷ a) b (x ∷ t) m n =
    kept_converge (rebase_second a) (rebase_first a) x t (run a t) b (omega arith)
    (sym (converge a [] t (omega arith) (omega arith)) ∙ second_alone a (run a t))
    (λ c f. converge a c t (omega arith) f)
converge (delete ∷ a) b [] m n = absurd (omega arith)
converge (delete ∷ a) b (x ∷ t) m n =
    deleted_converge (rebase_second a) (rebase_first a) x t (run a t) b (omega arith)
    (sym (converge a [] t (omega arith) (omega arith)) ∙ second_alone a (run a t))
    (λ c f. converge a c t (omega arith) f)
converge (insert y ∷ a) b t m n = ap (λ u. y ∷ u) (converge a b t m n)

pub lengths : (a : List Op) (t : List ℕ) → len_before a ≡ length t → length (run a t) ≡ len_after a
lengths [] t fits = omega arith
lengths (keep ∷ a) [] fits = absurd (omega arith)
lengths (keep ∷ a) (x ∷ t) fits = ap suc (lengths a t (omega arith))
lengths (delete ∷ a) [] fits = absurd (omega arith)
lengths (delete ∷ a) (x ∷ t) fits = lengths a t (omega arith)
lengths (insert y ∷ a) t fits = ap suc (lengths a t fits)
