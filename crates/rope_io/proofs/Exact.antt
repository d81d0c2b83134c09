-- The bytes that are refused.
use Rattle.std.proofs.Common.{ℕ, false, List, refl, arith, ⊎_elim, Option, Result, Ok, Err, IsOk, ◌↔◌}
use Rattle.std.proofs.lemmas.Bool.{false≢true}
use Rattle.rope_text.specs.Read.{IsRefused}
use Rattle.rope_io.specs.declared.error.ReadError.{ReadError}
use Rattle.rope_io.specs.declared.error.ReadError.TheVariants.{Read, InvalidData, Rope}
use Rattle.rope_io.specs.Reading.{Answers, has_ended, IsInvalidData, IsRopeRefusal}

module _ {R : Type 0} (text_of : R → List ℕ) where
  pub exact : (bytes : List ℕ) (left : Option (List ℕ)) (result : Result R ReadError)
      → Answers text_of bytes left false result → (IsRopeRefusal result → ⊥)
      → (IsInvalidData result ↔ IsRefused bytes (has_ended left))
      × (IsOk result ↔ (IsRefused bytes (has_ended left) → ⊥))
  exact bytes left (Ok rope) a n =
      ((λ x. absurd x, λ r. absurd (none_left r)), (λ _ r. none_left r, λ _. refl))
    where
      none_left : IsRefused bytes (has_ended left) → ⊥
      none_left r =
          ⊎_elim (λ p. absurd (omega (arith, a.1, p.1))) (λ p. absurd (omega (arith, a.1, p))) r
  exact bytes left (Err (Read e)) a n = absurd (false≢true a.2)
  exact bytes left (Err InvalidData) a n =
      ((λ _. a.0, λ _. tt), (λ x. absurd (false≢true x), λ f. absurd (f a.0)))
  exact bytes left (Err (Rope e)) a n = absurd (n tt)
