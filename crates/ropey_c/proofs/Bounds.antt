-- The bounds of a range that was found.
use Rattle.std.proofs.Common.{◌≡◌, ℕ, refl, ap}
use Rattle.std.specs.Prelude.{Option, None, Some, Result, Ok, Err, MatchOption}
use Rattle.rope_text.specs.declared.error.Error.{Error}

-- it has no fault, and they are those that were given
pub bounds_are : (fault : Option Error) (start end a b : ℕ)
    → MatchOption fault (◌≡◌ {A = Result (ℕ × ℕ) Error} (Ok (a, b)) (Ok (start, end)))
    (λ e. ◌≡◌ {A = Result (ℕ × ℕ) Error} (Ok (a, b)) (Err e)) → (fault ≡ None) × (a ≡ start)
    × (b ≡ end)
bounds_are None start end a b same =
    let both : ◌≡◌ {A = ℕ × ℕ} (a, b) (start, end) = cc in
    (refl, ap (λ p. p.0) both, ap (λ p. p.1) both)
bounds_are (Some fault) start end a b same = absurd (cc)
