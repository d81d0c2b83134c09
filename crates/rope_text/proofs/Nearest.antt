-- The nearer of the two cuts around a position.
use Rattle.std.proofs.Common.{ℕ, ◌-◌, ◌<◌, ◌≤◌, ⊎_elim, arith}
use Rattle.std.proofs.lemmas.Bool.{cases_lt}
use Rattle.rope_text.specs.Cuts.{distance}

pub left_is_nearer : (at left right k : ℕ) → left ≤ at → at ≤ right → at - left < right - at
    → (k ≤ at → k ≤ left) → (at < k → right ≤ k) →
    distance at left ≤ distance at k
left_is_nearer at left right k below above near up on =
    ⊎_elim (λ (h : at < k). omega (arith, on h)) (λ (h : k ≤ at). omega (arith, up h))
    (cases_lt at k)

pub right_is_nearer : (at left right k : ℕ) → left ≤ at → at ≤ right → right - at ≤ at - left
    → (k ≤ at → k ≤ left) → (at < k → right ≤ k) →
    distance at right ≤ distance at k
right_is_nearer at left right k below above near up on =
    ⊎_elim (λ (h : at < k). omega (arith, on h)) (λ (h : k ≤ at). omega (arith, up h))
    (cases_lt at k)

-- if the right one is the end, k is before it
pub left_is_only : (at left right k : ℕ) → left ≤ at → k < right → (k ≤ at → k ≤ left)
    → (at < k → right ≤ k) →
    distance at left ≤ distance at k
left_is_only at left right k below inside up on =
    ⊎_elim (λ (h : at < k). absurd (omega (arith, on h))) (λ (h : k ≤ at). omega (arith, up h))
    (cases_lt at k)
