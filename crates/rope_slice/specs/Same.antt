-- Bytes that are equal in two lists.
use Rattle.std.specs.Prelude.{◌≡◌, ◌+◌, ◌≤◌, ◌<◌, ℕ, List, get_or}

-- `size` bytes from `at` on
pub record IsSameFrom (xs ys : List ℕ) (at size : ℕ) : Type 0 where
  pub same : (k : ℕ) → at ≤ k → k < at + size → get_or xs k 0 ≡ get_or ys k 0
