-- Counts in which those of a slice are replaced.
use Rattle.std.specs.Prelude.{◌≡◌, ℕ, ◌+◌, ◌<◌, ◌≤◌, List, length, slice_index}

-- the counts from one index up to another have `new` in place of `old`
pub record IsShifted (before now : List ℕ) (from to old new : ℕ) : Type 0 where
  pub len : length now ≡ length before
  pub early : (k : ℕ) → k < from → slice_index now k ≡ slice_index before k
  pub within : (k : ℕ) → from ≤ k → k < to → slice_index now k + old ≡ slice_index before k + new
