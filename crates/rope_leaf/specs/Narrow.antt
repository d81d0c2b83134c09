-- Counts below a bound, such as those that fit in 32 bits.
use Rattle.std.specs.Prelude.{ℕ, ◌+◌, ◌<◌, ◌^◌, List, length, slice_index_or}
use Rattle.rope_text.specs.declared.text_info.TextInfo.{TextInfo}

-- each count is below the bound
pub record IsBelow (bound : ℕ) (info : TextInfo) : Type 0 where
  pub bytes : info.bytes < bound
  pub chars : info.chars < bound
  pub pairs : info.utf16_surrogates < bound
  pub breaks : info.break_count < bound

-- all counts are below the bound
abbrev pub AreBounded : ℕ → List TextInfo → Type 0
AreBounded bound totals = (k : ℕ) (d : TextInfo) → k < length totals
    → IsBelow bound (slice_index_or totals k d)

-- counts in which those of a slice are replaced by others are below the bound
pub record IsBelowWith (bound : ℕ) (total old new : TextInfo) : Type 0 where
  pub bytes : total.bytes + new.bytes < bound + old.bytes
  pub chars : total.chars + new.chars < bound + old.chars
  pub pairs : total.utf16_surrogates + new.utf16_surrogates < bound + old.utf16_surrogates
  pub breaks : total.break_count + new.break_count < bound + old.break_count

-- counts that fit in 32 bits
abbrev pub IsNarrow : TextInfo → Type 0
IsNarrow info = IsBelow (2 ^ 32) info

abbrev pub AreNarrow : List TextInfo → Type 0
AreNarrow totals = AreBounded (2 ^ 32) totals

abbrev pub FitsWith : TextInfo → TextInfo → TextInfo → Type 0
FitsWith total old new = IsBelowWith (2 ^ 32) total old new
