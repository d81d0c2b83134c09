-- Properties of running totals, entry by entry.
use Rattle.std.specs.Prelude.{◌≡◌, ℕ, ◌+◌, ◌<◌, ◌≤◌, List, length, slice_index_or}
use Rattle.rope_text.specs.declared.text_info.TextInfo.{TextInfo}
use Rattle.rope_text.specs.TextInfo.{info_sum, HasPart}
use Rattle.rope_leaf.specs.Search.{IsSmall}
use Rattle.rope_leaf.specs.Narrow.{IsBelowWith}

-- each entry is within the bounds of a rope's text
abbrev pub AreSmall : List TextInfo → Type 0
AreSmall totals = (j : ℕ) (d : TextInfo) → j < length totals → IsSmall (slice_index_or totals j d)

-- the entries from an index on include the counts of a slice
abbrev pub HavePart : ℕ → List TextInfo → TextInfo → Type 0
HavePart place totals part = (j : ℕ) (d : TextInfo) → place ≤ j → j < length totals
    → HasPart (slice_index_or totals j d) part

-- the entries from an index on are below a bound if the counts of a slice are replaced by others
abbrev pub FitFrom : ℕ → ℕ → List TextInfo → TextInfo → TextInfo → Type 0
FitFrom bound place totals old new = (j : ℕ) (d : TextInfo) → place ≤ j → j < length totals
    → IsBelowWith bound (slice_index_or totals j d) old new

-- the entries before an index are unchanged
abbrev pub SameBefore : ℕ → List TextInfo → List TextInfo → Type 0
SameBefore place before now = (j : ℕ) (d : TextInfo) → j < place
    → slice_index_or now j d ≡ slice_index_or before j d

-- in the entries from an index on, the counts of a slice are replaced by others
abbrev pub ChangedFrom : ℕ → List TextInfo → List TextInfo → TextInfo → TextInfo → Type 0
ChangedFrom place before now old new = (j : ℕ) (d : TextInfo) → place ≤ j → j < length before
    → info_sum (slice_index_or now j d) old ≡ info_sum (slice_index_or before j d) new

-- the entries from an index on are moved by one
abbrev pub MovedFrom : ℕ → List TextInfo → List TextInfo → Type 0
MovedFrom place before now = (j : ℕ) (d : TextInfo) → place ≤ j → j < length before
    → slice_index_or now (j + 1) d ≡ slice_index_or before j d
