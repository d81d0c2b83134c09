-- The result of a search for a character.
use Rattle.std.specs.Prelude.{◌≡◌, ◌≢◌, ◌<◌, ℕ, List, length, slice_index, All, Option, MatchOption}

-- the index of the first character equal to c, or none where the text has no such character
abbrev pub IsFirstPlace : ℕ → List ℕ → Option ℕ → Type 0
IsFirstPlace c text found = MatchOption found (All (λ x. x ≢ c) text)
    (λ i. (i < length text) × (slice_index text i ≡ c) × ((k : ℕ) → k < i → slice_index text k ≢ c))
