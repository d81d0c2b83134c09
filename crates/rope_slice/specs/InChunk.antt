-- A text inside one chunk.
use Rattle.std.specs.Prelude.{◌≡◌, ℕ, ◌+◌, ◌≤◌, List, length, take}
use Rattle.std.specs.List.{slice_range}
use Rattle.rope_text.specs.Cutting.{clip, single_chunk}

-- some chunk contains the characters `held` from character i of the text on: a range that starts
-- there is a prefix of them, as one chunk
pub record IsInChunk (text : List ℕ) (chunks : List (List ℕ)) (i : ℕ) (held : List ℕ) : Type 0 where
  pub text_is : (j : ℕ) → j ≤ length held → i + j ≤ length text
      → slice_range text i (i + j) ≡ take j held
  pub chunks_are : (j : ℕ) → j ≤ length held → i + j ≤ length text
      → clip chunks i (i + j) ≡ single_chunk (take j held)
