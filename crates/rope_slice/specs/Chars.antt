-- The meaning of a cursor over characters.
use Rattle.std.specs.Prelude.{◌≡◌, ℕ, ◌+◌, Bool, List, ◌++◌, length, take, drop}
use Rattle.std.specs.List.{concat}
use Rattle.std.specs.Str.{chars, IsCharBoundary}
use Rattle.rope_text.specs.Sides.{Sides}
use Rattle.rope_slice.specs.Path.{Place}
use Rattle.rope_slice.specs.Point.{IsChunkAt, AreSolid}

-- before the character at the byte `at` of a chunk
abbrev pub at_char : Place → List ℕ → ℕ → Bool → Sides ℕ
at_char p chunk at is_backward = record {
  left = concat p.before ++ chars (take at chunk);
  right = chars (drop at chunk) ++ concat p.after;
  is_backward = is_backward;
}

-- the chunk is the one here, cut at a character, and the counts are right
pub record IsCharCursor (p : Place) (chunk : List ℕ) (at passed total : ℕ) : Type 0 where
  pub chunk_is : IsChunkAt p chunk
  pub cut : IsCharBoundary chunk at
  pub passed_is : passed ≡ length (concat p.before ++ chars (take at chunk))
  pub total_is : total ≡ passed + length (chars (drop at chunk) ++ concat p.after)
  pub solid : AreSolid p total
