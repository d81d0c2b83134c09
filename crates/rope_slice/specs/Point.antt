-- A point of a chunk: a byte at which a character begins or ends, or the chunk does.
use Rattle.std.specs.Prelude.{◌≡◌, ℕ, ◌<◌, List, [], ◌∷◌, ◌++◌, take, drop, length, All}
use Rattle.std.specs.Str.{chars, IsUtf8, IsCharBoundary}
use Rattle.rope_slice.specs.Path.{Place, leaves}

-- the bytes are those of the chunk here
pub record IsChunkAt (p : Place) (bytes : List ℕ) : Type 0 where
  pub utf8 : IsUtf8 bytes
  pub here : chars bytes ≡ p.here

-- the character c of a text is between the bytes `start` and `end`
pub record IsCharBetween (bytes : List ℕ) (start end c : ℕ) : Type 0 where
  pub front : chars (take end bytes) ≡ chars (take start bytes) ++ c ∷ []
  pub rest : chars (drop start bytes) ≡ c ∷ chars (drop end bytes)
  pub start_cut : IsCharBoundary bytes start
  pub end_cut : IsCharBoundary bytes end
  pub moves : start < end

-- no leaf is empty, unless there is no item at all
abbrev pub AreSolid : Place → ℕ → Type 0
AreSolid p total = 0 < total → All (λ leaf. 0 < length leaf) (leaves p)
