-- The texts of adjacent leaves.
use Rattle.std.specs.Prelude.{◌≡◌, ℕ, ◌+◌, ◌≤◌, true, false, min, List, ◌++◌, length}
use Rattle.std.specs.List.{All, concat}
use Rattle.std.specs.Str.{all_scalars}
use Rattle.rope_text.specs.declared.TheConstants.{MAX_BYTES, MIN_TWO_LEAVES_BYTES}
use Rattle.rope_text.specs.Text.{byte_len}
use Rattle.rope_text.specs.Cutting.{parts_crlf, KeepsCrlf}
use Rattle.rope_text.specs.Dense.{IsDenseAfter, AreDense, last_bytes}

-- a seam, the boundary between two leaves: no CR before it meets an LF after it
pub record IsSeam (before after : List ℕ) : Type 0 where
  pub apart : parts_crlf before after ≡ false

-- the text of a leaf that is not empty
pub record IsLeafText (leaf : List ℕ) : Type 0 where
  pub some : 1 ≤ length leaf
  pub fits : byte_len leaf ≤ MAX_BYTES
  pub scalars : all_scalars leaf ≡ true

-- each is the text of a leaf, no CR LF is split between two leaves, and any two adjacent ones have
-- at least 492 bytes together
pub record AreLeaves (leaves : List (List ℕ)) : Type 0 where
  pub each : All IsLeafText leaves
  pub whole : KeepsCrlf leaves
  pub dense : AreDense leaves

-- leaves with the text of two lists, which may follow any leaf that the first list may follow, and
-- whose last leaf is as long as that of the second
pub record Recuts (left right new : List (List ℕ)) : Type 0 where
  pub same_text : concat new ≡ concat (left ++ right)
  pub leaves : AreLeaves new
  pub following : 1 ≤ length left → (n : ℕ) → IsDenseAfter n left → IsDenseAfter n new
  pub last : 1 ≤ length right → (m n : ℕ) → last_bytes m right ≤ last_bytes n new

-- leaves that replace others: they may follow a leaf of n bytes if the old ones may and n and
-- `first` are at least 492 together; and the last leaf is as long as the old last one or as `last`
pub record StandFor (first last : ℕ) (old new : List (List ℕ)) : Type 0 where
  pub after : (n : ℕ) → MIN_TWO_LEAVES_BYTES ≤ n + first → IsDenseAfter n old → IsDenseAfter n new
  pub ahead : (n : ℕ) → min last (last_bytes n old) ≤ last_bytes n new

-- `first` bytes are enough for a leaf after these; if there are none, they are enough where
-- `wanted` bytes are
abbrev pub IsEnoughAfter : ℕ → ℕ → List (List ℕ) → Type 0
IsEnoughAfter wanted first before = (n : ℕ) → MIN_TWO_LEAVES_BYTES ≤ n + wanted
    → MIN_TWO_LEAVES_BYTES ≤ last_bytes n before + first

-- `last` bytes are enough for a leaf before these; if there are none, `last` is at least `wanted`
pub record IsEnoughAhead (wanted last : ℕ) (after : List (List ℕ)) : Type 0 where
  pub dense : IsDenseAfter last after
  pub at_end : length after ≡ 0 → wanted ≤ last
