-- Preconditions and results of inserts into a tree.
use Rattle.std.specs.Prelude.{◌≡◌, ℕ, ◌+◌, ◌-◌, ◌/◌, ◌≤◌, ◌<◌, ◌^◌, ◌⊎◌, Bool, true, false, min, List, [], ◌∷◌, length, drop}
use Rattle.std.specs.List.{All}
use Rattle.rope_text.specs.declared.TheConstants.{MAX_CHILDREN, MIN_CHILDREN, MAX_SHORT_BYTES, MIN_CUT_BYTES, MIN_HALF_BYTES}
use Rattle.rope_text.specs.Text.{byte_len}
use Rattle.rope_text.specs.Breaks.{begins_with_lf}
use Rattle.rope_leaf.specs.declared.TheConstants.{MAX_PIECES}
use Rattle.rope_leaf.specs.Leaves.{AreLeaves, IsSeam, StandFor}
use Rattle.rope_leaf.specs.Tree.{Tree, text, joined, leaves_of, height_of, breaks_of, IsWide}
use Rattle.rope_leaf.specs.Siblings.{AreSiblings, AreParts}

-- a text of 1 to 981 bytes may be inserted before the character `at` of a tree, which then has
-- fewer than 2^63 bytes
pub record TakesShort (t : Tree) (at : ℕ) (new : List ℕ) : Type 0 where
  pub within : at ≤ length (text t)
  pub some : 1 ≤ length new
  pub short : byte_len new ≤ MAX_SHORT_BYTES
  pub fits : byte_len (text t) + byte_len new < 2 ^ 63

-- a text may be inserted before the character `at` of a tree, which then has fewer than 2^63 bytes
pub record Takes (t : Tree) (at : ℕ) (new : List ℕ) : Type 0 where
  pub within : at ≤ length (text t)
  pub some : 1 ≤ length new
  pub fits : byte_len (text t) + byte_len new < 2 ^ 63

-- the maximum number of leaves, beyond two, that replace a leaf when n bytes are inserted into it
abbrev pub extra_leaves : ℕ → ℕ
extra_leaves n = (n - 1) / MIN_CUT_BYTES

-- the side on which a text is inserted at a seam, the boundary between two leaves: the left, unless
-- the text ends in CR before an LF; else the right, before that LF
pub record MayInsert (t : Tree) (at : ℕ) (new : List ℕ) (to_right : Bool) : Type 0 where
  pub left : to_right ≡ false → IsSeam new (drop at (text t))
  pub right : to_right ≡ true → begins_with_lf (drop at (text t)) ≡ true

-- the index i in a child of n characters at which a text goes that is inserted before the character
-- `at` of its node: not the first of the child, if the text goes to the left of a seam, and not its
-- end, if to the right
pub record GoesIn (at i n : ℕ) (to_right : Bool) : Type 0 where
  pub within : i ≤ n
  pub inside : to_right ≡ true → i < n
  pub outside : to_right ≡ false → (at ≡ 0) ⊎ (1 ≤ i)

-- trees of the old tree's height that replace it, with this text
pub record IsReplaced (old : Tree) (ts : List Tree) (new : List ℕ) : Type 0 where
  pub text_is : joined ts ≡ new
  pub leaves : AreLeaves (leaves_of ts)
  pub stand : 1 ≤ length old.leaves
      → StandFor MIN_HALF_BYTES MIN_HALF_BYTES old.leaves (leaves_of ts)
  pub some : 1 ≤ length ts
  pub few : length ts ≤ MAX_PIECES
  pub each : All (IsWide old.breaks (min MIN_CHILDREN old.width) old.height) ts

-- one tree or two of the old tree's height, with this text
pub record IsInserted (old : Tree) (ts : List Tree) (new : List ℕ) : Type 0 where
  pub text_is : joined ts ≡ new
  pub leaves : AreLeaves (leaves_of ts)
  pub stand : 1 ≤ length old.leaves
      → StandFor MIN_HALF_BYTES MIN_HALF_BYTES old.leaves (leaves_of ts)
  pub parts : AreParts old.breaks old.width (old.width + (MAX_PIECES - 1)) old.height ts

-- trees of one height with this text, at least as many as before, and at most 24
pub record AreGrown (old ts : List Tree) (new : List ℕ) : Type 0 where
  pub as_many : length old ≤ length ts
  pub at_most_24 : length ts ≤ MAX_CHILDREN
  pub text_is : joined ts ≡ new
  pub siblings : AreSiblings (breaks_of old) (height_of old) ts
  pub stand : StandFor MIN_HALF_BYTES MIN_HALF_BYTES (leaves_of old) (leaves_of ts)
