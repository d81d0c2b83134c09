-- A tree in place of some children of a node.
use Rattle.std.specs.Prelude.{◌≡◌, ℕ, ◌+◌, ◌^◌, ◌≤◌, ◌<◌, List, ◌++◌, length, take, drop}
use Rattle.std.specs.List.{concat}
use Rattle.rope_text.specs.declared.TheConstants.{MIN_TWO_LEAVES_BYTES}
use Rattle.rope_text.specs.Text.{byte_len}
use Rattle.rope_text.specs.Dense.{IsDenseAfter, last_bytes}
use Rattle.rope_leaf.specs.Leaves.{AreLeaves, IsSeam, Recuts}
use Rattle.rope_leaf.specs.Siblings.{gathered}
use Rattle.rope_join.specs.Join.{IsJoin}
use Rattle.rope_leaf.specs.Tree.{Tree, text, joined, leaves_of, height_of, breaks_of, IsTree}

-- the leaves of the children before, and those of the tree and of the children after it
abbrev pub leaves_before : List Tree → ℕ → List (List ℕ)
leaves_before ts first = leaves_of (take first ts)

abbrev pub leaves_after : List Tree → ℕ → Tree → List (List ℕ)
leaves_after ts past part = part.leaves ++ leaves_of (drop past ts)

-- a tree may replace the children from `first` up to `past`, which include neither the first nor
-- the last
pub record CanPut (ts : List Tree) (first past : ℕ) (part : Tree) : Type 0 where
  pub some_before : 1 ≤ first
  pub ordered : first < past
  pub some_after : past < length ts
  pub tree : IsTree part
  pub some : 1 ≤ length part.leaves
  pub same_breaks : part.breaks ≡ breaks_of ts
  pub not_higher : part.height ≤ height_of ts + 1
  pub following : AreLeaves (leaves_after ts past part)
  pub seam : IsSeam (concat (leaves_before ts first)) (concat (leaves_after ts past part))
  pub near : IsDenseAfter (last_bytes MIN_TWO_LEAVES_BYTES (leaves_before ts first)) part.leaves
  pub fits : byte_len (concat (leaves_before ts first)) + byte_len
      (concat (leaves_after ts past part)) < 2 ^ 63

-- the children before, the tree and the children after it as one tree
pub record IsPut (ts : List Tree) (first past : ℕ) (part t : Tree) : Type 0 where
  pub same_breaks : t.breaks ≡ breaks_of ts
  pub recuts : Recuts (leaves_before ts first) (leaves_after ts past part) t.leaves
  pub not_higher : t.height ≤ height_of ts + 2

-- a tree may replace the first children, up to `past`, or the last, from `first` on
pub record CanPutAtEnd (ts : List Tree) (first past : ℕ) (part : Tree) : Type 0 where
  pub ordered : first < past
  pub within : past ≤ length ts
  pub at_start : past < length ts → first ≡ 0
  pub at_end : past ≡ length ts → 0 < first
  pub tree : IsTree part
  pub same_breaks : part.breaks ≡ breaks_of ts
  pub not_higher : part.height ≤ height_of ts + 1
  pub seam_before : IsSeam (joined (take first ts)) (text part)
  pub seam_after : IsSeam (text part) (joined (drop past ts))
  pub fits : byte_len (joined (take first ts))
      + (byte_len (text part) + byte_len (joined (drop past ts))) < 2 ^ 63

-- the tree joined with the other children
pub record IsPutAtEnd (ts : List Tree) (first past : ℕ) (part t : Tree) : Type 0 where
  pub before : past < length ts → IsJoin part (gathered (drop past ts)) t
  pub following : past ≡ length ts → IsJoin (gathered (take first ts)) part t
