-- Results of joins.
use Rattle.std.specs.Prelude.{◌≡◌, ◌+◌, ◌^◌, ◌≤◌, ◌<◌, max, List, [], ◌∷◌, ◌++◌}
use Rattle.rope_text.specs.declared.TheConstants.{MAX_CHILDREN, MIN_TWO_LEAVES_BYTES}
use Rattle.rope_text.specs.Text.{byte_len}
use Rattle.rope_text.specs.Dense.{IsDenseAfter, last_bytes}
use Rattle.rope_leaf.specs.Leaves.{IsSeam, Recuts}
use Rattle.rope_leaf.specs.Tree.{Tree, text, leaves_of, tree_over, AreChildren}
use Rattle.rope_leaf.specs.Siblings.{AreParts}

-- two trees that may be joined: they have one set of line breaks, and at the seam, the boundary
-- between them, no CR meets an LF
pub record CanJoin (left right : Tree) : Type 0 where
  pub same_breaks : right.breaks ≡ left.breaks
  pub seam : IsSeam (text left) (text right)
  pub fits : byte_len (text left) + byte_len (text right) < 2 ^ 63

-- one of the two trees is a leaf, or the last leaf of the first and the first leaf of the second
-- have at least 492 bytes together
pub record IsNear (left right : Tree) : Type 0 where
  pub near : 1 ≤ left.height → 1 ≤ right.height
      → IsDenseAfter (last_bytes MIN_TWO_LEAVES_BYTES left.leaves) right.leaves

-- two trees of one height that are merged without a further descent: leaves, or trees whose
-- adjacent leaves have at least 492 bytes together
pub record CanMerge (left right : Tree) : Type 0 where
  pub level : left.height ≡ right.height
  pub near : 1 ≤ left.height
      → IsDenseAfter (last_bytes MIN_TWO_LEAVES_BYTES left.leaves) right.leaves

-- a tree as its last child and those before it
pub record EndsIn (t : Tree) (before : List Tree) (last : Tree) : Type 0 where
  pub is : t ≡ tree_over (before ++ last ∷ [])
  pub children : AreChildren t.breaks last.height (before ++ last ∷ [])
  pub above : last.height + 1 ≡ t.height

-- a tree as its first child and those after it
pub record BeginsIn (t first : Tree) (after : List Tree) : Type 0 where
  pub is : t ≡ tree_over (first ∷ after)
  pub children : AreChildren t.breaks first.height (first ∷ after)
  pub above : first.height + 1 ≡ t.height

-- the two trees as one tree or two of the greater height
pub record IsUnion (left right : Tree) (ts : List Tree) : Type 0 where
  pub recuts : Recuts left.leaves right.leaves (leaves_of ts)
  pub equal : left.height ≡ right.height
      → AreParts left.breaks (max left.width right.width) (left.width + right.width) left.height ts
  pub higher : right.height < left.height
      → AreParts left.breaks left.width (left.width + 1) left.height ts
  pub lower : left.height < right.height
      → AreParts left.breaks right.width (right.width + 1) right.height ts

-- the two trees as one, of the height of the higher if its root has room and the other is lower
pub record IsJoin (left right t : Tree) : Type 0 where
  pub same_breaks : t.breaks ≡ left.breaks
  pub recuts : Recuts left.leaves right.leaves t.leaves
  pub least : max left.height right.height ≤ t.height
  pub most : t.height ≤ max left.height right.height + 1
  pub below_left : right.height < left.height → left.width < MAX_CHILDREN → t.height ≡ left.height
  pub below_right : left.height < right.height → right.width < MAX_CHILDREN
      → t.height ≡ right.height
