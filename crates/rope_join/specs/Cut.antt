-- The front and the back of a split tree.
use Rattle.std.specs.Prelude.{◌≡◌, ℕ, ◌+◌, ◌≤◌, max, List, [], ◌∷◌, ◌++◌, length, take, drop}
use Rattle.rope_text.specs.declared.TheConstants.{MAX_CHILDREN, MIN_TWO_LEAVES_BYTES}
use Rattle.rope_text.specs.Dense.{IsDenseAfter, last_bytes}
use Rattle.rope_leaf.specs.Leaves.{AreLeaves}
use Rattle.rope_leaf.specs.Tree.{Tree, text, height_of, IsTree, AreFamily}
use Rattle.rope_leaf.specs.Siblings.{gathered}
use Rattle.rope_join.specs.Join.{CanJoin, IsUnion}
use Rattle.rope_join.specs.declared.cut.Side.{Side}
use Rattle.rope_join.specs.declared.cut.Side.TheVariants.{Front, Back}

-- the number of characters of the first leaf, and of the last
abbrev pub first_chars : List (List ℕ) → ℕ
first_chars [] = 0
first_chars (l ∷ ls) = length l

abbrev pub last_chars : ℕ → List (List ℕ) → ℕ
last_chars n [] = n
last_chars n (l ∷ ls) = last_chars (length l) ls

-- a split before the character `at` leaves the first leaf whole, or the last
pub record SparesFirst (at : ℕ) (t : Tree) : Type 0 where
  pub some : 1 ≤ first_chars t.leaves
  pub past : first_chars t.leaves ≤ at

pub record SparesLast (at : ℕ) (t : Tree) : Type 0 where
  pub some : 1 ≤ last_chars 0 t.leaves
  pub before : at + last_chars 0 t.leaves ≤ length (text t)

-- the first characters; a result of more than one leaf may follow any leaf that the tree may follow
pub record IsFront (at : ℕ) (t part : Tree) : Type 0 where
  pub text_is : text part ≡ take at (text t)
  pub same_breaks : part.breaks ≡ t.breaks
  pub leaves : AreLeaves part.leaves
  pub not_higher : part.height ≤ t.height
  pub near : 1 ≤ part.height → (n : ℕ) → IsDenseAfter n t.leaves → IsDenseAfter n part.leaves
  pub following : SparesFirst at t → (n : ℕ) → IsDenseAfter n t.leaves → IsDenseAfter n part.leaves

-- the characters from `at` on; the last leaf of a result of more than one is as long as the tree's
pub record IsBack (at : ℕ) (t part : Tree) : Type 0 where
  pub text_is : text part ≡ drop at (text t)
  pub same_breaks : part.breaks ≡ t.breaks
  pub leaves : AreLeaves part.leaves
  pub not_higher : part.height ≤ t.height
  pub near : 1 ≤ part.height → (m n : ℕ) → last_bytes m t.leaves ≤ last_bytes n part.leaves
  pub ahead : SparesLast at t → (m n : ℕ) → last_bytes m t.leaves ≤ last_bytes n part.leaves

-- the first characters of a text, or the rest
abbrev pub side_of : Side → ℕ → List ℕ → List ℕ
side_of Front at cs = take at cs
side_of Back at cs = drop at cs

-- the first `end` characters of one tree, and the characters of the other from `start` on; on a
-- side
-- where the split leaves the outer leaf whole, it may have the neighbours of the tree there
pub record IsSides (left : Tree) (end : ℕ) (right : Tree) (start : ℕ) (part : Tree) : Type 0 where
  pub text_is : text part ≡ take end (text left) ++ drop start (text right)
  pub same_breaks : part.breaks ≡ left.breaks
  pub leaves : AreLeaves part.leaves
  pub not_higher : part.height ≤ max left.height right.height + 1
  pub following : SparesFirst end left → (n : ℕ) → IsDenseAfter n left.leaves
      → IsDenseAfter n part.leaves
  pub ahead : SparesLast start right → (m n : ℕ)
      → last_bytes m right.leaves ≤ last_bytes n part.leaves

-- adjacent trees that may be gathered: as the only tree, or as the children of one node
pub record AreGatherable (ts : List Tree) : Type 0 where
  pub some : 1 ≤ length ts
  pub at_most_24 : length ts ≤ MAX_CHILDREN
  pub family : 2 ≤ length ts → AreFamily ts

-- adjacent trees that make a side of a split tree; if there are several, they have the height of
-- its children
pub record ArePart (t : Tree) (ts : List Tree) : Type 0 where
  pub gather : AreGatherable ts
  pub tree : IsTree (gathered ts)
  pub below : 2 ≤ length ts → height_of ts + 1 ≡ t.height

-- two adjacent children of one node
pub record AreBeside (left right : Tree) : Type 0 where
  pub level : left.height ≡ right.height
  pub left_some : 1 ≤ length left.leaves
  pub right_some : 1 ≤ length right.leaves
  pub join : CanJoin left right
  pub near : IsDenseAfter (last_bytes MIN_TWO_LEAVES_BYTES left.leaves) right.leaves

-- a tree and the front of its neighbour, as one tree or two
pub record IsWithFront (left : Tree) (at : ℕ) (right : Tree) (ts : List Tree) : Type 0 where
  pub part : Tree
  pub front : IsFront at right part
  pub union : IsUnion left part ts

-- the back of a tree and its neighbour, as one tree or two
pub record IsWithBack (left : Tree) (at : ℕ) (right : Tree) (ts : List Tree) : Type 0 where
  pub part : Tree
  pub back : IsBack at left part
  pub union : IsUnion part right ts
