-- A tree that is a leaf.
use Rattle.std.specs.Prelude.{◌≡◌, ℕ, ◌≤◌, true, List}
use Rattle.std.specs.Str.{all_scalars}
use Rattle.rope_text.specs.declared.TheConstants.{MAX_BYTES}
use Rattle.rope_text.specs.Text.{byte_len}
use Rattle.rope_leaf.specs.Tree.{Tree, leaf_tree, IsTree}
use Rattle.rope_leaf.specs.Flat.{IsFlat}

-- a leaf with this text
pub record IsLeafOf (t : Tree) (leaf : List ℕ) : Type 0 where
  pub is : t ≡ leaf_tree t.breaks leaf
  pub fits : byte_len leaf ≤ MAX_BYTES
  pub scalars : all_scalars leaf ≡ true

-- a leaf node: a tree of height 0, with the invariants of every node
pub record IsLeafNode (t : Tree) : Type 0 where
  pub flat : IsFlat t
  pub tree : IsTree t
