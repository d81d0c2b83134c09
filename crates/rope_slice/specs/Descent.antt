-- The fields of a path: the byte at which its leaf starts, and the list that contains the leaf.
use Rattle.std.specs.Prelude.{◌≡◌, ℕ, ◌+◌, ◌-◌, ◌<◌, ◌≤◌, Option, List, [], ◌∷◌, length, take, drop, get_or, All, IsSomeAnd}
use Rattle.std.specs.Borrow.{Bor}
use Rattle.std.specs.List.{concat}
use Rattle.rope_text.specs.declared.TheConstants.{MAX_CHILDREN}
use Rattle.rope_text.specs.Text.{byte_len}
use Rattle.rope_text.specs.Lookup.{chunk_index_at_byte}
use Rattle.rope_text.specs.declared.text_info.TextInfo.{TextInfo}
use Rattle.rope_leaf.specs.Tree.{Tree, IsTree, tree_over}
use Rattle.rope_tree.specs.View.{IsInnerOf}
use Rattle.rope_slice.specs.Path.{Place}

-- the leaf that starts at a byte, among the leaves
abbrev pub place_at : List (List ℕ) → List ℕ → ℕ → Place
place_at leaves leaf start = record {
  before = take (chunk_index_at_byte leaves start) leaves;
  here = leaf;
  after = drop (chunk_index_at_byte leaves start + 1) leaves;
}

-- a leaf with a text
pub record IsLow (t : Tree) : Type 0 where
  pub levels : t.height ≤ 0
  pub some : 0 < length t.leaves

-- these nodes are consecutive leaves, and the one at `at` has the number `index` among all
pub record AreInList (leaves : List (List ℕ)) (index : ℕ) (nodes : List Tree) (at : ℕ) : Type 0
  where
    pub here : 0 < at + length nodes → at < length nodes
    pub few : length nodes ≤ MAX_CHILDREN
    pub first : at ≤ index
    pub last : (index - at) + length nodes ≤ length leaves
    pub low : All IsLow nodes
    pub each : (i : ℕ) (d : Tree) → i < length nodes
        → (get_or nodes i d).leaves ≡ get_or leaves ((index - at) + i) [] ∷ []

-- the leaf of a tree that starts at a byte, in its list of leaves; a tree that is one leaf has no
-- list
pub record IsDescent (t : Tree) (nodes : List Tree) (at : ℕ) (leaf : List ℕ) (start : ℕ) : Type 0
  where
    pub tree : IsTree t
    pub index : ℕ
    pub within : index < length t.leaves
    pub leaf_is : leaf ≡ get_or t.leaves index []
    pub start_is : start ≡ byte_len (concat (take index t.leaves))
    pub list : AreInList t.leaves index nodes at

-- these nodes are the children of one, with their running totals
abbrev pub AreListed : List Tree → Option (Bor (List TextInfo)) → Type 0
AreListed nodes totals = IsSomeAnd totals (λ sums. IsInnerOf (tree_over nodes) nodes sums.now)

-- a path whose list, if it has one, has its totals
pub record IsListedDescent (t : Tree) (nodes : List Tree) (totals : Option (Bor (List TextInfo)))
    (at : ℕ) (leaf : List ℕ) (start : ℕ) : Type 0 where
  pub descent : IsDescent t nodes at leaf start
  pub listed : 0 < length nodes → AreListed nodes totals
