-- The model of a node: a tree.
use Rattle.std.specs.Prelude.{◌≡◌, ℕ, ◌+◌, ◌-◌, ◌*◌, ◌^◌, ◌≤◌, ◌<◌, List, [], ◌∷◌, length}
use Rattle.std.specs.List.{All, flat_map, concat}
use Rattle.rope_text.specs.declared.TheConstants.{MAX_CHILDREN, MIN_CHILDREN}
use Rattle.rope_text.specs.declared.line_breaks.LineBreaks.{LineBreaks}
use Rattle.rope_text.specs.declared.line_breaks.LineBreaks.TheVariants.{Unicode}
use Rattle.rope_text.specs.Text.{byte_len}
use Rattle.rope_leaf.specs.Leaves.{AreLeaves}

-- the set of line breaks, the texts of the leaves that are not empty, in order, the number of
-- levels below, and the number of children
pub record Tree : Type 0 where
  pub breaks : LineBreaks
  pub leaves : List (List ℕ)
  pub height : ℕ
  pub width : ℕ

-- the text of a tree
abbrev pub text : Tree → List ℕ
text t = concat t.leaves

-- the texts of all leaves of some trees
abbrev pub leaves_of : List Tree → List (List ℕ)
leaves_of ts = flat_map (λ t. t.leaves) ts

-- the text of adjacent trees
abbrev pub joined : List Tree → List ℕ
joined ts = concat (leaves_of ts)

-- the height, and the set of line breaks, of the first tree
abbrev pub height_of : List Tree → ℕ
height_of [] = 0
height_of (t ∷ ts) = t.height

abbrev pub breaks_of : List Tree → LineBreaks
breaks_of [] = Unicode
breaks_of (t ∷ ts) = t.breaks

-- the leaves of a text that fits in one: none if it is empty
abbrev pub one_leaf : List ℕ → List (List ℕ)
one_leaf [] = []
one_leaf (c ∷ cs) = (c ∷ cs) ∷ []

-- the tree that is a leaf
abbrev pub leaf_tree : LineBreaks → List ℕ → Tree
leaf_tree breaks leaf = record { breaks = breaks; leaves = one_leaf leaf; height = 0; width = 0 }

-- the tree with these children
abbrev pub tree_over : List Tree → Tree
tree_over ts = record {
  breaks = breaks_of ts;
  leaves = leaves_of ts;
  height = height_of ts + 1;
  width = length ts;
}

-- the invariant of every node
pub record IsTree (t : Tree) : Type 0 where
  pub lone : t.height ≡ 0 → length t.leaves ≤ 1
  pub at_least_two : 1 ≤ t.height → 2 ≤ t.width
  pub at_most_24 : t.width ≤ MAX_CHILDREN
  pub least_leaves : 1 ≤ t.height → t.width * MIN_CHILDREN ^ (t.height - 1) ≤ length t.leaves
  pub most_leaves : 1 ≤ t.height → length t.leaves ≤ t.width * MAX_CHILDREN ^ (t.height - 1)
  pub leaves : AreLeaves t.leaves
  pub fits : byte_len (concat t.leaves) < 2 ^ 63

-- a tree of height h with this set of line breaks that is not empty and whose root, unless it is a
-- leaf, has at least w children
pub record IsWide (breaks : LineBreaks) (w h : ℕ) (t : Tree) : Type 0 where
  pub same_breaks : t.breaks ≡ breaks
  pub at_height : t.height ≡ h
  pub wide : 1 ≤ h → w ≤ t.width
  pub some : 1 ≤ length t.leaves
  pub tree : IsTree t

-- a node that may be a child of another, at height h
abbrev pub IsChild : LineBreaks → ℕ → Tree → Type 0
IsChild breaks h t = IsWide breaks MIN_CHILDREN h t

-- the children of a node at height h + 1
pub record AreChildren (breaks : LineBreaks) (h : ℕ) (ts : List Tree) : Type 0 where
  pub at_least_two : 2 ≤ length ts
  pub at_most_24 : length ts ≤ MAX_CHILDREN
  pub each : All (IsChild breaks h) ts
  pub leaves : AreLeaves (leaves_of ts)
  pub fits : byte_len (joined ts) < 2 ^ 63

-- trees that may be the children of one node
abbrev pub AreFamily : List Tree → Type 0
AreFamily ts = AreChildren (breaks_of ts) (height_of ts) ts
