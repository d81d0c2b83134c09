-- Lists of children split in place.
use Rattle.std.specs.Prelude.{◌≡◌, ℕ, ◌≤◌, List, [], ◌∷◌, ◌++◌, length, take, drop}
use Rattle.rope_text.specs.declared.TheConstants.{MAX_CHILDREN, MIN_CHILDREN}
use Rattle.rope_text.specs.declared.line_breaks.LineBreaks.{LineBreaks}
use Rattle.rope_text.specs.Dense.{IsDenseAfter, last_bytes}
use Rattle.rope_leaf.specs.Tree.{Tree, joined, leaves_of, height_of, breaks_of, tree_over}
use Rattle.rope_leaf.specs.Siblings.{AreSiblings}

-- the node over a list of children: none if the list is empty
abbrev pub nodes_over : List Tree → List Tree
nodes_over [] = []
nodes_over (t ∷ ts) = tree_over (t ∷ ts) ∷ []

-- one node or two over these children, each over 12 to 24
pub record AreSettled (children nodes : List Tree) : Type 0 where
  pub first : List Tree
  pub second : List Tree
  pub same : first ++ second ≡ children
  pub is : nodes ≡ nodes_over first ++ nodes_over second
  pub least : MIN_CHILDREN ≤ length first
  pub most : length first ≤ MAX_CHILDREN
  pub least_second : 1 ≤ length second → MIN_CHILDREN ≤ length second
  pub most_second : length second ≤ MAX_CHILDREN

-- a list and the nodes over these children, which follow it
pub record IsPushed (ts children new : List Tree) : Type 0 where
  pub nodes : List Tree
  pub settled : AreSettled children nodes
  pub is : new ≡ ts ++ nodes

-- a list and the nodes over these children, which precede it
pub record IsPrepended (children ts new : List Tree) : Type 0 where
  pub nodes : List Tree
  pub settled : AreSettled children nodes
  pub is : new ≡ nodes ++ ts

-- the trees before the character `at` of a list of children, of the height of these
pub record IsFrontOf (at : ℕ) (ts front : List Tree) : Type 0 where
  pub text_is : joined front ≡ take at (joined ts)
  pub level : AreSiblings (breaks_of ts) (height_of ts) front
  pub some : 1 ≤ length front
  pub few : length front ≤ length ts

-- the trees from the character `at` of a list of children on, of the height of these
pub record IsBackOf (at : ℕ) (ts back : List Tree) : Type 0 where
  pub text_is : joined back ≡ drop at (joined ts)
  pub level : AreSiblings (breaks_of ts) (height_of ts) back
  pub some : 1 ≤ length back
  pub few : length back ≤ length ts

-- the first trees may follow any leaf that the list may follow
abbrev pub MayFollow : List Tree → List Tree → Type 0
MayFollow ts front = (n : ℕ) → IsDenseAfter n (leaves_of ts) → IsDenseAfter n (leaves_of front)

-- the last leaf of the last trees is as long as that of the list
abbrev pub EndsAs : List Tree → List Tree → Type 0
EndsAs ts back = (m n : ℕ) → last_bytes m (leaves_of ts) ≤ last_bytes n (leaves_of back)

-- the trees before the character `at` of a list of children, and those from it on, which may stand
-- between the neighbours of the list
pub record AreSides (at : ℕ) (ts front back : List Tree) : Type 0 where
  pub is_front : IsFrontOf at ts front
  pub is_back : IsBackOf at ts back
  pub following : MayFollow ts front
  pub ahead : EndsAs ts back

-- adjacent trees with this text that need no neighbours: the children of a root, or the only tree
pub record IsWhole (breaks : LineBreaks) (cs : List ℕ) (ts : List Tree) : Type 0 where
  pub text_is : joined ts ≡ cs
  pub level : AreSiblings breaks (height_of ts) ts
  pub some : 1 ≤ length ts
  pub few : length ts ≤ MAX_CHILDREN
