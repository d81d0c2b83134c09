-- Adjacent trees of one height.
use Rattle.std.specs.Prelude.{◌≡◌, ℕ, ◌+◌, ◌^◌, ◌≤◌, ◌<◌, min, List, [], ◌∷◌, length}
use Rattle.std.specs.List.{All}
use Rattle.rope_text.specs.declared.TheConstants.{MAX_CHILDREN, MIN_CHILDREN}
use Rattle.rope_text.specs.declared.line_breaks.LineBreaks.{LineBreaks}
use Rattle.rope_text.specs.Text.{byte_len}
use Rattle.rope_leaf.specs.Leaves.{AreLeaves}
use Rattle.rope_leaf.specs.Tree.{Tree, joined, leaves_of, height_of, breaks_of, leaf_tree, tree_over, IsWide, IsChild}

-- adjacent trees of height h, with one set of line breaks
pub record AreSiblings (breaks : LineBreaks) (h : ℕ) (ts : List Tree) : Type 0 where
  pub each : All (IsChild breaks h) ts
  pub leaves : AreLeaves (leaves_of ts)
  pub fits : byte_len (joined ts) < 2 ^ 63

-- adjacent trees of one height, with one set of line breaks
abbrev pub AreLevel : List Tree → Type 0
AreLevel ts = AreSiblings (breaks_of ts) (height_of ts) ts

-- one tree or two of height h, whose roots have at least 12 children, or `least` if that is fewer;
-- two only if there were more than 24 children, of at most `most`
pub record AreParts (breaks : LineBreaks) (least most h : ℕ) (ts : List Tree) : Type 0 where
  pub some : 1 ≤ length ts
  pub at_most_two : length ts ≤ 2
  pub each : All (IsWide breaks (min MIN_CHILDREN least) h) ts
  pub two : length ts ≡ 2 → All (IsChild breaks h) ts
  pub full : length ts ≡ 2 → 1 ≤ h → MAX_CHILDREN < most

-- one node or two over these trees
abbrev pub AreOver : List Tree → List Tree → Type 0
AreOver ts nodes = AreParts (breaks_of ts) (length ts) (length ts) (height_of ts + 1) nodes

-- adjacent trees as one: the only tree, or a node over them
abbrev pub gathered : List Tree → Tree
gathered [] = leaf_tree (breaks_of []) []
gathered (t ∷ []) = t
gathered (t ∷ u ∷ ts) = tree_over (t ∷ u ∷ ts)
