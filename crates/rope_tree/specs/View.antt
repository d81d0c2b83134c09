-- The view of a node.
use Rattle.std.specs.Prelude.{◌≡◌, List, [], ◌∷◌}
use Rattle.rope_text.specs.declared.text_info.TextInfo.{TextInfo}
use Rattle.rope_leaf.specs.Tree.{Tree, AreChildren, tree_over, height_of, breaks_of}
use Rattle.rope_leaf.specs.LeafTree.{IsLeafOf}
use Rattle.rope_leaf.specs.Totals.{HasTotals}
use Rattle.rope_tree.specs.declared.node.View.{View}
use Rattle.rope_tree.specs.declared.node.View.TheVariants.{Leaf, Inner}
use Rattle.rope_tree.specs.declared.node.Nodes.{Nodes}
use Rattle.rope_tree.specs.declared.node.Nodes.TheVariants.{One, Two}

-- an inner node over these children, with these running totals
pub record IsInnerOf (t : Tree) (ts : List Tree) (totals : List TextInfo) : Type 0 where
  pub is : t ≡ tree_over ts
  pub children : AreChildren (breaks_of ts) (height_of ts) ts
  pub totals_right : HasTotals (breaks_of ts) totals ts

abbrev pub IsViewOf : Tree → View → Type 0
IsViewOf t (Leaf l) = IsLeafOf t l
IsViewOf t (Inner v w) = IsInnerOf t v.now w.now

-- one node or two, in order
abbrev pub trees_in : Nodes → List Tree
trees_in (One a) = a ∷ []
trees_in (Two a b) = a ∷ b ∷ []
