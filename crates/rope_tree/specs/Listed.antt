-- The model and the invariant of a list of children.
use Rattle.std.specs.Prelude.{◌≡◌, ℕ, ◌+◌, max, List, [], ◌∷◌, length, take, drop}
use Rattle.std.specs.List.{All}
use Rattle.rope_text.specs.declared.TheConstants.{MAX_CHILDREN}
use Rattle.rope_tree.specs.declared.node.Children.TheInside.{Inside}
use Rattle.rope_leaf.specs.Tree.{Tree, height_of, breaks_of}
use Rattle.rope_leaf.specs.Totals.{HasTotals}
use Rattle.rope_leaf.specs.Flat.{IsFlat}

-- a bound above the size of every tree, and above that of an empty node
abbrev pub tallest : List Tree → ℕ
tallest [] = 1
tallest (t ∷ ts) = max (t.height + t.height + 1) (tallest ts)

-- the nodes that have totals
abbrev pub listed : Inside → List Tree
listed a = take (length a.totals) a.nodes

-- the totals, the height and the set of line breaks are those of the nodes, and the entries after
-- the nodes are empty nodes
pub record IsListed (a : Inside) : Type 0 where
  pub room : length a.nodes ≡ MAX_CHILDREN
  pub totals_right : HasTotals (breaks_of (listed a)) a.totals (listed a)
  pub above : a.height ≡ height_of (listed a) + 1
  pub same_breaks : a.breaks ≡ breaks_of (listed a)
  pub places : All IsFlat (drop (length a.totals) a.nodes)
