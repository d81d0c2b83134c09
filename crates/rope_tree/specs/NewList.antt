-- The invariant of a list of children under construction.
use Rattle.std.specs.Prelude.{◌≡◌, List, length, take, drop}
use Rattle.std.specs.List.{All}
use Rattle.rope_text.specs.declared.TheConstants.{MAX_CHILDREN}
use Rattle.rope_text.specs.declared.text_info.TextInfo.{TextInfo}
use Rattle.rope_leaf.specs.Tree.{Tree, breaks_of}
use Rattle.rope_leaf.specs.Totals.{HasTotals}
use Rattle.rope_leaf.specs.Flat.{IsFlat}

-- the entries of its nodes, and the totals of the first of them
pub record NewList : Type 0 where
  pub totals : List TextInfo
  pub nodes : List Tree

abbrev pub new_list : List TextInfo → List Tree → NewList
new_list totals nodes = record { totals = totals; nodes = nodes }

-- the nodes that have totals
abbrev pub nodes_in : NewList → List Tree
nodes_in a = take (length a.totals) a.nodes

-- the totals are those of these nodes, and the entries after them are empty nodes
pub record IsNewList (a : NewList) : Type 0 where
  pub room : length a.nodes ≡ MAX_CHILDREN
  pub totals_right : HasTotals (breaks_of (nodes_in a)) a.totals (nodes_in a)
  pub places : All IsFlat (drop (length a.totals) a.nodes)
