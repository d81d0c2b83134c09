-- Rows of adjacent nodes, and the running totals that give their counts.
use Rattle.std.specs.Prelude.{◌≡◌, ◌≤◌, ℕ, List, length, take, drop, IfSome}
use Rattle.rope_text.specs.declared.TheConstants.{MAX_CHILDREN}
use Rattle.rope_text.specs.declared.text_info.TextInfo.{TextInfo}
use Rattle.rope_leaf.specs.Tree.{Tree, breaks_of}
use Rattle.rope_leaf.specs.Siblings.{AreLevel}
use Rattle.rope_leaf.specs.Totals.{HasTotals}
use Rattle.rope_tree.specs.declared.node.row.Row.{Row}

-- the trees are some of adjacent trees with these totals, and `from` trees precede them
pub record IsPart (ts : List Tree) (totals : List TextInfo) (from : ℕ) : Type 0 where
  pub whole : List Tree
  pub level : AreLevel whole
  pub few : length whole ≤ MAX_CHILDREN
  pub totals_right : HasTotals (breaks_of whole) totals whole
  pub within : from ≤ length whole
  pub is : ts ≡ take (length ts) (drop from whole)

-- if a row has totals, they are those of the parent
abbrev pub IsRow : Row → Type 0
IsRow a = IfSome a.totals (λ totals. IsPart a.nodes.now totals.now a.from)
