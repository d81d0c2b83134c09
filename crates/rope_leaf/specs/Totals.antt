-- Running totals over adjacent trees.
use Rattle.std.specs.Prelude.{◌≡◌, ℕ, ◌+◌, ◌<◌, List, [], length, take, slice_index_or}
use Rattle.rope_text.specs.declared.line_breaks.LineBreaks.{LineBreaks}
use Rattle.rope_text.specs.declared.text_info.TextInfo.{TextInfo}
use Rattle.rope_text.specs.TextInfo.{info_of}
use Rattle.rope_leaf.specs.Tree.{Tree, joined, height_of, breaks_of, AreChildren}

-- each total has the counts of the text up to the end of its child
pub record HasTotals (breaks : LineBreaks) (totals : List TextInfo) (ts : List Tree) : Type 0 where
  pub as_many : length totals ≡ length ts
  pub total_at : (k : ℕ) (d : TextInfo) → k < length ts
      → slice_index_or totals k d ≡ info_of breaks (joined (take (k + 1) ts))

-- the counts of the text of some trees, by their set of line breaks, or by any if there are none
pub record IsTotalOf (ts : List Tree) (total : TextInfo) : Type 0 where
  pub none : length ts ≡ 0 → (breaks : LineBreaks) → total ≡ info_of breaks []
  pub all : 0 < length ts → total ≡ info_of (breaks_of ts) (joined ts)

-- the children of a node of this height, with their totals
pub record AreBelow (height : ℕ) (totals : List TextInfo) (ts : List Tree) : Type 0 where
  pub above : height ≡ height_of ts + 1
  pub children : AreChildren (breaks_of ts) (height_of ts) ts
  pub totals_right : HasTotals (breaks_of ts) totals ts
