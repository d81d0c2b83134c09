-- The model and the invariant of a leaf.
use Rattle.std.specs.Prelude.{◌≡◌, ◌≤◌, true}
use Rattle.std.specs.Str.{all_scalars}
use Rattle.rope_text.specs.declared.TheConstants.{MAX_BYTES}
use Rattle.rope_text.specs.Text.{byte_len}
use Rattle.rope_text.specs.TextInfo.{info_of}
use Rattle.rope_leaf.specs.Tree.{Tree, leaf_tree}
use Rattle.rope_leaf.specs.declared.leaf.Leaf.TheInside.{Inside}

abbrev pub leaf_of : Inside → Tree
leaf_of a = leaf_tree a.summary.breaks a.text

-- a text that fits in a leaf, with its counts
pub record IsLeaf (a : Inside) : Type 0 where
  pub fits : byte_len a.text ≤ MAX_BYTES
  pub scalars : all_scalars a.text ≡ true
  pub counted : a.summary.info ≡ info_of a.summary.breaks a.text
