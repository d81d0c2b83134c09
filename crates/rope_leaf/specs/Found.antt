-- The result of a descent to a leaf.
use Rattle.std.specs.Prelude.{◌≡◌, ℕ, ◌+◌, ◌≤◌, ◌<◌, List, [], length, take, slice_index_or}
use Rattle.std.specs.List.{concat}
use Rattle.rope_text.specs.declared.text_info.TextInfo.{TextInfo}
use Rattle.rope_text.specs.TextInfo.{info_of}
use Rattle.rope_leaf.specs.declared.search.Unit.{Unit}
use Rattle.rope_leaf.specs.Search.{count_of}
use Rattle.rope_leaf.specs.Tree.{Tree}

-- the leaf that contains the index `at`, and the counts of the text before it
pub record IsFound (unit : Unit) (at : ℕ) (t : Tree) (leaf : List ℕ) (before : TextInfo) : Type 0
  where
    pub index : ℕ
    pub within : index < length t.leaves
    pub leaf_is : leaf ≡ slice_index_or t.leaves index []
    pub before_is : before ≡ info_of t.breaks (concat (take index t.leaves))
    pub not_past : count_of unit before ≤ at
    pub past : at < count_of unit (info_of t.breaks (concat (take (index + 1) t.leaves)))
