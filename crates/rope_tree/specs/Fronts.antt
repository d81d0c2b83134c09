-- Leaves split off the front of a text, and the rest of it.
use Rattle.std.specs.Prelude.{◌≡◌, ℕ, ◌+◌, ◌*◌, ◌<◌, ◌≤◌, ◌^◌, List, ◌++◌, length}
use Rattle.std.specs.List.{All, concat}
use Rattle.rope_text.specs.declared.TheConstants.{MIN_CUT_BYTES, MIN_TWO_LEAVES_BYTES}
use Rattle.rope_text.specs.declared.line_breaks.LineBreaks.{LineBreaks}
use Rattle.rope_text.specs.Text.{byte_len}
use Rattle.rope_text.specs.Dense.{last_bytes}
use Rattle.rope_leaf.specs.Leaves.{AreLeaves, IsSeam}
use Rattle.rope_leaf.specs.Tree.{Tree, joined, leaves_of, IsChild}
use Rattle.rope_tree.specs.declared.builder.Builder.TheInside.{Inside}

-- the leaves so far, and the rest of the text, whose first characters may begin any leaf
pub record AreFronts (text : List ℕ) (leaves : List (List ℕ)) (rest : List ℕ) : Type 0 where
  pub whole : concat leaves ++ rest ≡ text
  pub are_leaves : AreLeaves leaves
  pub long : 1 ≤ length rest → MIN_TWO_LEAVES_BYTES ≤ last_bytes MIN_TWO_LEAVES_BYTES leaves
  pub apart : IsSeam (concat leaves) rest

-- adjacent leaf nodes, and the rest of the text
pub record AreFrontNodes (breaks : LineBreaks) (text : List ℕ) (ts : List Tree)
    (rest : List ℕ) : Type 0 where
  pub each : All (IsChild breaks 0) ts
  pub fronts : AreFronts text (leaves_of ts) rest

-- the text passed in so far, and the set of line breaks of the tree to be built
pub record Building : Type 0 where
  pub text : List ℕ
  pub breaks : LineBreaks

abbrev pub building_of : Inside → Building
building_of a = record { text = joined a.leaves.items ++ a.rest; breaks = a.breaks }

-- the leaves are split off the front of the text, each with at least 981 bytes, and are followed by
-- some text that is in no leaf yet
pub record IsBuilding (a : Inside) : Type 0 where
  pub nodes : AreFrontNodes a.breaks (joined a.leaves.items ++ a.rest) a.leaves.items a.rest
  pub long : MIN_CUT_BYTES * length (leaves_of a.leaves.items) + byte_len a.rest ≤ a.bytes
  pub followed : 0 < length a.leaves.items → 0 < byte_len a.rest
  pub counted : a.bytes ≡ byte_len (joined a.leaves.items ++ a.rest)
  pub fits : a.bytes < 2 ^ 63
