-- The outcome of splitting a node.
use Rattle.std.specs.Prelude.{◌≡◌, ℕ, List, [], ◌∷◌}
use Rattle.rope_leaf.specs.Tree.{Tree}
use Rattle.rope_leaf.specs.Insert.{IsInserted}
use Rattle.rope_tree.specs.declared.node.in_place.Cut.{Cut}
use Rattle.rope_tree.specs.declared.node.in_place.Cut.TheVariants.{Kept, Grown, Split}

-- the outcome of splitting a node without room for a text: the node is unchanged, or it has the
-- whole text, or it has the first half and a node after it the second
abbrev pub IsCut : Tree → Tree → List ℕ → Cut → Type 0
IsCut old now new Kept = now ≡ old
IsCut old now new Grown = IsInserted old (now ∷ []) new
IsCut old now new (Split back) = IsInserted old (now ∷ back ∷ []) new
