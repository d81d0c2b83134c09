-- Sizes for termination: each child is smaller than its list, and each list than its node.
use Rattle.std.specs.Prelude.{ℕ, List, [], ◌∷◌, ◌≤◌, ◌+◌, max, length, take, drop}
use Rattle.std.proofs.Common.{zero, suc, arith}
use Rattle.std.specs.List.{All}
use Rattle.std.proofs.lemmas.List.Elements.{All-head, All-tail}
use denote.Param.Weighed.{most}
use Rattle.rope_text.specs.declared.line_breaks.LineBreaks.{LineBreaks}
use Rattle.rope_tree.specs.declared.node.Children.TheInside.{Inside}
use Rattle.rope_tree.specs.declared.node.Form.{Form}
use Rattle.rope_tree.specs.declared.node.Form.TheVariants.{Empty, Leaf, Inner}
use Rattle.rope_tree.specs.declared.node.Children.TheDeep.{deep-Form}
use Rattle.rope_leaf.specs.Tree.{Tree, IsChild, height_of, breaks_of}
use Rattle.rope_leaf.specs.Flat.{IsFlat}
use Rattle.rope_tree.specs.Listed.{tallest, listed, IsListed}
use Rattle.rope_tree.specs.Shape.{form_tree, IsForm}

-- trees followed by others that are no higher than a leaf
most_le_tallest : (n : ℕ) (ts : List Tree) → All IsFlat (drop n ts)
    → most (λ (t : Tree). t.height + t.height + 1) ts ≤ tallest (take n ts)
most_le_tallest zero [] low = omega arith
most_le_tallest zero (t ∷ ts) low =
    omega (arith, All-head IsFlat t ts low, most_le_tallest zero ts (All-tail IsFlat t ts low))
most_le_tallest (suc n) [] low = omega arith
most_le_tallest (suc n) (t ∷ ts) low = omega (arith, most_le_tallest n ts low)

pub deep_le_tallest : (a : Inside) → IsListed a
    → max (most (λ (t : Tree). t.height + t.height + 1) a.nodes) 0 ≤ tallest (listed a)
deep_le_tallest a i = omega (arith, most_le_tallest (length a.totals) a.nodes i.places)

pub tallest_below : (breaks : LineBreaks) (h : ℕ) (ts : List Tree) → All (IsChild breaks h) ts
    → tallest ts ≤ h + h + 1
tallest_below breaks h [] each = omega arith
tallest_below breaks h (t ∷ ts) each =
    omega (
      arith,
      (All-head (IsChild breaks h) t ts each).at_height,
      tallest_below breaks h ts (All-tail (IsChild breaks h) t ts each),
    )

pub deep_le_height : (f : Form) → IsForm f
    → max (deep-Form f) 0 ≤ (form_tree f).height + (form_tree f).height
deep_le_height (Empty b) i = omega arith
deep_le_height (Leaf rc) i = omega arith
deep_le_height (Inner rc) i =
    omega (arith, tallest_below (breaks_of rc.value) (height_of rc.value) rc.value i.each)
