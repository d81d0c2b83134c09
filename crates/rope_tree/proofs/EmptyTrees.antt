-- A tree without text has no leaves, and is one node.
use Rattle.std.proofs.Common.{◌≡◌, ◌-◌, ◌^◌, [], length, inl, inr, ap, arith}
use Rattle.std.specs.List.{concat}
use Rattle.std.proofs.lemmas.List.{nil_from_length}
use Rattle.std.proofs.lemmas.Str.{length-le-encodes}
use Rattle.std.proofs.lemmas.Bool.{cases_lt}
use Rattle.std.proofs.Math.Nat.{mul-le-mul_right, one-le-pow}
use Rattle.rope_text.specs.Text.{byte_len}
use Rattle.rope_leaf.specs.Tree.{Tree, text, IsTree}
use Rattle.rope_leaf.proofs.LeafLaws.{leaves_le}

-- a tree without text has no leaf, and is a single node
pub no_leaves_of : (t : Tree) → IsTree t → byte_len (text t) ≡ 0 → t.leaves ≡ []
no_leaves_of t i none =
    nil_from_length t.leaves
    (omega (arith, leaves_le t.leaves i.leaves.each, length-le-encodes (concat t.leaves)))

pub lone_of_none : (t : Tree) → IsTree t → byte_len (text t) ≡ 0 → t.height ≡ 0
lone_of_none t i none = elim (cases_lt 0 t.height) [
  | inl l ↦ absurd (omega (
    arith,
    ap length (no_leaves_of t i none),
    i.least_leaves l,
    i.at_least_two l,
    mul-le-mul_right (12 ^ (t.height - 1)) (i.at_least_two l),
    one-le-pow (t.height - 1) 12 (omega arith),
  ))
  | inr z ↦ omega arith
]
