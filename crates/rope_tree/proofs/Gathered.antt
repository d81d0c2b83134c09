-- Adjacent trees as one.
use Rattle.std.proofs.Common.{◌≡◌, ℕ, ◌+◌, ◌≤◌, List, [], ◌∷◌, length, refl, sym, arith}
use Rattle.std.specs.List.{All}
use Rattle.std.proofs.lemmas.List.{append-nil}
use Rattle.std.proofs.lemmas.List.Elements.{All-head}
use Rattle.rope_text.specs.declared.line_breaks.LineBreaks.{LineBreaks}
use Rattle.rope_leaf.specs.Tree.{Tree, leaves_of, height_of, breaks_of, tree_over, IsWide, IsTree, AreChildren}
use Rattle.rope_leaf.specs.Siblings.{gathered}
use Rattle.rope_leaf.proofs.TreeLaws.{is_tree_over}

-- properties of the result
pub record IsGathered (ts : List Tree) (t : Tree) : Type 0 where
  pub same_breaks : t.breaks ≡ breaks_of ts
  pub leaves : t.leaves ≡ leaves_of ts
  pub alone : length ts ≡ 1 → t.height ≡ height_of ts
  pub more : 2 ≤ length ts → t.height ≡ height_of ts + 1
  pub width : 2 ≤ length ts → t.width ≡ length ts

pub is_gathered : (ts : List Tree) → 1 ≤ length ts → IsGathered ts (gathered ts)
is_gathered [] some = absurd (omega arith)
is_gathered (t ∷ []) some = record {
  same_breaks = refl;
  leaves = sym (append-nil t.leaves);
  alone = λ _. refl;
  more = λ l. absurd (omega arith);
  width = λ l. absurd (omega arith);
}
is_gathered (t ∷ u ∷ ts) some = record {
  same_breaks = refl;
  leaves = refl;
  alone = λ l. absurd (omega arith);
  more = λ _. refl;
  width = λ _. refl;
}

pub gathered_over : (ts : List Tree) → 2 ≤ length ts → gathered ts ≡ tree_over ts
gathered_over [] many = absurd (omega arith)
gathered_over (t ∷ []) many = absurd (omega arith)
gathered_over (t ∷ u ∷ ts) many = refl

pub gathered_tree : (breaks : LineBreaks) (w h : ℕ) (ts : List Tree) → 1 ≤ length ts
    → All (IsWide breaks w h) ts → (2 ≤ length ts → AreChildren (breaks_of ts) (height_of ts) ts)
    → IsTree (gathered ts)
gathered_tree breaks w h [] some each over = absurd (omega arith)
gathered_tree breaks w h (t ∷ []) some each over = (All-head (IsWide breaks w h) t [] each).tree
gathered_tree breaks w h (t ∷ u ∷ ts) some each over =
    is_tree_over _ _ (t ∷ u ∷ ts) (over (omega arith))
