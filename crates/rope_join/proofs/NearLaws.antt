-- The adjacent leaves of two trees, by those of a child.
use Rattle.std.proofs.Common.{inl, inr, ◌≡◌, ℕ, ◌≤◌, arith, List, [], ◌∷◌, ◌++◌, length, sym, ap, subst, ◌∙◌}
use Rattle.std.proofs.lemmas.Bool.{cases_lt}
use Rattle.std.proofs.lemmas.List.{append-nil}
use Rattle.std.proofs.lemmas.List.Elements.{All-head}
use Rattle.rope_text.specs.Dense.{IsDenseAfter, last_bytes}
use Rattle.rope_text.proofs.DenseLaws.{last_bytes-append, last_bytes-some, dense-append, dense_left, dense_right}
use Rattle.rope_text.specs.Text.{byte_len}
use Rattle.rope_leaf.specs.Tree.{Tree, text, leaves_of, IsTree, IsChild}
use Rattle.rope_leaf.proofs.LeafLaws.{all_right}
use Rattle.rope_leaf.proofs.NodeLaws.{leaves_of-append}
use Rattle.rope_tree.proofs.EmptyTrees.{lone_of_none}
use Rattle.rope_join.specs.Join.{EndsIn, BeginsIn}
use Rattle.rope_join.proofs.Gaps.{leaf_by_bytes}

module _ (a last : Tree) (init : List Tree) (e : EndsIn a init last) where
  pub last_some : 1 ≤ length last.leaves
  last_some =
      (All-head (IsChild a.breaks last.height) last []
      (all_right (IsChild a.breaks last.height) init (last ∷ []) e.children.each)).some

  pub last_of_last : (m n : ℕ) → last_bytes m last.leaves ≡ last_bytes n a.leaves
  last_of_last m n =
      let parts : a.leaves ≡ leaves_of init ++ last.leaves = ap (λ t. t.leaves) e.is
      ∙ leaves_of-append init (last ∷ [])
      ∙ ap (λ xs. leaves_of init ++ xs) (append-nil last.leaves) in
      last_bytes-some m (last_bytes n (leaves_of init)) last.leaves last_some
      ∙ sym (last_bytes-append n (leaves_of init) last.leaves) ∙ ap (last_bytes n) (sym parts)

module _ (b first : Tree) (rest : List Tree) (e : BeginsIn b first rest) where
  pub first_some : 1 ≤ length first.leaves
  first_some = (All-head (IsChild b.breaks first.height) first rest e.children.each).some

  begins : b.leaves ≡ first.leaves ++ leaves_of rest
  begins = ap (λ t. t.leaves) e.is

  pub dense_of_first : (n : ℕ) → IsDenseAfter n b.leaves → IsDenseAfter n first.leaves
  dense_of_first n dense =
      dense_left n first.leaves (leaves_of rest) (subst (IsDenseAfter n) begins dense)

  pub dense_by_first : (n : ℕ) → IsDenseAfter n first.leaves → IsDenseAfter n b.leaves
  dense_by_first n dense =
      let following =
      subst (λ k. IsDenseAfter k (leaves_of rest)) (last_bytes-some 492 n first.leaves first_some)
      (dense_right 492 first.leaves (leaves_of rest) e.children.leaves.dense) in
      subst (IsDenseAfter n) (sym begins)
      (dense-append n first.leaves (leaves_of rest) dense following)

-- a tree with an inner node has a leaf
pub inner_some : (t : Tree) → IsTree t → 1 ≤ t.height → 1 ≤ length t.leaves
inner_some t i high = elim (cases_lt 0 (byte_len (text t))) [
  | inl some ↦ leaf_by_bytes t some
  | inr none ↦ absurd (omega (arith, high, lone_of_none t i (omega (arith, none))))
]
