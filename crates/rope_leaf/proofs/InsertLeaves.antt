-- A leaf is replaced by one leaf or two.
use Rattle.std.proofs.Common.{◌≡◌, ℕ, ◌<◌, ◌≤◌, false, min, List, [], ◌∷◌, ◌++◌, length, ap, ap₂, sym, subst, ◌∙◌, arith}
use Rattle.std.specs.List.{concat}
use Rattle.std.proofs.lemmas.List.{append-nil}
use Rattle.std.proofs.lemmas.List.Elements.{All-nil, All-cons}
use Rattle.rope_text.specs.declared.line_breaks.LineBreaks.{LineBreaks}
use Rattle.rope_text.specs.Text.{byte_len}
use Rattle.rope_text.specs.Cutting.{parts_crlf}
use Rattle.rope_text.specs.Dense.{AreDense}
use Rattle.rope_text.proofs.CuttingLaws.{concat-append}
use Rattle.rope_leaf.specs.Leaves.{AreLeaves, IsSeam, StandFor}
use Rattle.rope_leaf.specs.Tree.{Tree, text, leaves_of, leaf_tree, one_leaf, IsTree, IsWide}
use Rattle.rope_leaf.specs.Insert.{IsInserted}
use Rattle.rope_leaf.proofs.LeafLaws.{leaves-append}
use Rattle.rope_leaf.proofs.StandLaws.{one_leaf_is, leaf_stands, leaves_stand}
use Rattle.rope_leaf.proofs.NodeLaws.{leaf_text, joined_one}

pub wide_leaf : (breaks : LineBreaks) (w : ℕ) (x : Tree) (leaf : List ℕ) → x ≡ leaf_tree breaks leaf
    → IsTree x → 1 ≤ length leaf → IsWide breaks w 0 x
wide_leaf breaks w x [] is tree some = absurd (omega arith)
wide_leaf breaks w x (c ∷ cs) is tree some = record {
  same_breaks = ap (λ u. u.breaks) is;
  at_height = ap (λ u. u.height) is;
  wide = λ p. absurd (omega arith);
  some = let e = ap (λ u. length u.leaves) is in omega arith;
  tree = tree;
}

pub text_of_leaf : (breaks : LineBreaks) (x : Tree) (leaf : List ℕ) → x ≡ leaf_tree breaks leaf
    → text x ≡ leaf
text_of_leaf breaks x leaf is = ap text is ∙ leaf_text leaf

pub one_inserted : (breaks : LineBreaks) (old leaf new : List ℕ) (x : Tree)
    → x ≡ leaf_tree breaks leaf → IsTree x → leaf ≡ new → 1 ≤ length new
    → byte_len old ≤ byte_len new → IsInserted (leaf_tree breaks old) (x ∷ []) new
one_inserted breaks old leaf new x is tree same some longer =
    let w = wide_leaf breaks (min 12 0) x leaf is tree (omega (arith, ap length same)) in
    let flat : leaves_of (x ∷ []) ≡ one_leaf new = append-nil x.leaves ∙ ap (λ u. u.leaves) is
    ∙ ap one_leaf same in
    record {
      text_is = joined_one x ∙ text_of_leaf breaks x leaf is ∙ same;
      leaves = rw append-nil tree.leaves;
      stand = λ there. subst (StandFor 491 491 (one_leaf old)) (sym flat)
          (leaf_stands 491 491 old new some (omega (arith, longer)) (omega (arith, longer)) there);
      parts = record {
        some = omega arith;
        at_most_two = omega arith;
        each = All-cons (IsWide breaks (min 12 0) 0) x [] w (All-nil (IsWide breaks (min 12 0) 0));
        two = λ p. absurd (omega arith);
        full = λ p _. absurd (omega arith);
      };
    }

pub two_inserted : (breaks : LineBreaks) (old front back new : List ℕ) (x y : Tree)
    → x ≡ leaf_tree breaks front → y ≡ leaf_tree breaks back → IsTree x → IsTree y
    → front ++ back ≡ new
    → (0 < length front) × (0 < length back) × (parts_crlf front back ≡ false)
    → (491 ≤ byte_len front) × (491 ≤ byte_len back)
    → IsInserted (leaf_tree breaks old) (x ∷ y ∷ []) new
two_inserted breaks old front back new x y is_x is_y tree_x tree_y same some halves =
    let wx = wide_leaf breaks (min 12 0) x front is_x tree_x some.0 in
    let wy = wide_leaf breaks (min 12 0) y back is_y tree_y some.1 in
    let vx = wide_leaf breaks 12 x front is_x tree_x some.0 in
    let vy = wide_leaf breaks 12 y back is_y tree_y some.1 in
    let tx = text_of_leaf breaks x front is_x in
    let ty = text_of_leaf breaks y back is_y in
    let seam : IsSeam (text x) (text y) = record { apart = rw (tx, ty) some.2 } in
    let first : x.leaves ≡ front ∷ [] = ap (λ u. u.leaves) is_x ∙ one_leaf_is front some.0 in
    let second : y.leaves ≡ back ∷ [] = ap (λ u. u.leaves) is_y ∙ one_leaf_is back some.1 in
    let two : x.leaves ++ y.leaves ≡ front ∷ back ∷ [] = ap₂ (λ xs ys. xs ++ ys) first second in
    let dense : AreDense (x.leaves ++ y.leaves) =
    rw two (omega arith, (omega (arith, halves.0, halves.1), tt)) in
    let both : AreLeaves (x.leaves ++ y.leaves) =
    leaves-append x.leaves y.leaves tree_x.leaves tree_y.leaves seam dense in
    let flat : leaves_of (x ∷ y ∷ []) ≡ x.leaves ++ y.leaves =
    ap (λ ls. x.leaves ++ ls) (append-nil y.leaves) in
    record {
      text_is = ap concat flat ∙ concat-append x.leaves y.leaves ∙ (rw (tx, ty) same);
      leaves = rw append-nil both;
      stand = λ there. leaves_stand old front back (leaves_of (x ∷ y ∷ [])) (flat ∙ two) halves.0
          halves.1 there;
      parts = record {
        some = omega arith;
        at_most_two = omega arith;
        each = All-cons (IsWide breaks (min 12 0) 0) x (y ∷ []) wx
            (All-cons (IsWide breaks (min 12 0) 0) y [] wy (All-nil (IsWide breaks (min 12 0) 0)));
        two = λ _. All-cons (IsWide breaks 12 0) x (y ∷ []) vx
            (All-cons (IsWide breaks 12 0) y [] vy (All-nil (IsWide breaks 12 0)));
        full = λ _ p. absurd (omega arith);
      };
    }
