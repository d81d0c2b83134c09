-- Lists of trees that become the children of one node or of two.
use Rattle.std.proofs.Common.{◌≡◌, ℕ, ◌+◌, ◌/◌, ◌<◌, ◌≤◌, min, List, [], ◌∷◌, ◌++◌, length, take, drop, ap, ◌∙◌, arith}
use Rattle.std.proofs.lemmas.List.{append-nil, take-append-drop, length-take, length-drop}
use Rattle.std.proofs.lemmas.List.Elements.{All-nil, All-cons, All-weaker}
use Rattle.rope_text.specs.declared.line_breaks.LineBreaks.{LineBreaks}
use Rattle.rope_text.specs.Text.{byte_len}
use Rattle.rope_text.proofs.Measures.{IsMeasure-byte_len}
use Rattle.rope_leaf.specs.Tree.{Tree, joined, leaves_of, tree_over, IsWide, IsChild, AreChildren}
use Rattle.rope_leaf.specs.Siblings.{AreSiblings, AreParts}
use Rattle.rope_leaf.proofs.LeafLaws.{leaves_left, leaves_right, all_left, all_right}
use Rattle.rope_leaf.proofs.TreeLaws.{is_wide_over, wide_weaker}
use Rattle.rope_leaf.proofs.NodeLaws.{leaves_of-append, joined-append}

pub byte_len-append : (xs ys : List Tree)
    → byte_len (joined (xs ++ ys)) ≡ byte_len (joined xs) + byte_len (joined ys)
byte_len-append xs ys = ap byte_len (joined-append xs ys)
    ∙ IsMeasure-byte_len.joined (joined xs) (joined ys)

pub siblings_left : (breaks : LineBreaks) (h : ℕ) (xs ys : List Tree)
    → AreSiblings breaks h (xs ++ ys) → AreSiblings breaks h xs
siblings_left breaks h xs ys a = record {
  each = all_left (IsChild breaks h) xs ys a.each;
  leaves = leaves_left (leaves_of xs) (leaves_of ys) (rw leaves_of-append at a.leaves);
  fits = omega (arith, a.fits, byte_len-append xs ys);
}

pub siblings_right : (breaks : LineBreaks) (h : ℕ) (xs ys : List Tree)
    → AreSiblings breaks h (xs ++ ys) → AreSiblings breaks h ys
siblings_right breaks h xs ys a = record {
  each = all_right (IsChild breaks h) xs ys a.each;
  leaves = leaves_right (leaves_of xs) (leaves_of ys) (rw leaves_of-append at a.leaves);
  fits = omega (arith, a.fits, byte_len-append xs ys);
}

-- few enough for one node
pub children_of : (breaks : LineBreaks) (h : ℕ) (ts : List Tree) → AreSiblings breaks h ts
    → 2 ≤ length ts → length ts ≤ 24 → AreChildren breaks h ts
children_of breaks h ts a some few = record {
  at_least_two = some;
  at_most_24 = few;
  each = a.each;
  leaves = a.leaves;
  fits = a.fits;
}

-- the two halves of the children of two nodes
module _ (breaks : LineBreaks) (h : ℕ) (ts : List Tree) (a : AreSiblings breaks h ts)
    (many : 24 < length ts) (few : length ts ≤ 48) where
  pub first_half : AreChildren breaks h (take (length ts / 2) ts)
  first_half =
      let k = length ts / 2 in
      let s : AreSiblings breaks h (take k ts ++ drop k ts) = rw take-append-drop a in
      children_of breaks h (take k ts) (siblings_left breaks h (take k ts) (drop k ts) s)
      (simp length-take (omega arith)) (simp length-take (omega arith))

  pub second_half : AreChildren breaks h (drop (length ts / 2) ts)
  second_half =
      let k = length ts / 2 in
      let s : AreSiblings breaks h (take k ts ++ drop k ts) = rw take-append-drop a in
      children_of breaks h (drop k ts) (siblings_right breaks h (take k ts) (drop k ts) s)
      (simp length-drop (omega arith)) (simp length-drop (omega arith))

  pub two_parts : (x y : Tree) → x ≡ tree_over (take (length ts / 2) ts)
      → y ≡ tree_over (drop (length ts / 2) ts)
      → AreParts breaks (length ts) (length ts) (h + 1) (x ∷ y ∷ [])
  two_parts x y e f =
      let wx : IsWide breaks 12 (h + 1) x =
      rw e (is_wide_over breaks 12 h (take (length ts / 2) ts) first_half
      (simp length-take (omega arith))) in
      let wy : IsWide breaks 12 (h + 1) y =
      rw f (is_wide_over breaks 12 h (drop (length ts / 2) ts) second_half
      (simp length-drop (omega arith))) in
      let both =
      All-cons (IsChild breaks (h + 1)) x (y ∷ []) wx
      (All-cons (IsChild breaks (h + 1)) y [] wy (All-nil (IsChild breaks (h + 1)))) in
      record {
        some = omega arith;
        at_most_two = omega arith;
        each = All-weaker (IsChild breaks (h + 1)) (IsWide breaks (min 12 (length ts)) (h + 1))
            (λ t i. wide_weaker breaks (min 12 (length ts)) 12 (h + 1) t (omega arith) i)
            (x ∷ y ∷ []) both;
        two = λ _. both;
        full = λ _ _. many;
      }

  pub two_leaves : (x y : Tree) → x ≡ tree_over (take (length ts / 2) ts)
      → y ≡ tree_over (drop (length ts / 2) ts) → x.leaves ++ (y.leaves ++ []) ≡ leaves_of ts
  two_leaves x y e f =
      let k = length ts / 2 in
      rw (e, f, append-nil, ← leaves_of-append, take-append-drop)

pub one_part : (breaks : LineBreaks) (h : ℕ) (ts : List Tree) → AreSiblings breaks h ts
    → 2 ≤ length ts → length ts ≤ 24 → (t : Tree) → t ≡ tree_over ts
    → AreParts breaks (length ts) (length ts) (h + 1) (t ∷ [])
one_part breaks h ts a some few t e =
    let w : IsWide breaks (min 12 (length ts)) (h + 1) t =
    rw e (is_wide_over breaks (min 12 (length ts)) h ts (children_of breaks h ts a some few)
    (omega arith)) in
    record {
      some = omega arith;
      at_most_two = omega arith;
      each = All-cons (IsWide breaks (min 12 (length ts)) (h + 1)) t [] w
          (All-nil (IsWide breaks (min 12 (length ts)) (h + 1)));
      two = λ p. absurd (omega arith);
      full = λ p _. absurd (omega arith);
    }
