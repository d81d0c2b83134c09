-- Properties of trees.
use Rattle.std.proofs.Common.{◌≡◌, true, ℕ, zero, suc, ◌+◌, ◌-◌, ◌*◌, ◌^◌, ◌<◌, ◌≤◌, List, [], ◌∷◌, length, ap, arith}
use Rattle.std.specs.List.{concat, All}
use Rattle.std.proofs.Math.Nat.{pow-suc, pow-le-pow_right, one-le-pow, mul-le-mul_right}
use Rattle.std.proofs.lemmas.List.{length-append}
use Rattle.std.proofs.lemmas.Bool.{cases_lt}
use Rattle.std.proofs.Common.{inl, inr}
use Rattle.std.proofs.lemmas.List.Elements.{All-head, All-tail}
use Rattle.rope_text.specs.Text.{byte_len}
use Rattle.rope_leaf.specs.Tree.{Tree, leaves_of, height_of, breaks_of, tree_over, leaf_tree, one_leaf, IsTree, IsWide, IsChild, AreChildren}
use Rattle.std.specs.Str.{all_scalars}
use Rattle.std.proofs.lemmas.Str.{length-le-encodes}
use Rattle.rope_text.specs.declared.line_breaks.LineBreaks.{LineBreaks}
use Rattle.rope_leaf.proofs.LeafLaws.{leaves_le, no_leaves, lone_leaf}

pub wide_weaker : (breaks : LineBreaks) (v w h : ℕ) (t : Tree) → v ≤ w → IsWide breaks w h t
    → IsWide breaks v h t
wide_weaker breaks v w h t le i = record {
  same_breaks = i.same_breaks;
  at_height = i.at_height;
  wide = λ p. omega (arith, i.wide p);
  some = i.some;
  tree = i.tree;
}

pub wide_more : (breaks : LineBreaks) (w h : ℕ) (t : Tree) → (1 ≤ h → 12 ≤ w) → IsWide breaks w h t
    → IsChild breaks h t
wide_more breaks w h t le i = record {
  same_breaks = i.same_breaks;
  at_height = i.at_height;
  wide = λ p. omega (arith, i.wide p, le p);
  some = i.some;
  tree = i.tree;
}

child_least : (breaks : LineBreaks) (h : ℕ) (t : Tree) → IsChild breaks h t
    → 12 ^ h ≤ length t.leaves
child_least breaks zero t i = i.some
child_least breaks (suc h) t i =
    let e : t.height - 1 ≡ h = omega (arith, i.at_height) in
    let a = rw e at (i.tree.least_leaves (omega (arith, i.at_height))) in
    omega (arith, a, mul-le-mul_right (12 ^ h) (i.wide (omega arith)), pow-suc 12 h)

child_most : (breaks : LineBreaks) (h : ℕ) (t : Tree) → IsChild breaks h t
    → length t.leaves ≤ 24 ^ h
child_most breaks zero t i = i.tree.lone i.at_height
child_most breaks (suc h) t i =
    let e : t.height - 1 ≡ h = omega (arith, i.at_height) in
    let a = rw e at (i.tree.most_leaves (omega (arith, i.at_height))) in
    omega (arith, a, mul-le-mul_right (24 ^ h) i.tree.at_most_24, pow-suc 24 h)

least_below : (breaks : LineBreaks) (h : ℕ) (ts : List Tree) → All (IsChild breaks h) ts
    → length ts * 12 ^ h ≤ length (leaves_of ts)
least_below breaks h [] each = omega arith
least_below breaks h (t ∷ ts) each =
    omega (
      arith,
      child_least breaks h t (All-head (IsChild breaks h) t ts each),
      least_below breaks h ts (All-tail (IsChild breaks h) t ts each),
      length-append t.leaves (leaves_of ts),
    )

most_below : (breaks : LineBreaks) (h : ℕ) (ts : List Tree) → All (IsChild breaks h) ts
    → length (leaves_of ts) ≤ length ts * 24 ^ h
most_below breaks h [] each = omega arith
most_below breaks h (t ∷ ts) each =
    omega (
      arith,
      child_most breaks h t (All-head (IsChild breaks h) t ts each),
      most_below breaks h ts (All-tail (IsChild breaks h) t ts each),
      length-append t.leaves (leaves_of ts),
    )

pub height_of_is : (breaks : LineBreaks) (h : ℕ) (ts : List Tree) → 1 ≤ length ts
    → All (IsChild breaks h) ts → height_of ts ≡ h
height_of_is breaks h [] some each = absurd (omega arith)
height_of_is breaks h (t ∷ ts) some each = (All-head (IsChild breaks h) t ts each).at_height

pub breaks_of_wide : (breaks : LineBreaks) (w h : ℕ) (ts : List Tree) → 1 ≤ length ts
    → All (IsWide breaks w h) ts → breaks_of ts ≡ breaks
breaks_of_wide breaks w h [] some each = absurd (omega arith)
breaks_of_wide breaks w h (t ∷ ts) some each = (All-head (IsWide breaks w h) t ts each).same_breaks

pub breaks_of_is : (breaks : LineBreaks) (h : ℕ) (ts : List Tree) → 1 ≤ length ts
    → All (IsChild breaks h) ts → breaks_of ts ≡ breaks
breaks_of_is breaks h ts some each = breaks_of_wide breaks 12 h ts some each

-- a node over children
pub is_tree_over : (breaks : LineBreaks) (h : ℕ) (ts : List Tree) → AreChildren breaks h ts
    → IsTree (tree_over ts)
is_tree_over breaks h ts a =
    let e : height_of ts ≡ h = height_of_is breaks h ts (omega (arith, a.at_least_two)) a.each in
    let f : height_of ts + 1 - 1 ≡ h = omega arith in
    record {
      lone = λ z. absurd (omega arith);
      at_least_two = λ _. a.at_least_two;
      at_most_24 = a.at_most_24;
      least_leaves = λ _. rw f (least_below breaks h ts a.each);
      most_leaves = λ _. rw f (most_below breaks h ts a.each);
      leaves = a.leaves;
      fits = a.fits;
    }

pub is_wide_over : (breaks : LineBreaks) (w h : ℕ) (ts : List Tree) → AreChildren breaks h ts
    → w ≤ length ts → IsWide breaks w (h + 1) (tree_over ts)
is_wide_over breaks w h ts a le =
    let p : 1 ≤ 12 ^ h = one-le-pow h 12 (omega arith) in
    record {
      same_breaks = breaks_of_is breaks h ts (omega (arith, a.at_least_two)) a.each;
      at_height = ap (λ n. n + 1) (height_of_is breaks h ts (omega (arith, a.at_least_two)) a.each);
      wide = λ _. le;
      some = omega (
        arith,
        least_below breaks h ts a.each,
        mul-le-mul_right (12 ^ h) a.at_least_two,
      );
      tree = is_tree_over breaks h ts a;
    }

pub is_leaf_tree : (breaks : LineBreaks) (leaf : List ℕ) → byte_len leaf ≤ 984
    → all_scalars leaf ≡ true → byte_len (concat (one_leaf leaf)) < 2 ^ 63
    → IsTree (leaf_tree breaks leaf)
is_leaf_tree breaks [] fits scalars few = record {
  lone = λ _. omega arith;
  at_least_two = λ p. absurd (omega arith);
  at_most_24 = omega arith;
  least_leaves = λ p. absurd (omega arith);
  most_leaves = λ p. absurd (omega arith);
  leaves = no_leaves;
  fits = few;
}
is_leaf_tree breaks (x ∷ xs) fits scalars few = record {
  lone = λ _. omega arith;
  at_least_two = λ p. absurd (omega arith);
  at_most_24 = omega arith;
  least_leaves = λ p. absurd (omega arith);
  most_leaves = λ p. absurd (omega arith);
  leaves = lone_leaf (x ∷ xs) (record { some = omega arith; fits = fits; scalars = scalars });
  fits = few;
}

pow18 : (n : ℕ) → 18 ≤ n → 12 ^ 18 ≤ 12 ^ n
pow18 n le = pow-le-pow_right {n = 12} (omega arith) le

-- the height of a tree is at most 18
pub low_tree : (t : Tree) → IsTree t → t.height ≤ 18
low_tree t i = elim (cases_lt t.height 19) [
  | inl l ↦ omega arith
  | inr ge ↦ absurd (omega (
    arith,
    pow18 (t.height - 1) (omega arith),
    i.least_leaves (omega arith),
    mul-le-mul_right (12 ^ (t.height - 1)) (i.at_least_two (omega arith)),
    leaves_le t.leaves i.leaves.each,
    length-le-encodes (concat t.leaves),
    i.fits,
  ))
]
