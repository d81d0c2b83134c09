-- Characters removed from one leaf below a node.
use Rattle.std.proofs.Common.{◌≡◌, ℕ, ◌+◌, ◌-◌, ◌<◌, ◌≤◌, true, max, List, [], ◌∷◌, ◌++◌, length, get_or, set, take, drop, refl, sym, ap, subst, ◌∙◌, arith}
use Rattle.std.specs.List.{concat}
use Rattle.std.specs.Str.{all_scalars}
use Rattle.std.proofs.lemmas.List.{append_assoc, length-append, length-set, take-append-drop}
use Rattle.std.proofs.lemmas.List.Elements.{All-set}
use Rattle.rope_text.specs.declared.line_breaks.LineBreaks.{LineBreaks}
use Rattle.rope_text.specs.declared.text_info.TextInfo.{TextInfo}
use Rattle.rope_text.specs.Text.{byte_len}
use Rattle.rope_text.specs.Edit.{removed}
use Rattle.rope_text.proofs.Measures.{IsMeasure-byte_len, size_le}
use Rattle.rope_text.proofs.CuttingLaws.{concat-append}
use Rattle.rope_text.specs.Dense.{AreDense, last_bytes}
use Rattle.rope_text.proofs.DenseLaws.{dense_alone, dense_right}
use Rattle.rope_leaf.specs.Leaves.{AreLeaves, IsSeam, StandFor, IsEnoughAfter, IsEnoughAhead}
use Rattle.rope_leaf.specs.Tree.{Tree, text, joined, one_leaf, leaf_tree, leaves_of, height_of, breaks_of, tree_over, IsTree, IsChild, AreChildren}
use Rattle.rope_leaf.specs.Totals.{HasTotals}
use Rattle.rope_leaf.specs.Removal.{KeepsEnds, IsRemoved, AreRemoved}
use Rattle.rope_leaf.proofs.LeafLaws.{lone_leaf, leaves-append, leaves_left, leaves_right, leaves_le}
use Rattle.rope_leaf.proofs.StandLaws.{one_leaf_is, leaf_stands, stand_between}
use Rattle.rope_leaf.proofs.TreeLaws.{height_of_is, breaks_of_is}
use Rattle.rope_leaf.proofs.NodeLaws.{leaves_of-append, child_at, more_at, leaf_text}
use Rattle.rope_leaf.proofs.InsertDescents.{Takes}
use Rattle.rope_leaf.proofs.GrownLaws.{set_parts}
use Rattle.rope_leaf.proofs.InsertLaws.{front_of, rest_of, seam_begins}
use Rattle.rope_leaf.proofs.RemovalEnds.{ends_around}
use Rattle.rope_leaf.proofs.InsertTrees.{around_child, text_around, seam_before, seam_after}

pub byte_len-removed : (xs : List ℕ) (a b : ℕ) → a ≤ b → byte_len (removed xs a b) ≤ byte_len xs
byte_len-removed xs a b order =
    omega (
      arith,
      IsMeasure-byte_len.joined (take a xs) (drop b xs),
      IsMeasure-byte_len.joined (take b xs) (drop b xs),
      ap byte_len (take-append-drop b xs),
      size_le byte_len IsMeasure-byte_len xs a b order,
    )

-- with as many leaves under as many nodes, the result is a tree
pub tree_removed : (first last : ℕ) (old new : Tree) (a b : ℕ) → a ≤ b → IsTree old
    → IsRemoved first last old new a b → IsTree new
tree_removed first last old new a b order t r = record {
  lone = λ z. omega (arith, t.lone (omega (arith, r.same_height)), r.as_many);
  at_least_two = λ p. omega (arith, t.at_least_two (omega (arith, r.same_height)), r.same_width);
  at_most_24 = omega (arith, t.at_most_24, r.same_width);
  least_leaves = rw (r.same_height, r.same_width, r.as_many) t.least_leaves;
  most_leaves = rw (r.same_height, r.same_width, r.as_many) t.most_leaves;
  leaves = r.leaves;
  fits = omega (arith, ap byte_len r.text_is, byte_len-removed (text old) a b order, t.fits);
}

pub child_removed : (first last : ℕ) (br : LineBreaks) (h : ℕ) (old new : Tree) (a b : ℕ) → a ≤ b
    → IsChild br h old → IsRemoved first last old new a b → IsChild br h new
child_removed first last br h old new a b order c r = record {
  same_breaks = r.same_breaks ∙ c.same_breaks;
  at_height = r.same_height ∙ c.at_height;
  wide = λ p. omega (arith, c.wide p, r.same_width);
  some = omega (arith, c.some, r.as_many);
  tree = tree_removed first last old new a b order c.tree r;
}

-- characters of the second of three texts
module _ (p c n : List ℕ) (i j start end : ℕ) (first : start ≡ length p + i)
    (last : end ≡ length p + j) (order : i ≤ j) (within : j ≤ length c) where
  front_is : take start (p ++ (c ++ n)) ≡ p ++ take i c
  front_is = front_of p c n [] i start first (omega arith)

  back_is : drop end (p ++ (c ++ n)) ≡ drop j c ++ n
  back_is = rest_of p c n [] j end last within

  pub removed_middle : p ++ (removed c i j ++ n) ≡ removed (p ++ (c ++ n)) start end
  removed_middle = rw (front_is, back_is) (simp append_assoc)

-- the child at k contains the characters from start up to end, as its characters from i up to j
pub record Holds (ts : List Tree) (k : ℕ) (c : Tree) (i j start end : ℕ) : Type 0 where
  pub first : start ≡ length (joined (take k ts)) + i
  pub last : end ≡ length (joined (take k ts)) + j
  pub order : i < j
  pub within : j ≤ length (text c)

-- the child that contains the start also contains the end, by its total
pub holds : (ts : List Tree) (k : ℕ) (c : Tree) (i start end : ℕ) (totals : List TextInfo)
    (d : TextInfo)
    → Takes ts k c start i true → HasTotals (breaks_of ts) totals ts → start < end
    → end ≤ (get_or totals k d).chars → Holds ts k c i (end - (start - i)) start end
holds ts k c i start end totals d descent h order le =
    let total =
    ap (λ x. x.chars) (h.total_at k d descent.within
    ∙ more_at (breaks_of ts) (height_of ts) ts k c descent.children descent.within
    descent.child_is) in
    let place = descent.place in
    record {
      first = place;
      last = omega arith;
      order = omega arith;
      within = omega (arith, total, place, le, order);
    }

-- a child without some characters, in place of the old one
module _ (br : LineBreaks) (h : ℕ) (ts : List Tree) (k : ℕ) (c : Tree) (a : AreChildren br h ts)
    (lt : k < length ts) (here : get_or ts k c ≡ c)
    (i j start end : ℕ) (held : Holds ts k c i j start end) where
  before : i ≤ j
  before = omega (arith, held.order)

  abbrev left : List (List ℕ)
  left = leaves_of (take k ts)

  abbrev right : List (List ℕ)
  right = leaves_of (drop (k + 1) ts)

  split_is : joined ts ≡ joined (take k ts) ++ (text c ++ joined (drop (k + 1) ts))
  split_is = text_around br h ts k c a lt here

  module _ (wanted ahead low high : ℕ) (u : Tree) (r : IsRemoved low high c u i j)
      (enough : IsEnoughAfter wanted low left) (more : IsEnoughAhead ahead high right) where
    own : IsChild br h c
    own = child_at br h ts k c a lt here

    some_text : 1 ≤ length (text u)
    some_text = omega (arith, own.some, r.as_many, leaves_le u.leaves r.leaves.each)

    new_leaves : leaves_of (set ts k u) ≡ left ++ (u.leaves ++ right)
    new_leaves = ap leaves_of (set_parts ts k u lt)
        ∙ leaves_of-append (take k ts) (u ∷ drop (k + 1) ts)

    old_leaves : leaves_of ts ≡ left ++ (c.leaves ++ right)
    old_leaves = around_child br h ts k c a lt here

    below : concat (u.leaves ++ right) ≡ removed (text c) i j ++ concat right
    below = concat-append u.leaves right ∙ ap (λ x. x ++ concat right) r.text_is

    new_text : joined (set ts k u) ≡ removed (joined ts) start end
    new_text =
        ap concat new_leaves ∙ concat-append left (u.leaves ++ right)
        ∙ ap (λ x. concat left ++ x) below
        ∙ removed_middle (joined (take k ts)) (text c) (joined (drop (k + 1) ts)) i j start end
        held.first held.last before held.within ∙ ap (λ x. removed x start end) (sym split_is)

    new_ends : KeepsEnds (joined ts) (joined (set ts k u))
    new_ends =
        let now : joined (set ts k u) ≡ concat left ++ (text u ++ concat right) =
        ap concat new_leaves ∙ concat-append left (u.leaves ++ right)
        ∙ ap (λ x. concat left ++ x) (concat-append u.leaves right) in
        rw (split_is, now) (ends_around (concat left) (text c) (text u) (concat right) some_text
        r.ends)

    new_stand : StandFor wanted ahead (leaves_of ts) (leaves_of (set ts k u))
    new_stand =
        subst (λ xs. StandFor wanted ahead xs (leaves_of (set ts k u))) (sym old_leaves)
        (subst (StandFor wanted ahead (left ++ (c.leaves ++ right))) (sym new_leaves)
        (stand_between wanted ahead low high left c.leaves u.leaves right enough more r.stand))

    are_leaves : AreLeaves (leaves_of (set ts k u))
    are_leaves =
        let dense =
        subst (λ xs. AreDense xs) new_leaves (new_stand.after 492 (omega arith) a.leaves.dense) in
        let following =
        dense_alone (last_bytes 492 left) (u.leaves ++ right)
        (dense_right 492 left (u.leaves ++ right) dense) in
        let old : AreLeaves (left ++ (c.leaves ++ right)) = subst AreLeaves old_leaves a.leaves in
        let front : AreLeaves left = leaves_left left (c.leaves ++ right) old in
        let back : AreLeaves right =
        leaves_right c.leaves right (leaves_right left (c.leaves ++ right) old) in
        let seam_right : IsSeam (text u) (concat right) =
        r.ends.after (concat right) (seam_after br h ts k c a lt here) in
        let seam_left : IsSeam (concat left) (concat (u.leaves ++ right)) =
        subst (IsSeam (concat left)) (sym (concat-append u.leaves right))
        (seam_begins (concat left) (text u) (concat right) some_text
        (r.ends.before (concat left) (seam_before br h ts k c a lt here))) in
        subst AreLeaves (sym new_leaves)
        (leaves-append left (u.leaves ++ right) front
        (leaves-append u.leaves right r.leaves back seam_right following) seam_left dense)

    new_children : AreChildren br h (set ts k u)
    new_children =
        let many = length-set ts k u in
        record {
          at_least_two = omega (arith, many, a.at_least_two);
          at_most_24 = omega (arith, many, a.at_most_24);
          each = All-set (IsChild br h) ts k u (child_removed low high br h c u i j before own r)
              a.each;
          leaves = are_leaves;
          fits = omega (
            arith,
            ap byte_len new_text,
            byte_len-removed (joined ts) start end (omega (arith, held.first, held.last, before)),
            a.fits,
          );
        }

    pub children_removed : br ≡ breaks_of ts → h ≡ height_of ts
        → AreRemoved wanted ahead ts (set ts k u) start end
    children_removed br_is h_is = record {
      text_is = new_text;
      ends = new_ends;
      as_many = length-set ts k u;
      as_many_leaves =
          omega (
            arith,
            ap length new_leaves,
            ap length old_leaves,
            length-append left (u.leaves ++ right),
            length-append left (c.leaves ++ right),
            length-append u.leaves right,
            length-append c.leaves right,
            r.as_many,
          );
      children = rw (sym br_is, sym h_is) new_children;
      stand = new_stand;
    }

-- a node over the remaining children is the old one without the characters
pub over_removed : (first last : ℕ) (t x : Tree) (ts us : List Tree) (start end : ℕ)
    → t ≡ tree_over ts → x ≡ tree_over us → AreRemoved first last ts us start end
    → IsRemoved first last t x start end
over_removed first last t x ts us start end is x_is r =
    let some : 1 ≤ length us = omega (arith, r.children.at_least_two) in
    let sets : breaks_of us ≡ breaks_of ts =
    breaks_of_is (breaks_of ts) (height_of ts) us some r.children.each in
    let heights : height_of us ≡ height_of ts =
    height_of_is (breaks_of ts) (height_of ts) us some r.children.each in
    rw (is, x_is) (record {
      text_is = r.text_is;
      ends = r.ends;
      same_breaks = sets;
      same_height = ap (λ n. n + 1) heights;
      same_width = r.as_many;
      as_many = r.as_many_leaves;
      leaves = r.children.leaves;
      stand = r.stand;
    })

-- a leaf that keeps some of its characters
pub leaf_removed : (first last : ℕ) (br : LineBreaks) (l new : List ℕ) (t x : Tree) (start end : ℕ)
    → t ≡ leaf_tree br l → x ≡ leaf_tree br new → new ≡ removed l start end → start < end
    → end ≤ length l → 1 ≤ length (removed l start end) → KeepsEnds l (removed l start end)
    → max first last ≤ byte_len (removed l start end) → AreLeaves x.leaves
    → IsRemoved first last t x start end
leaf_removed first last br l new t x start end t_is x_is is order within some ends enough leaves =
    let old : one_leaf l ≡ l ∷ [] = one_leaf_is l (omega arith) in
    let now : one_leaf new ≡ new ∷ [] = one_leaf_is new (omega (arith, ap length is, some)) in
    let own : AreLeaves (one_leaf new) = subst AreLeaves (ap (λ u. u.leaves) x_is) leaves in
    rw (t_is, x_is) (record {
      text_is = leaf_text new ∙ is ∙ ap (λ y. removed y start end) (sym (leaf_text l));
      ends = rw (leaf_text l, leaf_text new, is) ends;
      same_breaks = refl;
      same_height = refl;
      same_width = refl;
      as_many = rw (old, now) refl;
      leaves = own;
      stand = leaf_stands first last l new (omega (arith, ap length is, some))
          (omega (arith, ap byte_len is, enough)) (omega (arith, ap byte_len is, enough))
          (omega (arith, ap length old));
    })

-- the leaf among its neighbours
pub leaf_left : (first last : ℕ) (br : LineBreaks) (l new : List ℕ) (start end : ℕ)
    → new ≡ removed l start end → start < end → end ≤ length (text (leaf_tree br l))
    → 1 ≤ length (removed l start end) → KeepsEnds l (removed l start end)
    → max first last ≤ byte_len (removed l start end) → byte_len new ≤ 984 → all_scalars new ≡ true
    → IsRemoved first last (leaf_tree br l) (leaf_tree br new) start end
leaf_left first last br l new start end is order within some ends enough fits scalars =
    let now : one_leaf new ≡ new ∷ [] = one_leaf_is new (omega (arith, ap length is, some)) in
    leaf_removed first last br l new (leaf_tree br l) (leaf_tree br new) start end refl refl is
    order (omega (arith, within, ap length (leaf_text l))) some ends enough
    (rw now (lone_leaf new (record {
      some = omega (arith, ap length is, some);
      fits = fits;
      scalars = scalars;
    })))
