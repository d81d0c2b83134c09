-- A list of children after one of them was edited in place.
use Rattle.std.proofs.Common.{◌≡◌, ℕ, zero, suc, ◌+◌, ◌<◌, ◌≤◌, ◌^◌, ◌⊎◌, Bool, true, false, min, List, [], ◌∷◌, ◌++◌, length, get_or, set, take, drop, refl, sym, ap, subst, add-one, ◌∙◌, arith}
use Rattle.std.proofs.lemmas.List.{length-set, set_split, set-get_or, append-nil}
use Rattle.std.proofs.lemmas.List.Elements.{All-head, All-weaker}
use Rattle.rope_text.specs.declared.line_breaks.LineBreaks.{LineBreaks}
use Rattle.rope_text.specs.Text.{byte_len}
use Rattle.rope_text.specs.Cutting.{parts_crlf}
use Rattle.rope_text.specs.Edit.{inserted}
use Rattle.std.specs.List.{insert}
use Rattle.std.specs.Str.{all_scalars}
use Rattle.rope_text.specs.declared.text_info.TextInfo.{TextInfo}
use Rattle.rope_leaf.specs.Leaves.{StandFor}
use Rattle.rope_leaf.specs.Tree.{Tree, text, joined, leaves_of, height_of, breaks_of, tree_over, leaf_tree, IsTree, IsWide, IsChild, AreChildren}
use Rattle.rope_leaf.specs.Totals.{HasTotals}
use Rattle.rope_leaf.specs.Siblings.{AreSiblings}
use Rattle.rope_leaf.specs.Insert.{MayInsert, IsInserted, AreGrown}
use Rattle.rope_leaf.proofs.NodeLaws.{joined_one, leaf_text, children_of_first}
use Rattle.rope_leaf.proofs.SiblingLaws.{children_of, one_part}
use Rattle.rope_leaf.proofs.TreeLaws.{wide_weaker, is_leaf_tree}
use Rattle.rope_leaf.proofs.InsertLeaves.{one_inserted, two_inserted}
use Rattle.rope_leaf.proofs.InsertTrees.{replaced, new_text, new_siblings, new_stand, new_length, length-inserted, byte_len-inserted}

-- the list with the new child in place of the old one
pub set_parts : (ts : List Tree) (k : ℕ) (u : Tree) → k < length ts
    → set ts k u ≡ take k ts ++ (u ∷ [] ++ drop (k + 1) ts)
set_parts ts k u lt = set_split ts k u lt
    ∙ ap (λ n. take k ts ++ (u ∷ [] ++ drop n ts)) (sym (add-one k))

pub same_set : (ts : List Tree) (k : ℕ) (c : Tree) → k < length ts → get_or ts k c ≡ c
    → set ts k c ≡ ts
same_set ts k c lt here = ap (λ x. set ts k x) (sym here) ∙ set-get_or ts k c

-- an insert into the child at k
pub grown : (br : LineBreaks) (h : ℕ) (ts : List Tree) (k : ℕ) (c u : Tree)
    (a : AreChildren br h ts) (lt : k < length ts) (here : get_or ts k c ≡ c) (at i : ℕ)
    (s : List ℕ) → 1 ≤ length s
    → at ≡ length (joined (take k ts)) + i → i ≤ length (text c) → (to_right : Bool)
    → (to_right ≡ true → i < length (text c)) → (to_right ≡ false → at ≡ 0 ⊎ 1 ≤ i)
    → MayInsert (tree_over ts) at s to_right
    → IsInserted c (u ∷ []) (inserted (text c) i s) → byte_len (joined ts) + byte_len s < 2 ^ 63
    → br ≡ breaks_of ts → h ≡ height_of ts → AreGrown ts (set ts k u) (inserted (joined ts) at s)
grown br h ts k c u a lt here at i s some place within to_right inside outside may new fits br_is
    h_is =
    let r = replaced c (u ∷ []) (inserted (text c) i s) new in
    let us = take k ts ++ (u ∷ [] ++ drop (k + 1) ts) in
    let siblings : AreSiblings br h us =
    new_siblings br h ts k c a lt here (tree_over ts) refl at i s some place within (u ∷ [])
    to_right inside outside may r fits in
    let is = set_parts ts k u lt in
    record {
      as_many = omega (arith, length-set ts k u);
      at_most_24 = omega (arith, length-set ts k u, a.at_most_24);
      text_is =
          ap joined is ∙ new_text br h ts k c a lt here (tree_over ts) refl at i s some place within
          (u ∷ []) to_right inside outside may r fits;
      siblings = rw (is, sym br_is, sym h_is) siblings;
      stand = rw is (new_stand br h ts k c a lt here (tree_over ts) refl at i s some place within
          (u ∷ []) to_right inside outside may r fits);
    }

-- a list with a new child in place of the old one, and another one after it
set_and_after : (ts : List Tree) (k : ℕ) (u b : Tree) → k < length ts
    → insert (set ts k u) (suc k) b ≡ take k ts ++ (u ∷ b ∷ drop (suc k) ts)
set_and_after [] k u b lt = absurd (omega arith)
set_and_after (t ∷ ts) zero u b lt = refl
set_and_after (t ∷ ts) (suc k) u b lt = ap (λ xs. t ∷ xs) (set_and_after ts k u b (omega arith))

after_parts : (ts : List Tree) (k : ℕ) (u b : Tree) → k < length ts
    → insert (set ts k u) (k + 1) b ≡ take k ts ++ (u ∷ b ∷ [] ++ drop (k + 1) ts)
after_parts ts k u b lt = ap (λ n. insert (set ts k u) n b) (add-one k) ∙ set_and_after ts k u b lt
    ∙ ap (λ n. take k ts ++ (u ∷ b ∷ [] ++ drop n ts)) (sym (add-one k))

-- an insert that split the child at k into two
pub grown_by_one : (br : LineBreaks) (h : ℕ) (ts : List Tree) (k : ℕ) (c u b : Tree)
    (a : AreChildren br h ts) (lt : k < length ts) (here : get_or ts k c ≡ c) (at i : ℕ)
    (s : List ℕ) → 1 ≤ length s
    → at ≡ length (joined (take k ts)) + i → i ≤ length (text c) → (to_right : Bool)
    → (to_right ≡ true → i < length (text c)) → (to_right ≡ false → at ≡ 0 ⊎ 1 ≤ i)
    → MayInsert (tree_over ts) at s to_right
    → IsInserted c (u ∷ b ∷ []) (inserted (text c) i s) → byte_len (joined ts) + byte_len s < 2 ^ 63
    → br ≡ breaks_of ts → h ≡ height_of ts → length ts < 24
    → AreGrown ts (insert (set ts k u) (k + 1) b) (inserted (joined ts) at s)
grown_by_one br h ts k c u b a lt here at i s some place within to_right inside outside may new fits
    br_is h_is few =
    let ps = u ∷ b ∷ [] in
    let r = replaced c ps (inserted (text c) i s) new in
    let us = take k ts ++ (ps ++ drop (k + 1) ts) in
    let siblings : AreSiblings br h us =
    new_siblings br h ts k c a lt here (tree_over ts) refl at i s some place within ps to_right
    inside outside may r fits in
    let more =
    new_length br h ts k c a lt here (tree_over ts) refl at i s some place within ps to_right inside
    outside may r fits in
    let is = after_parts ts k u b lt in
    let many = ap length is in
    record {
      as_many = omega (arith, many, more);
      at_most_24 = omega (arith, many, more);
      text_is =
          ap joined is ∙ new_text br h ts k c a lt here (tree_over ts) refl at i s some place within
          ps to_right inside outside may r fits;
      siblings = rw (is, sym br_is, sym h_is) siblings;
      stand = rw is (new_stand br h ts k c a lt here (tree_over ts) refl at i s some place within ps
          to_right inside outside may r fits);
    }

-- the changed children are children of one node
pub children_grown : (ts us : List Tree) (new : List ℕ)
    → AreChildren (breaks_of ts) (height_of ts) ts → AreGrown ts us new
    → AreChildren (breaks_of ts) (height_of ts) us
children_grown ts us new a g =
    children_of (breaks_of ts) (height_of ts) us g.siblings
    (omega (arith, g.as_many, a.at_least_two)) g.at_most_24

-- the node over them is the old one with the text
pub node_grown : (t : Tree) (ts us : List Tree) (at : ℕ) (s : List ℕ) → t ≡ tree_over ts
    → AreChildren (breaks_of ts) (height_of ts) ts → AreGrown ts us (inserted (joined ts) at s)
    → (x : Tree) → x ≡ tree_over us → IsInserted t (x ∷ []) (inserted (text t) at s)
node_grown t ts us at s is a g x x_is =
    let some : 2 ≤ length us = omega (arith, g.as_many, a.at_least_two) in
    let parts = one_part (breaks_of ts) (height_of ts) us g.siblings some g.at_most_24 x x_is in
    let flat : leaves_of (x ∷ []) ≡ leaves_of us = append-nil x.leaves ∙ ap (λ y. y.leaves) x_is in
    rw is (record {
      text_is = joined_one x ∙ ap text x_is ∙ g.text_is;
      leaves = rw flat g.siblings.leaves;
      stand = λ _. subst (StandFor 491 491 (leaves_of ts)) (sym flat) g.stand;
      parts = record {
        some = parts.some;
        at_most_two = parts.at_most_two;
        each = All-weaker (IsWide (breaks_of ts) (min 12 (length us)) (height_of ts + 1))
            (IsWide (breaks_of ts) (min 12 (length ts)) (height_of ts + 1))
            (λ u w. wide_weaker (breaks_of ts) (min 12 (length ts)) (min 12 (length us))
            (height_of ts + 1) u (omega (arith, g.as_many)) w) (x ∷ []) parts.each;
        two = parts.two;
        full = λ p q. absurd (omega arith);
      };
    })

-- a child after an insert is a child
pub child_grown : (br : LineBreaks) (h : ℕ) (c u : Tree) (new : List ℕ) → IsChild br h c
    → IsInserted c (u ∷ []) new → IsWide br (min 12 c.width) h u
child_grown br h c u new own i =
    rw (sym own.same_breaks, sym own.at_height)
    (All-head (IsWide c.breaks (min 12 c.width) c.height) u [] i.parts.each)

-- the totals as they are read
pub totals_seen : (us ts : List Tree) (totals seen : List TextInfo) → us ≡ ts → seen ≡ totals
    → HasTotals (breaks_of us) totals us → HasTotals (breaks_of ts) seen ts
totals_seen us ts totals seen e f h = rw (sym e, f) h

-- a node over the changed children
module _ (ts us : List Tree) (at : ℕ) (s : List ℕ)
    (a : AreChildren (breaks_of ts) (height_of ts) ts)
    (g : AreGrown ts us (inserted (joined ts) at s)) where
  pub children_after : AreChildren (breaks_of us) (height_of us) us
  children_after =
      children_of_first (breaks_of ts) (height_of ts) us
      (children_grown ts us (inserted (joined ts) at s) a g)

  pub over_grown : IsInserted (tree_over ts) (tree_over us ∷ []) (inserted (joined ts) at s)
  over_grown = node_grown (tree_over ts) ts us at s refl a g (tree_over us) refl

-- a leaf with another text in place of its own
module _ (br : LineBreaks) (l new : List ℕ) (fits : byte_len new ≤ 984)
    (scalars : all_scalars new ≡ true) where
  pub leaf_is_tree : IsTree (leaf_tree br new)
  leaf_is_tree = is_leaf_tree br new fits scalars (rw leaf_text (omega (arith, fits)))

  pub leaf_inserted : (at : ℕ) (s : List ℕ) → new ≡ inserted l at s → 1 ≤ length s
      → IsInserted (leaf_tree br l) (leaf_tree br new ∷ []) (inserted (text (leaf_tree br l)) at s)
  leaf_inserted at s is some =
      rw leaf_text (one_inserted br l new (inserted l at s) (leaf_tree br new) refl leaf_is_tree is
      (omega (arith, length-inserted l at s)) (omega (arith, byte_len-inserted l at s)))

  -- the rest of a text too long for a leaf is in another leaf after it
  pub leaf_split : (at : ℕ) (s back : List ℕ) (y : Tree) → y ≡ leaf_tree br back → IsTree y
      → new ++ back ≡ inserted l at s → (0 < length new) × (0 < length back)
      × (parts_crlf new back ≡ false) → (491 ≤ byte_len new) × (491 ≤ byte_len back)
      → IsInserted (leaf_tree br l) (leaf_tree br new ∷ y ∷ [])
      (inserted (text (leaf_tree br l)) at s)
  leaf_split at s back y y_is y_tree is some halves =
      rw leaf_text (two_inserted br l new back (inserted l at s) (leaf_tree br new) y refl y_is
      leaf_is_tree y_tree is some halves)
