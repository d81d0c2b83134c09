-- Lists of children that are split between two children, or at one.
use Rattle.std.proofs.Common.{Bool, true, false, ◌≡◌, ℕ, ◌+◌, ◌*◌, ◌^◌, ◌<◌, ◌≤◌, List, [], ◌∷◌, ◌++◌, length, take, drop, sym, ap, subst, ◌∙◌, Result, Ok, Err, IfOk, OnErr, arith, zero, suc, refl}
use Rattle.std.specs.List.{All}
use Rattle.std.proofs.lemmas.List.{append-nil, length-append, length-take-le, length-drop, take-append-drop, take-append-le}
use Rattle.std.proofs.lemmas.List.Elements.{All-head, All-tail}
use Rattle.std.proofs.Math.Seq.{drop-append-add, drop-append_seam, take-append_seam}
use Rattle.rope_text.specs.declared.line_breaks.LineBreaks.{LineBreaks}
use Rattle.rope_text.specs.Text.{byte_len}
use Rattle.rope_text.specs.Dense.{IsDenseAfter, last_bytes}
use Rattle.rope_text.proofs.DenseLaws.{last_bytes-append, last_bytes-some, dense_left}
use Rattle.rope_text.proofs.CuttingLaws.{concat-append}
use Rattle.rope_text.proofs.Measures.{IsMeasure-byte_len}
use Rattle.rope_leaf.specs.Tree.{Tree, joined, leaves_of, height_of, breaks_of, IsTree, IsChild, AreFamily, tree_over}
use Rattle.rope_leaf.specs.Siblings.{AreSiblings, gathered}
use Rattle.rope_leaf.specs.Searched.{HasSearched}
use Rattle.rope_leaf.specs.declared.editor.Editor.{Editor}
use Rattle.rope_tree.specs.Split.{IsFrontOf, IsBackOf, AreSides, IsWhole}
use Rattle.rope_leaf.proofs.LeafLaws.{all_right}
use Rattle.rope_leaf.proofs.NodeLaws.{leaves_of-append, joined-append, joined_one, joined_parts}
use Rattle.rope_leaf.proofs.SiblingLaws.{byte_len-append, siblings_left, siblings_right}
use Rattle.rope_tree.proofs.RowLaws.{siblings_of}
use Rattle.rope_leaf.proofs.TreeLaws.{height_of_is, breaks_of_is}
use Rattle.rope_tree.proofs.LeafSplits.{leaves_some}
use Rattle.rope_tree.proofs.MoveLaws.{family_of}
use Rattle.rope_tree.proofs.Gathered.{is_gathered, gathered_tree}

pub same_sides : (m n : ℕ) (ts f g k l : List Tree) → m ≡ n → f ≡ g → k ≡ l → AreSides m ts f k
    → AreSides n ts g l
same_sides m n ts f g k l place front back s =
    subst (λ i. AreSides i ts g l) place
    (subst (λ y. AreSides m ts y l) front (subst (λ z. AreSides m ts f z) back s))

-- a list that is split between two children
pub between_sides : (ts : List Tree) (n at : ℕ) → AreFamily ts → 1 ≤ n → n < length ts
    → at ≡ length (joined (take n ts)) → AreSides at ts (take n ts) (drop n ts)
between_sides ts n at family some within place =
    let b = breaks_of ts in
    let h = height_of ts in
    let s = siblings_of b h ts family in
    let parts : take n ts ++ drop n ts ≡ ts = take-append-drop n ts in
    let both : AreSiblings b h (take n ts ++ drop n ts) = subst (AreSiblings b h) (sym parts) s in
    let texts : joined ts ≡ joined (take n ts) ++ joined (drop n ts) = joined_parts ts n in
    let leaves : leaves_of ts ≡ leaves_of (take n ts) ++ leaves_of (drop n ts) =
    ap leaves_of (sym parts) ∙ leaves_of-append (take n ts) (drop n ts) in
    let back = siblings_right b h (take n ts) (drop n ts) both in
    let long : 1 ≤ length (drop n ts) = omega (arith, length-drop n ts) in
    let last = leaves_some b h (drop n ts) back.each long in
    record {
      is_front = record {
        text_is = sym (ap (λ k. take k (joined ts)) place
            ∙ ap (take (length (joined (take n ts)))) texts
            ∙ take-append_seam (joined (take n ts)) (joined (drop n ts)));
        level = siblings_left b h (take n ts) (drop n ts) both;
        some = omega (arith, length-take-le n ts (omega arith));
        few = omega (arith, length-take-le n ts (omega arith));
      };
      is_back = record {
        text_is = sym (ap (λ k. drop k (joined ts)) place
            ∙ ap (drop (length (joined (take n ts)))) texts
            ∙ drop-append_seam (joined (take n ts)) (joined (drop n ts)));
        level = back;
        some = long;
        few = omega (arith, length-drop n ts);
      };
      following = λ i d. dense_left i (leaves_of (take n ts)) (leaves_of (drop n ts))
          (subst (IsDenseAfter i) leaves d);
      ahead = λ i j.
          let was : last_bytes i (leaves_of ts) ≡ last_bytes j (leaves_of (drop n ts)) =
          ap (last_bytes i) leaves
          ∙ last_bytes-append i (leaves_of (take n ts)) (leaves_of (drop n ts))
          ∙ last_bytes-some (last_bytes i (leaves_of (take n ts))) j (leaves_of (drop n ts)) last in
          omega (arith, was);
    }

-- a text that is not before the first child
pub first_some : (ts : List Tree) (k at : ℕ) → at ≡ length (joined (take k ts)) → 1 ≤ at → 1 ≤ k
first_some ts zero at place some = absurd (omega (arith, place))
first_some ts (suc k) at place some = omega arith

-- the text of some trees and one more
pub joined_two : (ts a : List Tree) → length (joined (ts ++ tree_over a ∷ []))
    ≡ length (joined ts) + length (joined a)
joined_two ts a = ap length (joined-append ts (tree_over a ∷ []))
    ∙ length-append (joined ts) (joined (tree_over a ∷ []))
    ∙ ap (λ l. length (joined ts) + length l) (joined_one (tree_over a))

-- a child between others: its height, and its bytes
module _ (old pre x post : List Tree) (t : Tree) (is : old ≡ pre ++ (t ∷ tree_over x ∷ post)) where
  pub middle_height : AreFamily old → height_of x + 1 ≡ height_of old
  middle_height family =
      let P = IsChild (breaks_of old) (height_of old) in
      (All-head P (tree_over x) post (All-tail P t (tree_over x ∷ post)
      (all_right P pre _ (subst (All P) is family.each)))).at_height

  pub middle_few : byte_len (joined old) < 2 ^ 32 → byte_len (joined x) < 2 ^ 32
  middle_few few =
      omega (
        arith,
        few,
        ap (λ l. byte_len (joined l)) is,
        byte_len-append pre (t ∷ tree_over x ∷ post),
        byte_len-append (t ∷ []) (tree_over x ∷ post),
        byte_len-append (tree_over x ∷ []) post,
        ap byte_len (joined_one (tree_over x)),
      )

-- what the split of a child counts, by the height of that child
pub deeper : (h : ℕ) (xs x : List Tree) (old new : Editor) → xs ≡ x → height_of x + 1 ≡ h
    → HasSearched (height_of xs + 1) (7 * height_of xs + 7) old new → HasSearched h (7 * h) old new
deeper h xs x old new same up s = record {
  rise = s.rise;
  nodes = omega (arith, s.nodes, ap height_of same, up);
  compares = omega (arith, s.compares, ap height_of same, up);
}

-- what a split that was not done leaves
pub not_done : {E P : Type 0} (r : Result Bool E) → IfOk r (λ did. did ≡ false → P)
    → OnErr r P → (r ≡ Ok true → ⊥) → P
not_done (Ok true) kept err other = absurd (other refl)
not_done (Ok false) kept err other = kept refl
not_done (Err e) kept err other = err

-- the whole text of the children of a root
pub whole_front : (at : ℕ) (ts front : List Tree) → AreFamily ts → IsFrontOf at ts front
    → IsWhole (breaks_of ts) (take at (joined ts)) front
whole_front at ts front family s = record {
  text_is = s.text_is;
  level = subst (λ h. AreSiblings (breaks_of ts) h front)
      (sym (height_of_is (breaks_of ts) (height_of ts) front s.some s.level.each)) s.level;
  some = s.some;
  few = omega (arith, s.few, family.at_most_24);
}

pub whole_back : (at : ℕ) (ts back : List Tree) → AreFamily ts → IsBackOf at ts back
    → IsWhole (breaks_of ts) (drop at (joined ts)) back
whole_back at ts back family s = record {
  text_is = s.text_is;
  level = subst (λ h. AreSiblings (breaks_of ts) h back)
      (sym (height_of_is (breaks_of ts) (height_of ts) back s.some s.level.each)) s.level;
  some = s.some;
  few = omega (arith, s.few, family.at_most_24);
}

pub none_of : (ts : List Tree) → length ts ≡ 0 → ts ≡ []
none_of [] none = refl
none_of (t ∷ ts) none = absurd (omega (arith, none))

-- a part of the first child, or of the last, without a node over it
module _ (old pre x post : List Tree) (is : old ≡ pre ++ (tree_over x ∷ post))
    (family : AreFamily old) where
  own_x : IsChild (breaks_of old) (height_of old) (tree_over x)
  own_x =
      let P = IsChild (breaks_of old) (height_of old) in
      All-head P (tree_over x) post (all_right P pre _ (subst (All P) is family.each))

  pub end_height : height_of x + 1 ≡ height_of old
  end_height = own_x.at_height

  pub end_text : joined old ≡ joined pre ++ (joined x ++ joined post)
  end_text = ap joined is ∙ joined-append pre (tree_over x ∷ post)
      ∙ ap (λ l. joined pre ++ l) (concat-append (leaves_of x) (leaves_of post))

  pub end_few : byte_len (joined old) < 2 ^ 32 → byte_len (joined x) < 2 ^ 32
  end_few few =
      omega (
        arith,
        few,
        ap byte_len end_text,
        IsMeasure-byte_len.joined (joined pre) (joined x ++ joined post),
        IsMeasure-byte_len.joined (joined x) (joined post),
      )

  pub end_front : (at : ℕ) (f : List Tree) → length pre ≡ 0 → at ≤ length (joined x)
      → IsWhole (breaks_of x) (take at (joined x)) f
      → IsWhole (breaks_of old) (take at (joined old)) f
  end_front at f none within w = record {
    text_is = w.text_is
        ∙ sym (ap (take at) (end_text ∙ ap (λ l. joined l ++ (joined x ++ joined post))
        (none_of pre none)) ∙ take-append-le at (joined x) (joined post) within);
    level = subst (λ b. AreSiblings b (height_of f) f) own_x.same_breaks w.level;
    some = w.some;
    few = w.few;
  }

  pub end_back : (inside : ℕ) (k : List Tree) → length post ≡ 0 → inside ≤ length (joined x)
      → IsWhole (breaks_of x) (drop inside (joined x)) k
      → IsWhole (breaks_of old) (drop (length (joined pre) + inside) (joined old)) k
  end_back inside k none within w = record {
    text_is = w.text_is
        ∙ sym (ap (drop (length (joined pre) + inside)) (end_text
        ∙ ap (λ l. joined pre ++ (joined x ++ joined l)) (none_of post none)
        ∙ ap (λ l. joined pre ++ l) (append-nil (joined x)))
        ∙ drop-append-add (joined pre) (joined x) inside);
    level = subst (λ b. AreSiblings b (height_of k) k) own_x.same_breaks w.level;
    some = w.some;
    few = w.few;
  }

-- such trees under one root
module _ (b : LineBreaks) (cs : List ℕ) (ts : List Tree) (w : IsWhole b cs ts) where
  pub whole_breaks : (gathered ts).breaks ≡ b
  whole_breaks = (is_gathered ts w.some).same_breaks
      ∙ breaks_of_is b (height_of ts) ts w.some w.level.each

  pub whole_tree : IsTree (gathered ts)
  whole_tree =
      gathered_tree b 12 (height_of ts) ts w.some w.level.each
      (λ many. family_of b (height_of ts) ts w.level many w.few)
