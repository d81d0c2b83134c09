-- A child is replaced by the nodes that an insert makes of it.
use Rattle.std.proofs.Common.{◌≡◌, ℕ, ◌+◌, ◌-◌, ◌<◌, ◌≤◌, ◌^◌, Bool, true, false, ◌⊎◌, inl, inr, min, List, [], ◌++◌, length, get_or, take, drop, refl, sym, ap, subst, ◌∙◌, arith}
use Rattle.std.specs.List.{concat, All}
use Rattle.std.proofs.lemmas.List.{append_assoc, length-append, length-take-le, length-drop, take-append-drop, take_all, nil_from_length}
use Rattle.std.proofs.lemmas.List.Elements.{All-append, All-weaker}
use Rattle.std.proofs.lemmas.Bool.{cases_lt}
use Rattle.rope_text.specs.declared.line_breaks.LineBreaks.{LineBreaks}
use Rattle.rope_text.specs.Text.{byte_len}
use Rattle.rope_text.specs.Breaks.{begins_with_lf}
use Rattle.rope_text.specs.Dense.{AreDense, last_bytes}
use Rattle.rope_text.specs.Edit.{inserted}
use Rattle.rope_text.proofs.Measures.{IsMeasure-byte_len}
use Rattle.rope_text.proofs.CuttingLaws.{concat-append}
use Rattle.rope_text.proofs.DenseLaws.{dense_alone, dense_right}
use Rattle.rope_leaf.specs.Leaves.{AreLeaves, IsSeam, StandFor}
use Rattle.rope_leaf.specs.Tree.{Tree, text, joined, leaves_of, height_of, breaks_of, tree_over, IsWide, IsChild, AreChildren}
use Rattle.rope_leaf.specs.Siblings.{AreSiblings, AreParts}
use Rattle.rope_leaf.specs.Insert.{MayInsert, IsInserted, IsReplaced}
use Rattle.rope_leaf.proofs.LeafLaws.{all_left, all_right, leaf_sizes, leaves-append, leaves_left, leaves_right, leaves_seam, seam_of_left, nil-seam}
use Rattle.rope_leaf.proofs.StandLaws.{half_after, half_ahead, stand_between}
use Rattle.rope_leaf.proofs.TreeLaws.{wide_more, wide_weaker, height_of_is, breaks_of_is}
use Rattle.rope_leaf.proofs.NodeLaws.{leaves_of-append, joined-append, child_at}
use Rattle.rope_leaf.proofs.Descents.{leaves_at}
use Rattle.rope_leaf.proofs.InsertLaws.{text_of, left_child, left_after, right_after, right_child, before_inside, before_lf, seam_begins}

-- a text with another inserted, as three texts grouped to the right
pub inserted_is : (xs : List ℕ) (i : ℕ) (s : List ℕ)
    → inserted xs i s ≡ take i xs ++ (s ++ drop i xs)
inserted_is xs i s = append_assoc (take i xs) s (drop i xs)

pub byte_len-inserted : (xs : List ℕ) (i : ℕ) (s : List ℕ)
    → byte_len (inserted xs i s) ≡ byte_len xs + byte_len s
byte_len-inserted xs i s =
    let whole = ap byte_len (take-append-drop i xs) in
    omega (
      arith,
      ap byte_len (inserted_is xs i s),
      IsMeasure-byte_len.joined (take i xs) (s ++ drop i xs),
      IsMeasure-byte_len.joined s (drop i xs),
      IsMeasure-byte_len.joined (take i xs) (drop i xs),
      whole,
    )

-- the slices around a child, as trees
pub around : (ts : List Tree) (k : ℕ) (ms vs : List Tree)
    → vs ≡ take k ts ++ (ms ++ take (length ts - (k + 1)) (drop (k + 1) ts))
    → vs ≡ take k ts ++ (ms ++ drop (k + 1) ts)
around ts k ms vs e =
    let f : take (length ts - (k + 1)) (drop (k + 1) ts) ≡ drop (k + 1) ts =
    take_all (length ts - (k + 1)) (drop (k + 1) ts) (simp length-drop (omega arith)) in
    e ∙ (rw f refl)

pub siblings_of_first : (breaks : LineBreaks) (h : ℕ) (ts : List Tree) → 1 ≤ length ts
    → AreSiblings breaks h ts → AreSiblings (breaks_of ts) (height_of ts) ts
siblings_of_first breaks h ts some a =
    rw (height_of_is breaks h ts some a.each, breaks_of_is breaks h ts some a.each) a

-- one tree or two replace the old one
pub replaced : (old : Tree) (ts : List Tree) (new : List ℕ) → IsInserted old ts new
    → IsReplaced old ts new
replaced old ts new i = record {
  text_is = i.text_is;
  leaves = i.leaves;
  stand = i.stand;
  some = i.parts.some;
  few = omega (arith, i.parts.at_most_two);
  each = i.parts.each;
}

module _ (breaks : LineBreaks) (h : ℕ) (ts : List Tree) (k : ℕ) (child : Tree)
    (a : AreChildren breaks h ts) (lt : k < length ts) (here : get_or ts k child ≡ child) where
  left_text : List ℕ
  left_text = joined (take k ts)

  pub around_child : leaves_of ts ≡ leaves_of (take k ts)
      ++ (child.leaves ++ leaves_of (drop (k + 1) ts))
  around_child =
      subst (λ u. leaves_of ts ≡ leaves_of (take k ts) ++ (u.leaves ++ leaves_of (drop (k + 1) ts)))
      here (leaves_at ts k child lt)

  pub text_around : joined ts ≡ joined (take k ts) ++ (text child ++ joined (drop (k + 1) ts))
  text_around =
      ap concat around_child ∙ concat-append (leaves_of (take k ts))
      (child.leaves ++ leaves_of (drop (k + 1) ts))
      ∙ ap (λ x. joined (take k ts) ++ x) (concat-append child.leaves (leaves_of (drop (k + 1) ts)))

  split_is : AreLeaves (leaves_of (take k ts) ++ (child.leaves ++ leaves_of (drop (k + 1) ts)))
  split_is = subst AreLeaves around_child a.leaves

  pub seam_before : IsSeam (joined (take k ts)) (text child)
  seam_before =
      let s = leaves_seam (leaves_of (take k ts)) (child.leaves ++ leaves_of (drop (k + 1) ts))
      split_is in
      seam_of_left (joined (take k ts)) (text child) (joined (drop (k + 1) ts))
      (subst (IsSeam (joined (take k ts)))
      (concat-append child.leaves (leaves_of (drop (k + 1) ts))) s)

  pub seam_after : IsSeam (text child) (joined (drop (k + 1) ts))
  seam_after =
      leaves_seam child.leaves (leaves_of (drop (k + 1) ts))
      (leaves_right (leaves_of (take k ts)) (child.leaves ++ leaves_of (drop (k + 1) ts)) split_is)

  -- the preconditions on the position of the new text, for the child as for the node
  module _ (t : Tree) (is : t ≡ tree_over ts) (at i : ℕ) (s : List ℕ) (some : 1 ≤ length s)
      (place : at ≡ length (joined (take k ts)) + i) (within : i ≤ length (text child)) where
    rest_is : drop at (text t)
        ≡ drop at (joined (take k ts) ++ (text child ++ joined (drop (k + 1) ts)))
    rest_is = ap (drop at) (ap text is ∙ text_around)

    pub child_may : (to_right : Bool) → (to_right ≡ true → i < length (text child))
        → MayInsert t at s to_right → MayInsert child i s to_right
    child_may to_right inside may = record {
      left = λ e. left_child (joined (take k ts)) (text child) (joined (drop (k + 1) ts)) s i at
          place within some seam_after (subst (IsSeam s) rest_is (may.left e));
      right = λ e. right_child (joined (take k ts)) (text child) (joined (drop (k + 1) ts)) s i at
          place within seam_after (inside e) (ap begins_with_lf (sym rest_is) ∙ may.right e);
    }

    new_child : List ℕ
    new_child = take i (text child) ++ (s ++ drop i (text child))

    after_new : (to_right : Bool) → (to_right ≡ true → i < length (text child))
        → MayInsert t at s to_right
        → IsSeam (take i (text child) ++ (s ++ drop i (text child))) (joined (drop (k + 1) ts))
    after_new true inside may =
        right_after (joined (take k ts)) (text child) (joined (drop (k + 1) ts)) s i at place within
        seam_after (inside refl)
    after_new false inside may =
        left_after (joined (take k ts)) (text child) (joined (drop (k + 1) ts)) s i at place within
        some seam_after (subst (IsSeam s) rest_is (may.left refl))

    before_new : (to_right : Bool) → (to_right ≡ true → i < length (text child))
        → (to_right ≡ false → at ≡ 0 ⊎ 1 ≤ i) → MayInsert t at s to_right
        → IsSeam (joined (take k ts)) (take i (text child) ++ (s ++ drop i (text child)))
    before_new true inside outside may = elim (cases_lt 0 i) [
      | inl l ↦ before_inside (joined (take k ts)) (text child) (joined (drop (k + 1) ts)) s i at
          place within seam_before l
      | inr ge ↦ before_lf (joined (take k ts)) (text child) (joined (drop (k + 1) ts)) s i at place
          within seam_before (omega arith) (omega (arith, inside refl))
          (ap begins_with_lf (sym rest_is) ∙ may.right refl)
          (take i (text child) ++ (s ++ drop i (text child)))
    ]
    before_new false inside outside may = elim (outside refl) [
      | inl z ↦
          let none : joined (take k ts) ≡ [] = nil_from_length (joined (take k ts)) (omega arith) in
          rw none (nil-seam (take i (text child) ++ (s ++ drop i (text child))))
      | inr l ↦ before_inside (joined (take k ts)) (text child) (joined (drop (k + 1) ts)) s i at
          place within seam_before l
    ]

    -- the list with the new nodes in place of the child
    module _ (ps : List Tree) (to_right : Bool) (inside : to_right ≡ true → i < length (text child))
        (outside : to_right ≡ false → at ≡ 0 ⊎ 1 ≤ i) (may : MayInsert t at s to_right)
        (new : IsReplaced child ps (inserted (text child) i s))
        (fits : byte_len (text t) + byte_len s < 2 ^ 63) where
      middle_text : joined ps ≡ take i (text child) ++ (s ++ drop i (text child))
      middle_text = new.text_is ∙ inserted_is (text child) i s

      own : IsChild breaks h child
      own = child_at breaks h ts k child a lt here

      pub new_text : joined (take k ts ++ (ps ++ drop (k + 1) ts)) ≡ inserted (text t) at s
      new_text =
          joined-append (take k ts) (ps ++ drop (k + 1) ts)
          ∙ ap (λ x. joined (take k ts) ++ x) (joined-append ps (drop (k + 1) ts)
          ∙ ap (λ x. x ++ joined (drop (k + 1) ts)) middle_text)
          ∙ text_of (joined (take k ts)) (text child) (joined (drop (k + 1) ts)) s i at place within
          ∙ ap (λ x. take at x ++ (s ++ drop at x)) (sym (ap text is ∙ text_around))
          ∙ sym (inserted_is (text t) at s)

      new_parts : leaves_of (take k ts ++ (ps ++ drop (k + 1) ts)) ≡ leaves_of (take k ts)
          ++ (leaves_of ps ++ leaves_of (drop (k + 1) ts))
      new_parts = leaves_of-append (take k ts) (ps ++ drop (k + 1) ts)
          ∙ ap (λ xs. leaves_of (take k ts) ++ xs) (leaves_of-append ps (drop (k + 1) ts))

      -- the new leaves may replace the old ones
      pub new_stand : StandFor 491 491 (leaves_of ts)
          (leaves_of (take k ts ++ (ps ++ drop (k + 1) ts)))
      new_stand =
          let left = leaves_of (take k ts) in
          let right = leaves_of (drop (k + 1) ts) in
          let before = leaves_left left (child.leaves ++ right) split_is in
          let after =
          leaves_right child.leaves right (leaves_right left (child.leaves ++ right) split_is) in
          let first = half_after left (leaf_sizes left before.each) in
          let last = half_ahead right (leaf_sizes right after.each) after.dense in
          let between =
          stand_between 491 491 491 491 left child.leaves (leaves_of ps) right first last
          (new.stand own.some) in
          subst (λ xs. StandFor 491 491 xs (leaves_of (take k ts ++ (ps ++ drop (k + 1) ts))))
          (sym around_child)
          (subst (StandFor 491 491 (left ++ (child.leaves ++ right))) (sym new_parts) between)

      new_leaves : AreLeaves (leaves_of (take k ts ++ (ps ++ drop (k + 1) ts)))
      new_leaves =
          let left =
          leaves_left (leaves_of (take k ts)) (child.leaves ++ leaves_of (drop (k + 1) ts))
          split_is in
          let right =
          leaves_right child.leaves (leaves_of (drop (k + 1) ts))
          (leaves_right (leaves_of (take k ts)) (child.leaves ++ leaves_of (drop (k + 1) ts))
          split_is) in
          let after : IsSeam (joined ps) (joined (drop (k + 1) ts)) =
          rw middle_text (after_new to_right inside may) in
          let before : IsSeam (joined (take k ts)) (joined ps) =
          rw middle_text (before_new to_right inside outside may) in
          let dense =
          subst (λ xs. AreDense xs) new_parts (new_stand.after 492 (omega arith) a.leaves.dense) in
          let following =
          dense_alone (last_bytes 492 (leaves_of (take k ts)))
          (leaves_of ps ++ leaves_of (drop (k + 1) ts))
          (dense_right 492 (leaves_of (take k ts)) (leaves_of ps ++ leaves_of (drop (k + 1) ts))
          dense) in
          let both =
          leaves-append (leaves_of ps) (leaves_of (drop (k + 1) ts)) new.leaves right after
          following in
          let nonempty : 1 ≤ length (joined ps) =
          rw middle_text (omega (
            arith,
            length-append (take i (text child))
                (s ++ drop i (text child)),
            length-append s (drop i (text child)),
          )) in
          let before_both : IsSeam (joined (take k ts))
          (concat (leaves_of ps ++ leaves_of (drop (k + 1) ts))) =
          rw concat-append (seam_begins (joined (take k ts)) (joined ps) (joined (drop (k + 1) ts))
          nonempty before) in
          subst AreLeaves (sym new_parts)
          (leaves-append (leaves_of (take k ts)) (leaves_of ps ++ leaves_of (drop (k + 1) ts)) left
          both before_both dense)

      new_each : All (IsChild breaks h) (take k ts ++ (ps ++ drop (k + 1) ts))
      new_each =
          let all : All (IsChild breaks h) (take k ts ++ drop k ts) = rw take-append-drop a.each in
          let all' : All (IsChild breaks h) (take (k + 1) ts ++ drop (k + 1) ts) =
          rw take-append-drop a.each in
          let wide : (u : Tree) → IsWide child.breaks (min 12 child.width) child.height u
          → IsChild breaks h u =
          λ u w. wide_more breaks (min 12 child.width) h u (λ p. omega (arith, own.wide p))
          (rw (own.same_breaks, own.at_height) at w) in
          All-append (IsChild breaks h) (take k ts) (ps ++ drop (k + 1) ts)
          (all_left (IsChild breaks h) (take k ts) (drop k ts) all)
          (All-append (IsChild breaks h) ps (drop (k + 1) ts)
          (All-weaker (IsWide child.breaks (min 12 child.width) child.height) (IsChild breaks h)
          wide ps new.each) (all_right (IsChild breaks h) (take (k + 1) ts) (drop (k + 1) ts) all'))

      pub new_siblings : AreSiblings breaks h (take k ts ++ (ps ++ drop (k + 1) ts))
      new_siblings = record {
        each = new_each;
        leaves = new_leaves;
        fits = omega (arith, ap byte_len new_text, byte_len-inserted (text t) at s, fits);
      }

      pub new_length : length (take k ts ++ (ps ++ drop (k + 1) ts)) + 1 ≡ length ts + length ps
      new_length =
          omega (
            arith,
            length-append (take k ts) (ps ++ drop (k + 1) ts),
            length-append ps (drop (k + 1) ts),
            length-take-le k ts (omega arith),
            length-drop (k + 1) ts,
          )

      -- the result of packing the new nodes
      pub new_node : (rs : List Tree) → leaves_of rs
          ≡ leaves_of (take k ts ++ (ps ++ drop (k + 1) ts))
          → AreParts (breaks_of (take k ts ++ (ps ++ drop (k + 1) ts)))
          (length (take k ts ++ (ps ++ drop (k + 1) ts)))
          (length (take k ts ++ (ps ++ drop (k + 1) ts)))
          (height_of (take k ts ++ (ps ++ drop (k + 1) ts)) + 1) rs
          → IsInserted t rs (inserted (text t) at s)
      new_node rs leaves parts =
          let us = take k ts ++ (ps ++ drop (k + 1) ts) in
          let some_us : 1 ≤ length us = omega (arith, new_length, new.some, a.at_least_two) in
          let sets : breaks_of us ≡ t.breaks = breaks_of_is breaks h us some_us new_each
          ∙ sym (ap (λ u. u.breaks) is
          ∙ breaks_of_is breaks h ts (omega (arith, a.at_least_two)) a.each) in
          let heights : height_of us + 1 ≡ t.height =
          ap (λ n. n + 1) (height_of_is breaks h us some_us new_each
          ∙ sym (height_of_is breaks h ts (omega (arith, a.at_least_two)) a.each))
          ∙ sym (ap (λ u. u.height) is) in
          let widths : t.width ≡ length ts = ap (λ u. u.width) is in
          let p : AreParts t.breaks (length us) (length us) t.height rs =
          rw (sets, heights) at parts in
          record {
            text_is = ap concat leaves ∙ new_text;
            leaves = subst AreLeaves (sym leaves) new_leaves;
            stand = λ _. subst (λ xs. StandFor 491 491 xs (leaves_of rs))
                (sym (ap (λ u. u.leaves) is))
                (subst (StandFor 491 491 (leaves_of ts)) (sym leaves) new_stand);
            parts = record {
              some = p.some;
              at_most_two = p.at_most_two;
              each = All-weaker (IsWide t.breaks (min 12 (length us)) t.height)
                  (IsWide t.breaks (min 12 t.width) t.height)
                  (λ u w. wide_weaker t.breaks (min 12 t.width) (min 12 (length us)) t.height u
                  (omega (arith, new_length, new.some, widths)) w) rs p.each;
              two = p.two;
              full = λ e f. omega (arith, p.full e f, new_length, new.few, widths);
            };
          }

pub length-inserted : (xs : List ℕ) (i : ℕ) (s : List ℕ)
    → length (inserted xs i s) ≡ length xs + length s
length-inserted xs i s =
    let whole = ap length (take-append-drop i xs) in
    omega (
      arith,
      ap length (inserted_is xs i s),
      length-append (take i xs) (s ++ drop i xs),
      length-append s (drop i xs),
      length-append (take i xs) (drop i xs),
      whole,
    )
