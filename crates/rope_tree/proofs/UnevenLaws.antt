-- A list of children of which the last one, or the first, is replaced by nodes with more leaves.
use Rattle.std.proofs.Common.{◌≡◌, ℕ, ◌+◌, ◌^◌, ◌<◌, ◌≤◌, ◌⊎◌, inl, inr, List, [], ◌∷◌, ◌++◌, length, refl, sym, ap, subst, ◌∙◌, Option, Some, None, IfSome, IfNone, arith}
use Rattle.std.specs.List.{All, concat}
use Rattle.std.proofs.lemmas.Bool.{cases_lt}
use Rattle.std.proofs.lemmas.List.{append-nil, append_assoc}
use Rattle.std.proofs.lemmas.List.Elements.{All-head, All-tail, All-append}
use Rattle.rope_text.specs.declared.line_breaks.LineBreaks.{LineBreaks}
use Rattle.rope_text.specs.Text.{byte_len}
use Rattle.rope_text.proofs.CuttingLaws.{concat-append}
use Rattle.rope_text.proofs.Measures.{IsMeasure-byte_len}
use Rattle.rope_leaf.specs.Leaves.{AreLeaves}
use Rattle.rope_leaf.specs.Tree.{Tree, joined, leaves_of, height_of, breaks_of, tree_over, IsChild, AreFamily}
use Rattle.rope_leaf.specs.Siblings.{AreSiblings}
use Rattle.rope_tree.specs.Split.{AreSettled}
use Rattle.rope_leaf.proofs.LeafLaws.{all_left, all_right, leaves_left, leaves_right}
use Rattle.rope_leaf.proofs.NodeLaws.{leaves_of-append}
use Rattle.rope_leaf.proofs.TreeLaws.{height_of_is, breaks_of_is, is_wide_over}
use Rattle.rope_tree.proofs.MoveLaws.{AreMovable, level_of, family_of}
use Rattle.rope_tree.proofs.SettledLaws.{settled_leaves, settled_each}

-- children of one height with these leaves, which are few
module _ (b : LineBreaks) (h : ℕ) (ts : List Tree) (leaves : List (List ℕ))
    (each : All (IsChild b h) ts) (is : leaves_of ts ≡ leaves) (good : AreLeaves leaves)
    (few : byte_len (concat leaves) < 2 ^ 32) where
  pub with_leaves : AreSiblings b h ts
  with_leaves = record {
    each = each;
    leaves = subst AreLeaves (sym is) good;
    fits = omega (arith, few, ap (λ l. byte_len (concat l)) is);
  }

  pub with_leaves_movable : AreMovable ts
  with_leaves_movable = record {
    level = level_of b h ts with_leaves;
    few = omega (arith, few, ap (λ l. byte_len (concat l)) is);
  }

-- the bytes of the leaves of two lists
pub few_both : (xs ys : List Tree) → byte_len (joined xs) + byte_len (joined ys) < 2 ^ 32
    → byte_len (concat (leaves_of xs ++ leaves_of ys)) < 2 ^ 32
few_both xs ys few =
    omega (
      arith,
      few,
      ap byte_len (concat-append (leaves_of xs) (leaves_of ys)),
      IsMeasure-byte_len.joined (joined xs) (joined ys),
    )

pub few_of_both : (xs ys : List Tree) → byte_len (concat (leaves_of xs ++ leaves_of ys)) < 2 ^ 32
    → byte_len (joined xs) + byte_len (joined ys) < 2 ^ 32
few_of_both xs ys few =
    omega (
      arith,
      few,
      ap byte_len (concat-append (leaves_of xs) (leaves_of ys)),
      IsMeasure-byte_len.joined (joined xs) (joined ys),
    )

-- a lower list that is not as high as the last one is lower than that
pub below_last : (m n h : ℕ) → m + 1 ≡ h → n < h → (m ≡ n → ⊥) → n < m
below_last m n h up lower other = elim (cases_lt n m) [
  | inl less ↦ less
  | inr more ↦ absurd (other (omega (arith, up, lower, more)))
]

-- the children of one height of two lists
pub each_of_two : (b : LineBreaks) (xs ys : List Tree) → AreFamily xs → AreFamily ys
    → breaks_of xs ≡ b → breaks_of ys ≡ b → height_of xs ≡ height_of ys
    → All (IsChild b (height_of xs)) (xs ++ ys)
each_of_two b xs ys left right first second same =
    All-append (IsChild b (height_of xs)) xs ys
    (subst (λ y. All (IsChild y (height_of xs)) xs) first left.each)
    (subst (λ y. All (IsChild y (height_of xs)) ys) second
    (subst (λ n. All (IsChild (breaks_of ys) n) ys) (sym same) right.each))

-- a node over more children than it had, as a child
pub wider : (b : LineBreaks) (h : ℕ) (x y : List Tree) → IsChild b h (tree_over x) → AreFamily y
    → breaks_of y ≡ breaks_of x → height_of y ≡ height_of x → length x ≤ length y
    → IsChild b h (tree_over y)
wider b h x y own family breaks height wide =
    let low : height_of y + 1 ≡ h = omega (arith, height, own.at_height) in
    subst (λ n. IsChild b n (tree_over y)) low
    (subst (λ u. IsChild u (height_of y + 1) (tree_over y)) (breaks ∙ own.same_breaks)
    (is_wide_over (breaks_of y) 12 (height_of y) y family
    (omega (arith, wide, own.wide (omega (arith, own.at_height))))))

-- what was added to the leaves of a list: those of another, or none
pub record IsGrown (old new extra : List (List ℕ)) : Type 0 where
  pub added : List (List ℕ)
  pub is : new ≡ old ++ added
  pub all : (added ≡ extra) ⊎ (added ≡ [])

pub grown_by : {X : Type 0} (r : Option X) (xs ys : List Tree) (extra : List (List ℕ))
    → IfNone r (leaves_of ys ≡ leaves_of xs ++ extra) → IfSome r (λ _. ys ≡ xs)
    → IsGrown (leaves_of xs) (leaves_of ys) extra
grown_by None xs ys extra done kept = record { added = extra; is = done; all = inl refl }
grown_by (Some x) xs ys extra done kept = record {
  added = [];
  is = ap leaves_of kept ∙ sym (append-nil (leaves_of xs));
  all = inr refl;
}

-- the same before the leaves of a list
pub record IsLed (old new extra : List (List ℕ)) : Type 0 where
  pub added : List (List ℕ)
  pub is : new ≡ added ++ old
  pub all : (added ≡ extra) ⊎ (added ≡ [])

pub led_by : {X : Type 0} (r : Option X) (xs ys : List Tree) (extra : List (List ℕ))
    → IfNone r (leaves_of ys ≡ extra ++ leaves_of xs) → IfSome r (λ _. ys ≡ xs)
    → IsLed (leaves_of xs) (leaves_of ys) extra
led_by None xs ys extra done kept = record { added = extra; is = done; all = inl refl }
led_by (Some x) xs ys extra done kept = record {
  added = [];
  is = ap leaves_of kept;
  all = inr refl;
}

pub good_led : (old extra added : List (List ℕ)) → (added ≡ extra) ⊎ (added ≡ [])
    → AreLeaves old → AreLeaves (extra ++ old) → AreLeaves (added ++ old)
good_led old extra added (inl e) left all = rw e all
good_led old extra added (inr e) left all = rw e left

pub few_led : (old extra added : List (List ℕ)) → (added ≡ extra) ⊎ (added ≡ [])
    → byte_len (concat (extra ++ old)) < 2 ^ 32 → byte_len (concat (added ++ old)) < 2 ^ 32
few_led old extra added (inl e) few = rw e few
few_led old extra added (inr e) few =
    omega (
      arith,
      few,
      ap (λ l. byte_len (concat (l ++ old))) e,
      ap byte_len (concat-append extra old),
      IsMeasure-byte_len.joined (concat extra) (concat old),
    )

-- leaves that may follow others may be left out
pub good_added : (old extra added : List (List ℕ)) → (added ≡ extra) ⊎ (added ≡ [])
    → AreLeaves old → AreLeaves (old ++ extra) → AreLeaves (old ++ added)
good_added old extra added (inl e) left all = rw e all
good_added old extra added (inr e) left all =
    subst AreLeaves (sym (ap (λ l. old ++ l) e ∙ append-nil old)) left

pub few_added : (old extra added : List (List ℕ)) → (added ≡ extra) ⊎ (added ≡ [])
    → byte_len (concat (old ++ extra)) < 2 ^ 32 → byte_len (concat (old ++ added)) < 2 ^ 32
few_added old extra added (inl e) few = rw e few
few_added old extra added (inr e) few =
    omega (
      arith,
      few,
      ap (λ l. byte_len (concat (old ++ l))) e,
      ap byte_len (concat-append old []),
      ap byte_len (concat-append old extra),
      IsMeasure-byte_len.joined (concat old) [],
      IsMeasure-byte_len.joined (concat old) (concat extra),
    )

-- nodes in the place of the last child
module _ (old pre a : List Tree) (is : old ≡ pre ++ tree_over a ∷ []) (family : AreFamily old)
    (added : List (List ℕ)) (good : AreLeaves (leaves_of old ++ added))
    (few : byte_len (concat (leaves_of old ++ added)) < 2 ^ 32) where
  abbrev br : LineBreaks
  br = breaks_of old

  abbrev h : ℕ
  h = height_of old

  each : All (IsChild br h) (pre ++ tree_over a ∷ [])
  each = subst (All (IsChild br h)) is family.each

  each_pre : All (IsChild br h) pre
  each_pre = all_left (IsChild br h) pre _ each

  pub own_last : IsChild br h (tree_over a)
  own_last =
      All-head (IsChild br h) (tree_over a) [] (all_right (IsChild br h) pre _ each)

  leaves_are : leaves_of old ≡ leaves_of pre ++ leaves_of a
  leaves_are = ap leaves_of is ∙ leaves_of-append pre (tree_over a ∷ [])
      ∙ ap (λ l. leaves_of pre ++ l) (append-nil (leaves_of a))

  parts : leaves_of old ++ added ≡ leaves_of pre ++ (leaves_of a ++ added)
  parts = ap (λ l. l ++ added) leaves_are ∙ append_assoc (leaves_of pre) (leaves_of a) added

  pub last_leaves : AreLeaves (leaves_of a ++ added)
  last_leaves = leaves_right (leaves_of pre) _ (subst AreLeaves parts good)

  pub last_few : byte_len (concat (leaves_of a ++ added)) < 2 ^ 32
  last_few =
      omega (
        arith,
        few,
        ap (λ l. byte_len (concat l)) parts,
        ap byte_len (concat-append (leaves_of pre) (leaves_of a ++ added)),
        IsMeasure-byte_len.joined (joined pre) (concat (leaves_of a ++ added)),
      )

  module _ (us : List Tree) (each_us : All (IsChild br h) us)
      (us_leaves : leaves_of us ≡ leaves_of a ++ added) where
    pub last_replaced : leaves_of (pre ++ us) ≡ leaves_of old ++ added
    last_replaced = leaves_of-append pre us ∙ ap (λ l. leaves_of pre ++ l) us_leaves ∙ sym parts

    pub last_movable : AreMovable (pre ++ us)
    last_movable =
        with_leaves_movable br h (pre ++ us) _ (All-append (IsChild br h) pre us each_pre each_us)
        last_replaced good few

    siblings : AreSiblings br h (pre ++ us)
    siblings =
        with_leaves br h (pre ++ us) _ (All-append (IsChild br h) pre us each_pre each_us)
        last_replaced good few

    module _ (some : 2 ≤ length (pre ++ us)) where
      pub last_family : length (pre ++ us) ≤ 24 → AreFamily (pre ++ us)
      last_family most = family_of br h (pre ++ us) siblings some most

      pub last_height : height_of (pre ++ us) ≡ h
      last_height = height_of_is br h (pre ++ us) (omega (arith, some)) siblings.each

      pub last_breaks : breaks_of (pre ++ us) ≡ br
      last_breaks = breaks_of_is br h (pre ++ us) (omega (arith, some)) siblings.each

-- nodes in the place of the first child
module _ (old a post : List Tree) (is : old ≡ tree_over a ∷ post) (family : AreFamily old)
    (added : List (List ℕ)) (good : AreLeaves (added ++ leaves_of old))
    (few : byte_len (concat (added ++ leaves_of old)) < 2 ^ 32) where
  abbrev set : LineBreaks
  set = breaks_of old

  abbrev level_at : ℕ
  level_at = height_of old

  from_first : All (IsChild set level_at) (tree_over a ∷ post)
  from_first = subst (All (IsChild set level_at)) is family.each

  each_post : All (IsChild set level_at) post
  each_post = All-tail (IsChild set level_at) (tree_over a) post from_first

  pub own_first : IsChild set level_at (tree_over a)
  own_first = All-head (IsChild set level_at) (tree_over a) post from_first

  first_parts : added ++ leaves_of old ≡ (added ++ leaves_of a) ++ leaves_of post
  first_parts = ap (λ l. added ++ l) (ap leaves_of is)
      ∙ sym (append_assoc added (leaves_of a) (leaves_of post))

  pub first_leaves : AreLeaves (added ++ leaves_of a)
  first_leaves = leaves_left (added ++ leaves_of a) _ (subst AreLeaves first_parts good)

  pub first_few : byte_len (concat (added ++ leaves_of a)) < 2 ^ 32
  first_few =
      omega (
        arith,
        few,
        ap (λ l. byte_len (concat l)) first_parts,
        ap byte_len (concat-append (added ++ leaves_of a) (leaves_of post)),
        IsMeasure-byte_len.joined (concat (added ++ leaves_of a)) (joined post),
      )

  module _ (us : List Tree) (each_us : All (IsChild set level_at) us)
      (us_leaves : leaves_of us ≡ added ++ leaves_of a) where
    pub first_replaced : leaves_of (us ++ post) ≡ added ++ leaves_of old
    first_replaced = leaves_of-append us post ∙ ap (λ l. l ++ leaves_of post) us_leaves
        ∙ sym first_parts

    pub first_movable : AreMovable (us ++ post)
    first_movable =
        with_leaves_movable set level_at (us ++ post) _
        (All-append (IsChild set level_at) us post each_us each_post) first_replaced good few

    first_siblings : AreSiblings set level_at (us ++ post)
    first_siblings =
        with_leaves set level_at (us ++ post) _
        (All-append (IsChild set level_at) us post each_us each_post) first_replaced good few

    module _ (some : 2 ≤ length (us ++ post)) where
      pub first_family : length (us ++ post) ≤ 24 → AreFamily (us ++ post)
      first_family most = family_of set level_at (us ++ post) first_siblings some most

      pub first_height : height_of (us ++ post) ≡ level_at
      first_height =
          height_of_is set level_at (us ++ post) (omega (arith, some)) first_siblings.each

      pub first_breaks : breaks_of (us ++ post) ≡ set
      first_breaks =
          breaks_of_is set level_at (us ++ post) (omega (arith, some)) first_siblings.each

-- two lists of one height, with leaves that may follow each other, and nodes over their children
module _ (b : LineBreaks) (h : ℕ) (xs ys : List Tree) (left : AreFamily xs) (right : AreFamily ys)
    (first : breaks_of xs ≡ b) (second : breaks_of ys ≡ b) (same : height_of xs ≡ height_of ys)
    (up : height_of xs + 1 ≡ h) (good : AreLeaves (leaves_of xs ++ leaves_of ys))
    (few : byte_len (concat (leaves_of xs ++ leaves_of ys)) < 2 ^ 32) where
  pub pair_movable : AreMovable (xs ++ ys)
  pair_movable =
      with_leaves_movable b (height_of xs) (xs ++ ys) _
      (each_of_two b xs ys left right first second same) (leaves_of-append xs ys) good few

  module _ (us : List Tree) (s : AreSettled (xs ++ ys) us) where
    pub settled_nodes : All (IsChild b h) us
    settled_nodes =
        subst (λ n. All (IsChild b n) us) up
        (settled_each (xs ++ ys) us s b (height_of xs)
        (with_leaves b (height_of xs) (xs ++ ys) _
        (each_of_two b xs ys left right first second same) (leaves_of-append xs ys) good few))

    pub settled_both : leaves_of us ≡ leaves_of xs ++ leaves_of ys
    settled_both = settled_leaves (xs ++ ys) us s ∙ leaves_of-append xs ys
