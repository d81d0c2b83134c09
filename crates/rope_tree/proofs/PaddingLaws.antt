-- Two adjacent lists between which children move, as children of one list: that list has the same
-- leaves, height and number of children.
use Rattle.std.proofs.Common.{◌≡◌, ℕ, ◌+◌, ◌^◌, ◌<◌, ◌≤◌, List, [], ◌∷◌, ◌++◌, length, refl, sym, ap, subst, ◌∙◌, arith}
use Rattle.std.specs.List.{All, concat}
use Rattle.std.proofs.lemmas.List.{append-nil, append_assoc, length-append}
use Rattle.std.proofs.lemmas.List.Elements.{All-cons, All-head, All-tail, All-append}
use Rattle.rope_text.specs.declared.line_breaks.LineBreaks.{LineBreaks}
use Rattle.rope_text.specs.Text.{byte_len}
use Rattle.rope_leaf.specs.Leaves.{AreLeaves}
use Rattle.rope_leaf.specs.Tree.{Tree, joined, leaves_of, height_of, breaks_of, tree_over, IsChild, AreFamily}
use Rattle.rope_leaf.specs.Siblings.{AreSiblings}
use Rattle.rope_tree.specs.Split.{nodes_over}
use Rattle.rope_leaf.proofs.LeafLaws.{all_right}
use Rattle.rope_leaf.proofs.NodeLaws.{leaves_of-append}
use Rattle.rope_leaf.proofs.SiblingLaws.{byte_len-append, siblings_left, siblings_right}
use Rattle.rope_tree.proofs.RowLaws.{siblings_of}
use Rattle.rope_leaf.proofs.TreeLaws.{height_of_is, breaks_of_is}
use Rattle.rope_tree.proofs.MoveLaws.{AreMovable, level_of, family_of, over_some, each_over}

-- trees with the same leaves under one node
pub same_tree : (us ts : List Tree) → breaks_of us ≡ breaks_of ts → leaves_of us ≡ leaves_of ts
    → height_of us ≡ height_of ts → length us ≡ length ts → tree_over us ≡ tree_over ts
same_tree us ts breaks leaves height len = rw (breaks, leaves, height, len) refl

module _ (old pre a x post : List Tree) (is : old ≡ pre ++ (tree_over a ∷ tree_over x ∷ post))
    (family : AreFamily old) (left : AreFamily a) (right : AreFamily x) where
  abbrev br : LineBreaks
  br = breaks_of old

  abbrev h : ℕ
  h = height_of old

  abbrev c : ℕ
  c = height_of a

  two : All (IsChild br h) (tree_over a ∷ tree_over x ∷ post)
  two = all_right (IsChild br h) pre _ (subst (All (IsChild br h)) is family.each)

  own_a : IsChild br h (tree_over a)
  own_a = All-head (IsChild br h) (tree_over a) (tree_over x ∷ post) two

  own_x : IsChild br h (tree_over x)
  own_x =
      All-head (IsChild br h) (tree_over x) post
      (All-tail (IsChild br h) (tree_over a) (tree_over x ∷ post) two)

  pub wide_a : 12 ≤ length a
  wide_a = own_a.wide (omega (arith, own_a.at_height))

  pub wide_x : 12 ≤ length x
  wide_x = own_x.wide (omega (arith, own_x.at_height))

  all : AreSiblings br h (pre ++ (tree_over a ∷ tree_over x ∷ post))
  all = subst (AreSiblings br h) is (siblings_of br h old family)

  from_a : AreSiblings br h (tree_over a ∷ tree_over x ∷ post)
  from_a = siblings_right br h pre _ all

  level_post : AreSiblings br h post
  level_post = siblings_right br h (tree_over a ∷ tree_over x ∷ []) post from_a

  leaves_a : AreSiblings (breaks_of a) c a
  leaves_a = siblings_of (breaks_of a) c a left

  leaves_x : AreSiblings (breaks_of x) (height_of x) x
  leaves_x = siblings_of (breaks_of x) (height_of x) x right

  both_leaves : leaves_of (tree_over a ∷ tree_over x ∷ []) ≡ leaves_of (a ++ x)
  both_leaves = ap (λ l. leaves_of a ++ l) (append-nil (leaves_of x))
      ∙ sym (leaves_of-append a x)

  level : AreSiblings br c (a ++ x)
  level =
      let s =
      siblings_left br h (tree_over a ∷ tree_over x ∷ []) post from_a in
      record {
        each = All-append (IsChild br c) a x
            (subst (λ y. All (IsChild y c) a) own_a.same_breaks leaves_a.each)
            (subst (λ y. All (IsChild y c) x) own_x.same_breaks
            (subst (λ n. All (IsChild (breaks_of x) n) x)
            (omega (arith, own_a.at_height, own_x.at_height)) leaves_x.each));
        leaves = subst AreLeaves both_leaves s.leaves;
        fits = subst (λ l. byte_len (concat l) < 2 ^ 63) both_leaves s.fits;
      }

  pub pair_movable : byte_len (joined old) < 2 ^ 32 → AreMovable (a ++ x)
  pair_movable few = record {
    level = level_of br c (a ++ x) level;
    few = omega (
      arith,
      few,
      ap (λ l. byte_len (joined l)) is,
      byte_len-append pre (tree_over a ∷ tree_over x ∷ post),
      byte_len-append (tree_over a ∷ tree_over x ∷ []) post,
      ap (λ l. byte_len (concat l)) both_leaves,
    );
  }

  module _ (b y : List Tree) (same : b ++ y ≡ a ++ x) (least : 12 ≤ length b)
      (most : length b ≤ 24) (least_y : 12 ≤ length y) (most_y : length y ≤ 24) where
    level_both : AreSiblings br c (b ++ y)
    level_both = rw same level

    level_b : AreSiblings br c b
    level_b = siblings_left br c b y level_both

    level_y : AreSiblings br c y
    level_y = siblings_right br c b y level_both

    pub family_b : AreFamily b
    family_b = family_of br c b level_b (omega (arith, least)) most

    pub family_y : AreFamily y
    family_y = family_of br c y level_y (omega (arith, least_y)) most_y

    abbrev new : List Tree
    new = pre ++ (tree_over b ∷ tree_over y ∷ post)

    same_leaves : leaves_of new ≡ leaves_of old
    same_leaves = leaves_of-append pre _
        ∙ ap (λ l. leaves_of pre ++ l) (sym (append_assoc (leaves_of b) (leaves_of y)
        (leaves_of post)) ∙ ap (λ l. l ++ leaves_of post) (sym (leaves_of-append b y)
        ∙ ap leaves_of same ∙ leaves_of-append a x)
        ∙ append_assoc (leaves_of a) (leaves_of x) (leaves_of post))
        ∙ sym (leaves_of-append pre (tree_over a ∷ tree_over x ∷ post)) ∙ sym (ap leaves_of is)

    each_two : All (IsChild br h) (tree_over b ∷ tree_over y ∷ post)
    each_two =
        let up : c + 1 ≡ h = own_a.at_height in
        let P = IsChild br h in
        let first : All P (tree_over b ∷ []) =
        subst (All P) (over_some b (omega (arith, least)))
        (subst (λ n. All (IsChild br n) (nodes_over b)) up
        (each_over br c b level_b (λ _. least) most)) in
        let second : All P (tree_over y ∷ []) =
        subst (All P) (over_some y (omega (arith, least_y)))
        (subst (λ n. All (IsChild br n) (nodes_over y)) up
        (each_over br c y level_y (λ _. least_y) most_y)) in
        All-cons P (tree_over b) (tree_over y ∷ post) (All-head P (tree_over b) [] first)
        (All-cons P (tree_over y) post (All-head P (tree_over y) [] second) level_post.each)

    siblings : AreSiblings br h new
    siblings = record {
      each = All-append (IsChild br h) pre _ (siblings_left br h pre _ all).each each_two;
      leaves = rw same_leaves family.leaves;
      fits = rw same_leaves family.fits;
    }

    as_many : length new ≡ length old
    as_many =
        omega (
          arith,
          ap length is,
          length-append pre (tree_over a ∷ tree_over x ∷ post),
          length-append pre (tree_over b ∷ tree_over y ∷ post),
        )

    pub moved_family : AreFamily new
    moved_family =
        family_of br h new siblings (omega (arith, as_many, family.at_least_two))
        (omega (arith, as_many, family.at_most_24))

    pub moved_same : tree_over new ≡ tree_over old
    moved_same =
        same_tree new old
        (breaks_of_is br h new (omega (arith, as_many, family.at_least_two)) siblings.each)
        same_leaves
        (height_of_is br h new (omega (arith, as_many, family.at_least_two)) siblings.each)
        as_many

    pub moved_few : byte_len (joined old) < 2 ^ 32 → byte_len (joined new) < 2 ^ 32
    moved_few few = subst (λ l. byte_len (concat l) < 2 ^ 32) (sym same_leaves) few
