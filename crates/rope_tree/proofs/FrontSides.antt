-- The front of a list of children, of which one is split: the children before that one and the one
-- beside it, and nodes over the children of both.
use Rattle.std.proofs.Common.{◌≡◌, ℕ, ◌+◌, ◌^◌, ◌<◌, ◌≤◌, List, ◌∷◌, ◌++◌, length, take, drop, sym, ap, subst, ◌∙◌, arith}
use Rattle.std.specs.List.{All, concat}
use Rattle.std.proofs.lemmas.List.{append_assoc, length-append, take-append-drop, take-append-le}
use Rattle.std.proofs.lemmas.List.Elements.{All-head, All-tail}
use Rattle.std.proofs.Math.Seq.{take-append-add}
use Rattle.rope_text.specs.declared.line_breaks.LineBreaks.{LineBreaks}
use Rattle.rope_text.specs.Text.{byte_len}
use Rattle.rope_text.specs.Dense.{IsDenseAfter, last_bytes}
use Rattle.rope_text.proofs.DenseLaws.{dense-append, dense_left, dense_right}
use Rattle.rope_text.proofs.CuttingLaws.{concat-append}
use Rattle.rope_text.proofs.Measures.{IsMeasure-byte_len}
use Rattle.rope_leaf.specs.Leaves.{AreLeaves, IsSeam}
use Rattle.rope_leaf.specs.Tree.{Tree, joined, leaves_of, height_of, breaks_of, tree_over, IsChild, AreFamily}
use Rattle.rope_leaf.specs.Siblings.{AreSiblings}
use Rattle.rope_tree.specs.Split.{AreSettled, IsFrontOf, MayFollow}
use Rattle.rope_leaf.proofs.LeafLaws.{all_right, leaves_left, leaves_right, leaves_seam, leaves_near, seam-take}
use Rattle.rope_leaf.proofs.NodeLaws.{leaves_of-append, joined-append}
use Rattle.rope_leaf.proofs.SiblingLaws.{byte_len-append, siblings_left}
use Rattle.rope_tree.proofs.RowLaws.{siblings_of}
use Rattle.rope_tree.proofs.MoveLaws.{AreMovable, level_of, siblings-append}
use Rattle.rope_tree.proofs.SettledLaws.{settled_some, settled_few, settled_leaves, settled_each}

module _ (old pre a x post : List Tree) (is : old ≡ pre ++ (tree_over a ∷ tree_over x ∷ post))
    (family : AreFamily old) (left : AreFamily a) (middle : AreFamily x) where
  abbrev br : LineBreaks
  br = breaks_of old

  abbrev h : ℕ
  h = height_of old

  abbrev c : ℕ
  c = height_of a

  abbrev la : List (List ℕ)
  la = leaves_of a

  abbrev lx : List (List ℕ)
  lx = leaves_of x

  abbrev lp : List (List ℕ)
  lp = leaves_of post

  three : All (IsChild br h) (tree_over a ∷ tree_over x ∷ post)
  three = all_right (IsChild br h) pre _ (subst (All (IsChild br h)) is family.each)

  own_a : IsChild br h (tree_over a)
  own_a = All-head (IsChild br h) (tree_over a) (tree_over x ∷ post) three

  own_x : IsChild br h (tree_over x)
  own_x =
      All-head (IsChild br h) (tree_over x) post
      (All-tail (IsChild br h) (tree_over a) (tree_over x ∷ post) three)

  above : c + 1 ≡ h
  above = own_a.at_height

  same_height : height_of x ≡ c
  same_height = omega (arith, own_a.at_height, own_x.at_height)

  level_a : AreSiblings br c a
  level_a =
      subst (λ y. AreSiblings y c a) own_a.same_breaks
      (siblings_of (breaks_of a) (height_of a) a left)

  level_pre : AreSiblings br h pre
  level_pre =
      siblings_left br h pre (tree_over a ∷ tree_over x ∷ post)
      (subst (AreSiblings br h) is (siblings_of br h old family))

  leaves_are : leaves_of old ≡ leaves_of pre ++ (la ++ (lx ++ lp))
  leaves_are = ap leaves_of is ∙ leaves_of-append pre _

  all : AreLeaves (leaves_of pre ++ (la ++ (lx ++ lp)))
  all = subst AreLeaves leaves_are family.leaves

  a_and_x : AreLeaves (la ++ lx)
  a_and_x =
      leaves_left (la ++ lx) lp
      (subst AreLeaves (sym (append_assoc la lx lp)) (leaves_right (leaves_of pre) _ all))

  texts_are : joined old ≡ joined pre ++ (joined a ++ (joined x ++ joined post))
  texts_are = ap joined is ∙ joined-append pre _
      ∙ ap (λ s. joined pre ++ s) (concat-append la (lx ++ lp)
      ∙ ap (λ s. joined a ++ s) (concat-append lx lp))

  bytes_are : byte_len (joined old) ≡ byte_len (joined pre)
      + (byte_len (joined a) + (byte_len (joined x) + byte_len (joined post)))
  bytes_are = ap byte_len texts_are
      ∙ IsMeasure-byte_len.joined (joined pre) _
      ∙ ap (λ n. byte_len (joined pre) + n) (IsMeasure-byte_len.joined (joined a) _
      ∙ ap (λ n. byte_len (joined a) + n) (IsMeasure-byte_len.joined (joined x) (joined post)))

  module _ (inside : ℕ) (f : List Tree) (s : IsFrontOf inside x f) (follows : MayFollow x f)
      (within : inside ≤ length (joined x)) where
    bytes_f : byte_len (joined f) ≤ byte_len (joined x)
    bytes_f =
        omega (
          arith,
          ap byte_len s.text_is,
          IsMeasure-byte_len.joined (take inside (joined x)) (drop inside (joined x)),
          ap byte_len (take-append-drop inside (joined x)),
        )

    level_f : AreSiblings br c f
    level_f =
        subst (λ y. AreSiblings y c f) own_x.same_breaks
        (subst (λ n. AreSiblings (breaks_of x) n f) same_height s.level)

    fewer : byte_len (joined (a ++ f)) ≤ byte_len (joined old)
    fewer = omega (arith, byte_len-append a f, bytes_are, bytes_f)

    near_f : IsDenseAfter (last_bytes 492 la) (leaves_of f)
    near_f = follows (last_bytes 492 la) (leaves_near la lx a_and_x)

    siblings : AreSiblings br c (a ++ f)
    siblings =
        let seam : IsSeam (joined a) (joined f) =
        rw (s.text_is) (seam-take inside (joined a) (joined x) (leaves_seam la lx a_and_x)) in
        siblings-append br c a f level_a level_f seam near_f (omega (arith, fewer, family.fits))

    pub front_movable : byte_len (joined old) < 2 ^ 32 → AreMovable (a ++ f)
    front_movable few = record {
      level = level_of br c (a ++ f) siblings;
      few = omega (arith, few, fewer);
    }

    pub front_enough : 12 ≤ length (a ++ f)
    front_enough =
        omega (arith, length-append a f, own_a.wide (omega (arith, own_a.at_height)))

    module _ (nodes : List Tree) (t : AreSettled (a ++ f) nodes) where
      abbrev place : ℕ
      place = length (joined pre) + (length (joined a) + inside)

      leaves_front : leaves_of nodes ≡ la ++ leaves_of f
      leaves_front = settled_leaves (a ++ f) nodes t ∙ leaves_of-append a f

      text_front : joined nodes ≡ joined a ++ take inside (joined x)
      text_front = ap concat leaves_front ∙ concat-append la (leaves_of f)
          ∙ ap (λ u. joined a ++ u) s.text_is

      bytes_front : byte_len (joined (pre ++ nodes)) ≤ byte_len (joined old)
      bytes_front =
          omega (
            arith,
            byte_len-append pre nodes,
            ap byte_len (ap concat leaves_front ∙ concat-append la (leaves_of f)),
            IsMeasure-byte_len.joined (joined a) (joined f),
            bytes_are,
            bytes_f,
          )

      seam_pre : IsSeam (joined pre) (joined nodes)
      seam_pre =
          let rest = la ++ (lx ++ lp) in
          let text_is : take (length (joined a) + inside) (concat rest) ≡ joined nodes =
          ap (take (length (joined a) + inside)) (concat-append la (lx ++ lp))
          ∙ take-append-add (joined a) (concat (lx ++ lp)) inside
          ∙ ap (λ u. joined a ++ u) (ap (take inside) (concat-append lx lp)
          ∙ take-append-le inside (joined x) (concat lp) within) ∙ sym text_front in
          subst (IsSeam (joined pre)) text_is
          (seam-take (length (joined a) + inside) (joined pre) _
          (leaves_seam (leaves_of pre) rest all))

      over : AreSiblings br h nodes
      over = record {
        each = rw (sym above) (settled_each (a ++ f) nodes t br c siblings);
        leaves = rw leaves_front (subst AreLeaves (leaves_of-append a f) siblings.leaves);
        fits = omega (arith, bytes_front, byte_len-append pre nodes, family.fits);
      }

      -- the first leaves, after any that those of the list may follow
      follow : (i : ℕ) → IsDenseAfter i (la ++ (lx ++ lp)) → IsDenseAfter i (la ++ leaves_of f)
      follow i d =
          dense-append i la (leaves_of f) (dense_left i la (lx ++ lp) d)
          (follows (last_bytes i la)
          (dense_left (last_bytes i la) lx lp (dense_right i la (lx ++ lp) d)))

      all_front : AreSiblings br h (pre ++ nodes)
      all_front =
          siblings-append br h pre nodes level_pre over seam_pre
          (rw leaves_front (follow (last_bytes 492 (leaves_of pre))
          (leaves_near (leaves_of pre) (la ++ (lx ++ lp)) all)))
          (omega (arith, bytes_front, family.fits))

      pub front_side : IsFrontOf place old (pre ++ nodes)
      front_side = record {
        text_is = joined-append pre nodes ∙ ap (λ u. joined pre ++ u) text_front
            ∙ sym (ap (take place) texts_are
            ∙ take-append-add (joined pre) _ (length (joined a) + inside)
            ∙ ap (λ u. joined pre ++ u) (take-append-add (joined a) _ inside
            ∙ ap (λ u. joined a ++ u) (take-append-le inside (joined x) _ within)));
        level = all_front;
        some = omega (arith, length-append pre nodes, settled_some (a ++ f) nodes t);
        few = omega (
          arith,
          ap length is,
          length-append pre (tree_over a ∷ tree_over x ∷ post),
          length-append pre nodes,
          settled_few (a ++ f) nodes t,
        );
      }

      pub front_following : MayFollow old (pre ++ nodes)
      front_following i d =
          let e : IsDenseAfter i (leaves_of pre ++ (la ++ (lx ++ lp))) =
          subst (IsDenseAfter i) leaves_are d in
          rw (leaves_of-append pre nodes, leaves_front)
          (dense-append i (leaves_of pre) (la ++ leaves_of f)
          (dense_left i (leaves_of pre) (la ++ (lx ++ lp)) e)
          (follow (last_bytes i (leaves_of pre)) (dense_right i (leaves_of pre)
          (la ++ (lx ++ lp)) e)))

      pub front_all : byte_len (joined old) < 2 ^ 32 → AreMovable (pre ++ nodes)
      front_all few = record {
        level = level_of br h (pre ++ nodes) all_front;
        few = omega (arith, bytes_front, few);
      }
