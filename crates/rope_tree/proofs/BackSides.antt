-- The back of a list of children, of which one is split: nodes over the children of that one and of
-- the one beside it, and the children after both.
use Rattle.std.proofs.Common.{◌≡◌, ℕ, ◌+◌, ◌^◌, ◌<◌, ◌≤◌, List, [], ◌∷◌, ◌++◌, length, take, drop, sym, ap, subst, ◌∙◌, arith}
use Rattle.std.specs.List.{All, concat}
use Rattle.std.proofs.lemmas.List.{append_assoc, length-append, take-append-drop, drop-append-le}
use Rattle.std.proofs.lemmas.List.Elements.{All-head, All-tail}
use Rattle.std.proofs.Math.Seq.{drop-append-add}
use Rattle.rope_text.specs.declared.line_breaks.LineBreaks.{LineBreaks}
use Rattle.rope_text.specs.Text.{byte_len}
use Rattle.rope_text.specs.Dense.{IsDenseAfter, last_bytes}
use Rattle.rope_text.proofs.DenseLaws.{last_bytes-append, last_bytes-some, dense_more}
use Rattle.rope_text.proofs.CuttingLaws.{concat-append}
use Rattle.rope_text.proofs.Measures.{IsMeasure-byte_len}
use Rattle.rope_leaf.specs.Leaves.{AreLeaves, IsSeam}
use Rattle.rope_leaf.specs.Tree.{Tree, joined, leaves_of, height_of, breaks_of, tree_over, IsChild, AreFamily}
use Rattle.rope_leaf.specs.Siblings.{AreSiblings}
use Rattle.rope_tree.specs.Split.{AreSettled, IsBackOf, EndsAs}
use Rattle.rope_leaf.proofs.LeafLaws.{all_right, leaves_left, leaves_right, leaves_seam, leaves_near, seam-drop}
use Rattle.rope_leaf.proofs.NodeLaws.{leaves_of-append, joined-append}
use Rattle.rope_leaf.proofs.SiblingLaws.{byte_len-append, siblings_right}
use Rattle.rope_tree.proofs.RowLaws.{siblings_of}
use Rattle.rope_tree.proofs.MoveLaws.{AreMovable, level_of, siblings-append}
use Rattle.rope_tree.proofs.SettledLaws.{settled_some, settled_few, settled_leaves, settled_each}

module _ (old pre x b post : List Tree) (is : old ≡ pre ++ (tree_over x ∷ tree_over b ∷ post))
    (family : AreFamily old) (middle : AreFamily x) (right : AreFamily b) where
  abbrev br : LineBreaks
  br = breaks_of old

  abbrev h : ℕ
  h = height_of old

  abbrev c : ℕ
  c = height_of b

  abbrev lx : List (List ℕ)
  lx = leaves_of x

  abbrev lb : List (List ℕ)
  lb = leaves_of b

  abbrev lp : List (List ℕ)
  lp = leaves_of post

  three : All (IsChild br h) (tree_over x ∷ tree_over b ∷ post)
  three = all_right (IsChild br h) pre _ (subst (All (IsChild br h)) is family.each)

  own_x : IsChild br h (tree_over x)
  own_x = All-head (IsChild br h) (tree_over x) (tree_over b ∷ post) three

  own_b : IsChild br h (tree_over b)
  own_b =
      All-head (IsChild br h) (tree_over b) post
      (All-tail (IsChild br h) (tree_over x) (tree_over b ∷ post) three)

  above : c + 1 ≡ h
  above = own_b.at_height

  same_height : height_of x ≡ c
  same_height = omega (arith, own_b.at_height, own_x.at_height)

  level_b : AreSiblings br c b
  level_b =
      subst (λ y. AreSiblings y c b) own_b.same_breaks
      (siblings_of (breaks_of b) (height_of b) b right)

  level_post : AreSiblings br h post
  level_post =
      siblings_right br h (tree_over x ∷ tree_over b ∷ []) post
      (siblings_right br h pre (tree_over x ∷ tree_over b ∷ post)
      (subst (AreSiblings br h) is (siblings_of br h old family)))

  leaves_are : leaves_of old ≡ leaves_of pre ++ (lx ++ (lb ++ lp))
  leaves_are = ap leaves_of is ∙ leaves_of-append pre _

  -- the leaves of the two lists, and those after them
  from_x : AreLeaves ((lx ++ lb) ++ lp)
  from_x =
      subst AreLeaves (sym (append_assoc lx lb lp))
      (leaves_right (leaves_of pre) _ (subst AreLeaves leaves_are family.leaves))

  x_and_b : AreLeaves (lx ++ lb)
  x_and_b = leaves_left (lx ++ lb) lp from_x

  texts_are : joined old ≡ joined pre ++ (joined x ++ (joined b ++ joined post))
  texts_are = ap joined is ∙ joined-append pre _
      ∙ ap (λ s. joined pre ++ s) (concat-append lx (lb ++ lp)
      ∙ ap (λ s. joined x ++ s) (concat-append lb lp))

  bytes_are : byte_len (joined old) ≡ byte_len (joined pre)
      + (byte_len (joined x) + (byte_len (joined b) + byte_len (joined post)))
  bytes_are = ap byte_len texts_are
      ∙ IsMeasure-byte_len.joined (joined pre) _
      ∙ ap (λ n. byte_len (joined pre) + n) (IsMeasure-byte_len.joined (joined x) _
      ∙ ap (λ n. byte_len (joined x) + n) (IsMeasure-byte_len.joined (joined b) (joined post)))

  module _ (inside : ℕ) (k : List Tree) (s : IsBackOf inside x k) (ends : EndsAs x k)
      (within : inside ≤ length (joined x)) where
    bytes_k : byte_len (joined k) ≤ byte_len (joined x)
    bytes_k =
        omega (
          arith,
          ap byte_len s.text_is,
          IsMeasure-byte_len.joined (take inside (joined x)) (drop inside (joined x)),
          ap byte_len (take-append-drop inside (joined x)),
        )

    level_k : AreSiblings br c k
    level_k =
        subst (λ y. AreSiblings y c k) own_x.same_breaks
        (subst (λ n. AreSiblings (breaks_of x) n k) same_height s.level)

    fewer : byte_len (joined (k ++ b)) ≤ byte_len (joined old)
    fewer = omega (arith, byte_len-append k b, bytes_are, bytes_k)

    siblings : AreSiblings br c (k ++ b)
    siblings =
        let seam : IsSeam (joined k) (joined b) =
        rw (s.text_is) (seam-drop inside (joined x) (joined b) (leaves_seam lx lb x_and_b)) in
        let near : IsDenseAfter (last_bytes 492 (leaves_of k)) lb =
        dense_more (last_bytes 492 lx) (last_bytes 492 (leaves_of k)) lb (ends 492 492)
        (leaves_near lx lb x_and_b) in
        siblings-append br c k b level_k level_b seam near (omega (arith, fewer, family.fits))

    pub back_movable : byte_len (joined old) < 2 ^ 32 → AreMovable (k ++ b)
    back_movable few = record {
      level = level_of br c (k ++ b) siblings;
      few = omega (arith, few, fewer);
    }

    pub back_enough : 12 ≤ length (k ++ b)
    back_enough = omega (arith, length-append k b, own_b.wide (omega (arith, own_b.at_height)))

    module _ (nodes : List Tree) (t : AreSettled (k ++ b) nodes) where
      abbrev place : ℕ
      place = length (joined pre) + inside

      leaves_back : leaves_of nodes ≡ leaves_of k ++ lb
      leaves_back = settled_leaves (k ++ b) nodes t ∙ leaves_of-append k b

      text_back : joined nodes ≡ drop inside (joined x) ++ joined b
      text_back = ap concat leaves_back ∙ concat-append (leaves_of k) lb
          ∙ ap (λ u. u ++ joined b) s.text_is

      bytes_back : byte_len (joined (nodes ++ post)) ≤ byte_len (joined old)
      bytes_back =
          omega (
            arith,
            byte_len-append nodes post,
            ap byte_len (ap concat leaves_back ∙ concat-append (leaves_of k) lb),
            IsMeasure-byte_len.joined (joined k) (joined b),
            bytes_are,
            bytes_k,
          )

      over : AreSiblings br h nodes
      over = record {
        each = rw (sym above) (settled_each (k ++ b) nodes t br c siblings);
        leaves = rw leaves_back (subst AreLeaves (leaves_of-append k b) siblings.leaves);
        fits = omega (arith, bytes_back, byte_len-append nodes post, family.fits);
      }

      seam_post : IsSeam (joined nodes) (joined post)
      seam_post =
          let text_is : drop inside (concat (lx ++ lb)) ≡ joined nodes =
          ap (drop inside) (concat-append lx lb)
          ∙ drop-append-le inside (joined x) (joined b) within ∙ sym text_back in
          subst (λ u. IsSeam u (joined post)) text_is
          (seam-drop inside (concat (lx ++ lb)) (joined post) (leaves_seam (lx ++ lb) lp from_x))

      -- the last leaf of the nodes is that of the second list
      last_is : (i j : ℕ) → last_bytes i (leaves_of nodes) ≡ last_bytes j lb
      last_is i j = ap (last_bytes i) leaves_back ∙ last_bytes-append i (leaves_of k) lb
          ∙ last_bytes-some (last_bytes i (leaves_of k)) j lb own_b.some

      near_post : IsDenseAfter (last_bytes 492 (leaves_of nodes)) lp
      near_post =
          let same : last_bytes 492 (lx ++ lb) ≡ last_bytes 492 (leaves_of nodes) =
          last_bytes-append 492 lx lb ∙ sym (last_is 492 (last_bytes 492 lx)) in
          subst (λ i. IsDenseAfter i lp) same (leaves_near (lx ++ lb) lp from_x)

      all_back : AreSiblings br h (nodes ++ post)
      all_back =
          siblings-append br h nodes post over level_post seam_post near_post
          (omega (arith, bytes_back, family.fits))

      pub back_side : IsBackOf place old (nodes ++ post)
      back_side = record {
        text_is = joined-append nodes post ∙ ap (λ u. u ++ joined post) text_back
            ∙ append_assoc (drop inside (joined x)) (joined b) (joined post)
            ∙ sym (ap (drop place) texts_are
            ∙ drop-append-add (joined pre) _ inside
            ∙ drop-append-le inside (joined x) _ within);
        level = all_back;
        some = omega (arith, length-append nodes post, settled_some (k ++ b) nodes t);
        few = omega (
          arith,
          ap length is,
          length-append pre (tree_over x ∷ tree_over b ∷ post),
          length-append nodes post,
          settled_few (k ++ b) nodes t,
        );
      }

      pub back_ahead : EndsAs old (nodes ++ post)
      back_ahead i j =
          let now : last_bytes j (leaves_of (nodes ++ post)) ≡ last_bytes (last_bytes 0 lb) lp =
          ap (last_bytes j) (leaves_of-append nodes post)
          ∙ last_bytes-append j (leaves_of nodes) lp
          ∙ ap (λ y. last_bytes y lp) (last_is j 0) in
          let e = last_bytes i (leaves_of pre) in
          let was : last_bytes i (leaves_of old) ≡ last_bytes (last_bytes 0 lb) lp =
          ap (last_bytes i) leaves_are
          ∙ last_bytes-append i (leaves_of pre) (lx ++ (lb ++ lp))
          ∙ last_bytes-append e lx (lb ++ lp)
          ∙ last_bytes-append (last_bytes e lx) lb lp
          ∙ ap (λ y. last_bytes y lp) (last_bytes-some (last_bytes e lx) 0 lb own_b.some) in
          omega (arith, now, was)

      pub back_all : byte_len (joined old) < 2 ^ 32 → AreMovable (nodes ++ post)
      back_all few = record {
        level = level_of br h (nodes ++ post) all_back;
        few = omega (arith, bytes_back, few);
      }
