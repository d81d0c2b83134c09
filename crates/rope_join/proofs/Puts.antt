-- A tree in place of some children of a node.
use Rattle.std.proofs.Common.{◌≡◌, ℕ, ◌+◌, ◌-◌, ◌^◌, ◌<◌, ◌≤◌, List, [], ◌∷◌, ◌++◌, length, take, drop, get_or, sym, ap, subst, ◌∙◌, arith, inl, inr}
use Rattle.std.proofs.lemmas.Bool.{cases_lt}
use Rattle.std.specs.List.{concat, All}
use Rattle.std.proofs.lemmas.List.{append-nil, append_assoc, length-append, length-drop, length-take-le, take-append-drop, take_more}
use Rattle.std.proofs.lemmas.List.Elements.{All-head, All-append, All-take, All-drop}
use Rattle.rope_text.specs.declared.line_breaks.LineBreaks.{LineBreaks}
use Rattle.rope_text.specs.Text.{byte_len}
use Rattle.rope_text.specs.Dense.{IsDenseAfter, last_bytes}
use Rattle.rope_text.proofs.Measures.{IsMeasure-byte_len}
use Rattle.rope_text.proofs.CuttingLaws.{concat-append}
use Rattle.rope_text.proofs.DenseLaws.{last_bytes-some, dense-append, dense_right}
use Rattle.rope_leaf.specs.Leaves.{AreLeaves, IsSeam, Recuts}
use Rattle.rope_leaf.specs.Tree.{Tree, text, joined, leaves_of, height_of, breaks_of, tree_over, IsTree, IsWide, IsChild, AreChildren}
use Rattle.rope_leaf.specs.Siblings.{AreSiblings, AreOver, gathered}
use Rattle.rope_tree.specs.View.{trees_in}
use Rattle.rope_tree.specs.declared.node.Nodes.{Nodes}
use Rattle.rope_leaf.proofs.LeafLaws.{leaves_left, seam_of_left, seam_of_right, recuts_kept, recuts_right, recuts_left}
use Rattle.rope_leaf.proofs.TreeLaws.{breaks_of_wide, height_of_is, breaks_of_is}
use Rattle.rope_leaf.proofs.NodeLaws.{leaves_of-append, children_of_first, child_at}
use Rattle.rope_leaf.proofs.InsertTrees.{siblings_of_first}
use Rattle.rope_tree.proofs.Gathered.{is_gathered, gathered_tree}
use Rattle.rope_join.specs.Join.{CanJoin, IsUnion}
use Rattle.rope_join.specs.Put.{CanPut, IsPut, leaves_before, leaves_after}
use Rattle.rope_join.proofs.Unions.{left_parts}

height_wide : (breaks : LineBreaks) (w h : ℕ) (ts : List Tree) → 1 ≤ length ts
    → All (IsWide breaks w h) ts → height_of ts ≡ h
height_wide breaks w h [] some each = absurd (omega arith)
height_wide breaks w h (t ∷ ts) some each = (All-head (IsWide breaks w h) t ts each).at_height

module _ (ts : List Tree) (first past : ℕ) (part : Tree)
    (a : AreChildren (breaks_of ts) (height_of ts) ts) (can : CanPut ts first past part) where
  abbrev old : List (List ℕ)
  old = leaves_before ts first

  abbrev new : List (List ℕ)
  new = leaves_after ts past part

  each_before : (k : ℕ) → All (IsChild (breaks_of ts) (height_of ts)) (take k ts)
  each_before k = All-take (IsChild (breaks_of ts) (height_of ts)) k ts a.each

  each_after : (k : ℕ) → All (IsChild (breaks_of ts) (height_of ts)) (drop k ts)
  each_after k = All-drop (IsChild (breaks_of ts) (height_of ts)) k ts a.each

  leaves_until : (k : ℕ) → AreLeaves (leaves_of (take k ts))
  leaves_until k =
      leaves_left (leaves_of (take k ts)) (leaves_of (drop k ts))
      (subst AreLeaves (ap leaves_of (sym (take-append-drop k ts))
      ∙ leaves_of-append (take k ts) (drop k ts)) a.leaves)

  -- the adjacent nodes, and the results of packing them
  module _ (all : List Tree) (each : All (IsChild (breaks_of ts) (height_of ts)) all)
      (many : 2 ≤ length all) (r : Recuts (leaves_before ts first) (leaves_after ts past part)
      (leaves_of all)) where
    pub put_fits : byte_len (joined all) < 2 ^ 63
    put_fits =
        omega (
          arith,
          can.fits,
          ap byte_len (r.same_text
              ∙ concat-append (leaves_before ts first) (leaves_after ts past part)),
          IsMeasure-byte_len.joined (concat (leaves_before ts first))
              (concat (leaves_after ts past part)),
        )

    pub put_level : AreSiblings (breaks_of all) (height_of all) all
    put_level =
        siblings_of_first (breaks_of ts) (height_of ts) all (omega (arith, many))
        (record { each = each; leaves = r.leaves; fits = put_fits })

    module _ (p : Nodes) (same : leaves_of (trees_in p) ≡ leaves_of all)
        (shape : AreOver all (trees_in p)) where
      pub put_family : length (trees_in p) ≡ 2
          → AreChildren (breaks_of (trees_in p)) (height_of (trees_in p)) (trees_in p)
      put_family two = children_of_first (breaks_of all) (height_of all + 1) (trees_in p) (record {
        at_least_two = omega (arith, two);
        at_most_24 = omega (arith, two);
        each = shape.two two;
        leaves = subst AreLeaves (sym same) r.leaves;
        fits = omega (arith, put_fits, ap (λ ls. byte_len (concat ls)) same);
      })

      pub put_tree : (t : Tree) → t ≡ gathered (trees_in p) → IsTree t
      put_tree t is =
          rw is (gathered_tree (breaks_of all) _ (height_of all + 1) (trees_in p) shape.some
          shape.each (λ more. put_family (omega (arith, shape.at_most_two, more))))

      pub put_is : (t : Tree) → t ≡ gathered (trees_in p) → IsPut ts first past part t
      put_is t is =
          let g = is_gathered (trees_in p) shape.some in
          let l : t.leaves ≡ leaves_of all = ap (λ u. u.leaves) is ∙ g.leaves ∙ same in
          let h : height_of (trees_in p) ≡ height_of ts + 1 =
          height_wide (breaks_of all) _ (height_of all + 1) (trees_in p) shape.some shape.each
          ∙ ap (λ n. n + 1) (height_of_is (breaks_of ts) (height_of ts) all (omega (arith, many))
          each) in
          record {
            same_breaks = ap (λ u. u.breaks) is ∙ g.same_breaks
                ∙ breaks_of_wide (breaks_of all) _ (height_of all + 1) (trees_in p) shape.some
                shape.each ∙ breaks_of_is (breaks_of ts) (height_of ts) all (omega (arith, many))
                each;
            recuts = rw l r;
            not_higher = elim (cases_lt (length (trees_in p)) 2) [
              | inl l ↦ omega (
                arith,
                ap (λ u. u.height) is,
                g.alone (omega (arith, shape.some, l)),
                h,
              )
              | inr ge ↦ omega (arith, ap (λ u. u.height) is, g.more ge, h)
            ];
          }

  -- nodes of the children's height in place of the removed ones
  module _ (ks : List Tree) (is : part ≡ tree_over ks)
      (k : AreChildren (breaks_of ks) (height_of ks) ks) (high : height_of ts < part.height) where
    pub level_each : All (IsChild (breaks_of ts) (height_of ts))
        (take first ts ++ (ks ++ drop past ts))
    level_each =
        let h : height_of ks ≡ height_of ts =
        omega (arith, high, can.not_higher, ap (λ t. t.height) is) in
        let b : breaks_of ks ≡ breaks_of ts = sym (ap (λ t. t.breaks) is) ∙ can.same_breaks in
        let own : All (IsChild (breaks_of ts) (height_of ts)) ks =
        subst (λ n. All (IsChild (breaks_of ts) n) ks) h
        (subst (λ s. All (IsChild s (height_of ks)) ks) b k.each) in
        All-append (IsChild (breaks_of ts) (height_of ts)) (take first ts) (ks ++ drop past ts)
        (each_before first)
        (All-append (IsChild (breaks_of ts) (height_of ts)) ks (drop past ts) own (each_after past))

    pub level_recuts : Recuts (leaves_before ts first) (leaves_after ts past part)
        (leaves_of (take first ts ++ (ks ++ drop past ts)))
    level_recuts =
        let whole : leaves_of (take first ts ++ (ks ++ drop past ts)) ≡ leaves_before ts first
        ++ leaves_after ts past part =
        leaves_of-append (take first ts) (ks ++ drop past ts)
        ∙ ap (λ ls. leaves_of (take first ts) ++ ls) (leaves_of-append ks (drop past ts)
        ∙ ap (λ t. t.leaves ++ leaves_of (drop past ts)) (sym is)) in
        let following : IsDenseAfter (last_bytes (last_bytes 492 old) part.leaves)
        (leaves_of (drop past ts)) =
        rw (last_bytes-some (last_bytes 492 old) 492 part.leaves can.some)
        (dense_right 492 part.leaves (leaves_of (drop past ts)) can.following.dense) in
        rw whole (recuts_kept old new (leaves_until first) can.following can.seam
        (dense-append (last_bytes 492 old) part.leaves (leaves_of (drop past ts)) can.near
        following))

    pub level_count : (2 ≤ length (take first ts ++ (ks ++ drop past ts)))
        × (length (take first ts ++ (ks ++ drop past ts)) ≤ 48)
    level_count =
        let sizes : length (take first ts ++ (ks ++ drop past ts))
        ≡ first + (length ks + (length ts - past)) =
        length-append (take first ts) (ks ++ drop past ts)
        ∙ omega (
          arith,
          length-take-le first ts (omega (arith, can.ordered, can.some_after)),
          length-append ks (drop past ts),
          length-drop past ts,
        ) in (
          omega (arith, sizes, k.at_least_two),
          omega (arith, sizes, k.at_most_24, a.at_most_24, can.ordered, can.some_after),
        )

  -- the tree united with the child before it
  module _ (left : Tree) (here : get_or ts (first - 1) left ≡ left) where
    before : ℕ
    before = first - 1

    own : IsChild (breaks_of ts) (height_of ts) left
    own = child_at (breaks_of ts) (height_of ts) ts (first - 1) left a
        (omega (arith, can.ordered, can.some_after, can.some_before)) here

    pub left_some : 1 ≤ length left.leaves
    left_some = own.some

    pub left_height : left.height ≡ height_of ts
    left_height = own.at_height

    old_is : leaves_before ts first ≡ leaves_of (take (first - 1) ts) ++ left.leaves
    old_is =
        let more : first - 1 + 1 ≡ first = omega (arith, can.some_before) in
        ap (λ k. leaves_of (take k ts)) (sym more)
        ∙ ap leaves_of (take_more ts (first - 1) left
        (omega (arith, can.ordered, can.some_after, can.some_before))
        ∙ ap (λ t. take (first - 1) ts ++ t ∷ []) here)
        ∙ leaves_of-append (take (first - 1) ts) (left ∷ [])
        ∙ ap (λ ls. leaves_of (take (first - 1) ts) ++ ls) (append-nil left.leaves)

    seam_part : IsSeam (concat (leaves_before ts first)) (text part)
    seam_part =
        seam_of_left (concat old) (text part) (concat (leaves_of (drop past ts)))
        (subst (IsSeam (concat old)) (concat-append part.leaves (leaves_of (drop past ts)))
        can.seam)

    pub left_join : CanJoin left part
    left_join =
        let texts : concat old ≡ concat (leaves_of (take (first - 1) ts)) ++ text left =
        ap concat old_is ∙ concat-append (leaves_of (take (first - 1) ts)) left.leaves in
        record {
          same_breaks = can.same_breaks ∙ sym own.same_breaks;
          seam = seam_of_right (concat (leaves_of (take (first - 1) ts))) (text left) (text part)
              (subst (λ s. IsSeam s (text part)) texts seam_part);
          fits = omega (
            arith,
            can.fits,
            ap byte_len texts,
            IsMeasure-byte_len.joined (concat (leaves_of (take (first - 1) ts))) (text left),
            ap byte_len (concat-append part.leaves (leaves_of (drop past ts))),
            IsMeasure-byte_len.joined (text part) (concat (leaves_of (drop past ts))),
          );
        }

    module _ (ms : List Tree) (u : IsUnion left part ms) (low : part.height ≤ height_of ts) where
      united : All (IsChild (breaks_of ts) (height_of ts)) ms × (1 ≤ length ms) × (length ms ≤ 2)
      united = left_parts (breaks_of ts) (height_of ts) left part ms own low u

      pub united_each : All (IsChild (breaks_of ts) (height_of ts))
          (take (first - 1) ts ++ (ms ++ drop past ts))
      united_each =
          All-append (IsChild (breaks_of ts) (height_of ts)) (take (first - 1) ts)
          (ms ++ drop past ts) (each_before (first - 1))
          (All-append (IsChild (breaks_of ts) (height_of ts)) ms (drop past ts) united.0
          (each_after past))

      pub united_recuts : Recuts (leaves_before ts first) (leaves_after ts past part)
          (leaves_of (take (first - 1) ts ++ (ms ++ drop past ts)))
      united_recuts =
          let zs = leaves_of (take (first - 1) ts) in
          let ys = leaves_of (drop past ts) in
          let whole : leaves_of (take (first - 1) ts ++ (ms ++ drop past ts)) ≡ (zs ++ leaves_of ms)
          ++ ys =
          leaves_of-append (take (first - 1) ts) (ms ++ drop past ts)
          ∙ ap (λ ls. zs ++ ls) (leaves_of-append ms (drop past ts))
          ∙ sym (append_assoc zs (leaves_of ms) ys) in
          let front : Recuts (zs ++ left.leaves) part.leaves (zs ++ leaves_of ms) =
          recuts_right zs left.leaves part.leaves (leaves_of ms)
          (subst AreLeaves old_is (leaves_until first))
          (subst (λ ls. IsSeam (concat ls) (text part)) old_is seam_part) own.some u.recuts in
          rw whole (recuts_left old part.leaves ys (zs ++ leaves_of ms) can.following can.seam
          can.some (subst (λ ls. Recuts ls part.leaves (zs ++ leaves_of ms)) (sym old_is) front))

      pub united_count : (2 ≤ length (take (first - 1) ts ++ (ms ++ drop past ts)))
          × (length (take (first - 1) ts ++ (ms ++ drop past ts)) ≤ 48)
      united_count =
          let sizes : length (take (first - 1) ts ++ (ms ++ drop past ts))
          ≡ (first - 1) + (length ms + (length ts - past)) =
          length-append (take (first - 1) ts) (ms ++ drop past ts)
          ∙ omega (
            arith,
            length-take-le (first - 1) ts
                (omega (arith, can.ordered, can.some_after)),
            length-append ms (drop past ts),
            length-drop past ts,
          ) in (
            omega (arith, sizes, united.1, can.some_after),
            omega (arith, sizes, united.2, a.at_most_24, can.ordered, can.some_after),
          )
