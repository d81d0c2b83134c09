-- The tree that replaces the split children in a removal in one descent.
use Rattle.std.proofs.Common.{◌≡◌, ℕ, zero, suc, ◌+◌, ◌-◌, ◌^◌, ◌<◌, ◌≤◌, List, [], ◌∷◌, ◌++◌, length, take, drop, get_or, refl, sym, ap, ap₂, subst, ◌∙◌, arith, inl, inr}
use Rattle.std.specs.List.{concat}
use Rattle.std.proofs.lemmas.Bool.{cases_lt}
use Rattle.std.proofs.lemmas.List.{take-append-drop, append-nil, drop_all, append_assoc, length-append, length-take-le, length-drop, take-take}
use Rattle.rope_text.specs.Text.{byte_len}
use Rattle.rope_text.specs.Dense.{IsDenseAfter, last_bytes}
use Rattle.rope_text.proofs.Measures.{IsMeasure-byte_len}
use Rattle.rope_text.proofs.CuttingLaws.{concat-append}
use Rattle.rope_text.proofs.DenseLaws.{last_bytes-append, last_bytes-some, dense-append, dense_left, dense_right, dense_more}
use Rattle.rope_leaf.specs.Leaves.{AreLeaves, IsSeam}
use Rattle.rope_leaf.specs.Tree.{IsChild, Tree, text, joined, leaves_of, height_of, breaks_of, tree_over, IsTree, AreChildren}
use Rattle.rope_leaf.proofs.LeafLaws.{all_left, leaves-append, leaves_right, leaves_seam, leaves_near, seam_of_left, seam_of_right, seam_left_longer, seam_right_longer, seam-take, seam-drop}
use Rattle.rope_leaf.proofs.NodeLaws.{joined_parts, joined_more}
use Rattle.rope_tree.proofs.BuildLaws.{nodes_le}
use Rattle.rope_leaf.proofs.TreeLaws.{breaks_of_is}
use Rattle.rope_text.specs.Edit.{inserted}
use Rattle.rope_leaf.proofs.InsertLaws.{seam_ends, seam_begins, text_of}
use Rattle.rope_leaf.proofs.InsertTrees.{inserted_is, byte_len-inserted}
use Rattle.rope_join.specs.Cut.{SparesFirst, SparesLast, IsSides}
use Rattle.rope_join.specs.Put.{CanPut, CanPutAtEnd, IsPut, leaves_before, leaves_after}
use Rattle.rope_leaf.specs.Siblings.{gathered}
use Rattle.rope_tree.proofs.Gathered.{is_gathered}
use Rattle.rope_join.specs.Join.{IsJoin}
use Rattle.rope_join.proofs.Cuts.{some_list, CutsAt, spares_first_of, spares_last_of, front_text, back_text}
use Rattle.rope_join.proofs.Seams.{left_le, join_text}

-- a child doesn't depend on the default for an index past the end
pub same_child : (ts : List Tree) (i : ℕ) (d e : Tree) → i < length ts
    → get_or ts i d ≡ get_or ts i e
same_child [] i d e lt = absurd (omega arith)
same_child (t ∷ ts) zero d e lt = refl
same_child (t ∷ ts) (suc i) d e lt = same_child ts i d e (omega arith)

-- the child that contains an index isn't before the one that contains a smaller index
pub in_order : (ts : List Tree) (i j start end to : ℕ) (b : Tree) → i ≤ length ts → j < length ts
    → get_or ts j b ≡ b → length (joined (take i ts)) ≤ start → start < end
    → end ≡ length (joined (take j ts)) + to → to ≤ length (text b) → i < j + 1
in_order ts i j start end to b li lj here from less at le = elim (cases_lt i (j + 1)) [
  | inl l ↦ l
  | inr ge ↦
      let more = ap length (joined_more ts j b lj ∙ ap (λ t. joined (take j ts) ++ text t) here)
      ∙ length-append (joined (take j ts)) (text b) in
      let parts = ap length (joined_parts (take i ts) (j + 1))
      ∙ length-append (joined (take (j + 1) (take i ts))) (joined (drop (j + 1) (take i ts))) in
      let same = ap (λ us. length (joined us)) (take-take (j + 1) i ts ge) in
      absurd (omega (arith, more, parts, same, from, less, at, le))
]

module _ (n : Tree) (ts : List Tree) (i j from to start end : ℕ) (a b : Tree)
    (s : CutsAt n (take i ts) a (drop (i + 1) ts)) (t : CutsAt n (take j ts) b (drop (j + 1) ts))
    (at_start : start ≡ length (joined (take i ts)) + from)
    (at_end : end ≡ length (joined (take j ts)) + to)
    (in_a : from ≤ length (text a)) (in_b : to ≤ length (text b)) (le : start ≤ end)
    (whole : IsTree n) where
  front : take start (text n) ≡ joined (take i ts) ++ take from (text a)
  front = front_text n (take i ts) a (drop (i + 1) ts) s start from a at_start in_a

  rear : drop end (text n) ≡ drop to (text b) ++ joined (drop (j + 1) ts)
  rear = back_text n (take j ts) b (drop (j + 1) ts) t end to b at_end in_b

  sizes : byte_len (joined (take i ts)) + byte_len (take from (text a))
      + (byte_len (drop to (text b)) + byte_len (joined (drop (j + 1) ts))) < 2 ^ 63
  sizes = omega (
    arith,
    whole.fits,
    left_le (text n) start end le,
    ap byte_len front,
    ap byte_len rear,
    IsMeasure-byte_len.joined (joined (take i ts)) (take from (text a)),
    IsMeasure-byte_len.joined (drop to (text b)) (joined (drop (j + 1) ts)),
  )

  pub part_fits : byte_len (take from (text a)) + byte_len (drop to (text b)) < 2 ^ 63
  part_fits = omega (arith, sizes)

  pub part_seam : IsSeam (take start (text n)) (drop end (text n))
      → IsSeam (take from (text a)) (drop to (text b))
  part_seam seam =
      seam_of_right (joined (take i ts)) (take from (text a)) (drop to (text b))
      (seam_of_left (joined (take i ts) ++ take from (text a)) (drop to (text b))
      (joined (drop (j + 1) ts)) (rw (front, rear) at seam))

  module _ (part : Tree) (c : AreChildren (breaks_of ts) (height_of ts) ts) (is : n ≡ tree_over ts)
      (sides : IsSides a from b to part) where
    texts : concat (leaves_after ts (j + 1) part) ≡ take from (text a)
        ++ (drop to (text b) ++ joined (drop (j + 1) ts))
    texts = concat-append part.leaves (leaves_of (drop (j + 1) ts))
        ∙ ap (λ x. x ++ joined (drop (j + 1) ts)) sides.text_is
        ∙ append_assoc (take from (text a)) (drop to (text b)) (joined (drop (j + 1) ts))

    same_breaks : part.breaks ≡ breaks_of ts
    same_breaks = sides.same_breaks ∙ s.same_breaks ∙ ap (λ u. u.breaks) is

    -- the neighbours that the outer leaves may have, if they are those of the children
    pub some_by : SparesFirst from a → 1 ≤ length part.leaves
    some_by spares =
        some_list part.leaves (omega (
          arith,
          spares.some,
          spares.past,
          length-take-le from (text a) in_a,
          ap length sides.text_is,
          length-append (take from (text a)) (drop to (text b)),
        ))

    pub near_by : SparesFirst from a
        → IsDenseAfter (last_bytes 492 (leaves_before ts i)) part.leaves
    near_by spares =
        let xs = leaves_of (take i ts) in
        sides.following spares (last_bytes 492 xs)
        (dense_left (last_bytes 492 xs) a.leaves (leaves_of (drop (i + 1) ts))
        (dense_right 492 xs (a.leaves ++ leaves_of (drop (i + 1) ts)) s.leaves.dense))

    own : AreLeaves (b.leaves ++ leaves_of (drop (j + 1) ts))
    own = leaves_right (leaves_of (take j ts)) (b.leaves ++ leaves_of (drop (j + 1) ts)) t.leaves

    pub next_by : SparesLast to b
        → IsDenseAfter (last_bytes 492 part.leaves) (leaves_of (drop (j + 1) ts))
    next_by spares =
        let ys = leaves_of (drop (j + 1) ts) in
        dense_more (last_bytes 492 b.leaves) (last_bytes 492 part.leaves) ys
        (sides.ahead spares 492 492) (leaves_near b.leaves ys own)

    module _ (seam : IsSeam (take start (text n)) (drop end (text n))) where
      ends_only : IsSeam (joined (take i ts) ++ take from (text a))
          (drop to (text b) ++ joined (drop (j + 1) ts))
      ends_only = rw (front, rear) at seam

      -- at the ends of a node
      pub can_put_at_end : i < j + 1 → j < length ts → (j + 1 < length ts → i ≡ 0)
          → (j + 1 ≡ length ts → 0 < i) → IsTree part → CanPutAtEnd ts i (j + 1) part
      can_put_at_end ordered within at_first at_last tree =
          let xs = leaves_of (take i ts) in
          let ys = joined (drop (j + 1) ts) in
          let begins : IsSeam (concat xs) (text a) =
          seam_of_left (concat xs) (text a) (concat (leaves_of (drop (i + 1) ts)))
          (subst (IsSeam (concat xs)) (concat-append a.leaves (leaves_of (drop (i + 1) ts)))
          (leaves_seam xs (a.leaves ++ leaves_of (drop (i + 1) ts)) s.leaves)) in
          let last : IsSeam (drop to (text b)) ys =
          seam-drop to (text b) ys (leaves_seam b.leaves (leaves_of (drop (j + 1) ts)) own) in
          record {
            ordered = ordered;
            within = omega (arith, within);
            at_start = at_first;
            at_end = at_last;
            tree = tree;
            same_breaks = same_breaks;
            not_higher = omega (arith, sides.not_higher, s.above, t.above, ap (λ u. u.height) is);
            seam_before =
                rw sides.text_is (seam_right_longer (concat xs) (take from (text a))
                (drop to (text b)) (seam-take from (concat xs) (text a) begins)
                (seam_of_left (concat xs ++ take from (text a)) (drop to (text b)) ys ends_only));
            seam_after =
                rw sides.text_is (seam_left_longer (take from (text a)) (drop to (text b)) ys
                (seam_of_right (concat xs) (take from (text a)) (drop to (text b) ++ ys) ends_only)
                last);
            fits = omega (
              arith,
              sizes,
              ap byte_len sides.text_is,
              IsMeasure-byte_len.joined (take from (text a)) (drop to (text b)),
            );
          }

    pub first_sides : (r : Tree) → i ≡ 0 → j + 1 < length ts
        → (gathered (drop (j + 1) ts)).height ≤ height_of ts + 1
        → IsJoin part (gathered (drop (j + 1) ts)) r → IsSides n start n end r
    first_sides r none more low joined_is =
        let ys = leaves_of (drop (j + 1) ts) in
        let rest = a.leaves ++ leaves_of (drop (i + 1) ts) in
        let some_ys : 1 ≤ length ys =
        omega (
          arith,
          nodes_le b.breaks b.height (drop (j + 1) ts) t.after,
          length-drop (j + 1) ts,
          more,
        ) in
        let g = is_gathered (drop (j + 1) ts) (omega (arith, length-drop (j + 1) ts, more)) in
        let no_leaves : leaves_of (take i ts) ≡ [] = ap (λ k. leaves_of (take k ts)) none in
        let leaves_are : n.leaves ≡ rest = s.leaves_is ∙ ap (λ ls. ls ++ rest) no_leaves in
        let whole_front : take start (text n) ≡ take from (text a) = front
        ∙ ap (λ ls. concat ls ++ take from (text a)) no_leaves in
        let spared : SparesFirst start n → SparesFirst from a =
        spares_first_of from start n a (leaves_of (drop (i + 1) ts)) leaves_are s.some
        (omega (arith, at_start, ap (λ ls. length (concat ls)) no_leaves)) in
        record {
          text_is = join_text part (gathered (drop (j + 1) ts)) r joined_is
              ∙ ap₂ (λ x y. x ++ concat y) sides.text_is g.leaves
              ∙ append_assoc (take from (text a)) (drop to (text b)) (concat ys)
              ∙ ap₂ (λ x y. x ++ y) (sym whole_front) (sym rear);
          same_breaks = joined_is.same_breaks ∙ same_breaks ∙ sym (ap (λ u. u.breaks) is);
          leaves = joined_is.recuts.leaves;
          not_higher =
              omega (
                arith,
                joined_is.most,
                low,
                sides.not_higher,
                s.above,
                t.above,
                ap (λ u. u.height) is,
              );
          following =
              λ spares m dense. joined_is.recuts.following (some_by (spared spares)) m
              (sides.following (spared spares) m
              (dense_left m a.leaves (leaves_of (drop (i + 1) ts))
              (subst (IsDenseAfter m) leaves_are dense)));
          ahead = λ _ m k.
              let front_leaves = leaves_of (take j ts) in
              let old : last_bytes m n.leaves ≡ last_bytes 0 ys =
              ap (last_bytes m) t.leaves_is ∙ last_bytes-append m front_leaves (b.leaves ++ ys)
              ∙ last_bytes-append (last_bytes m front_leaves) b.leaves ys
              ∙ last_bytes-some (last_bytes (last_bytes m front_leaves) b.leaves) 0 ys some_ys in
              omega (
                arith,
                old,
                joined_is.recuts.last (rw g.leaves some_ys) 0 k,
                ap (last_bytes 0) g.leaves,
              );
        }

    pub last_sides : (r : Tree) → 0 < i → i ≤ length ts → j + 1 ≡ length ts
        → (gathered (take i ts)).height ≤ height_of ts + 1 → IsJoin (gathered (take i ts)) part r
        → IsSides n start n end r
    last_sides r more le all low joined_is =
        let xs = leaves_of (take i ts) in
        let front_leaves = leaves_of (take j ts) in
        let some_xs : 1 ≤ length xs =
        omega (
          arith,
          nodes_le a.breaks a.height (take i ts) s.before,
          length-take-le i ts le,
          more,
        ) in
        let g = is_gathered (take i ts) (omega (arith, length-take-le i ts le, more)) in
        let none : drop (j + 1) ts ≡ [] = drop_all (j + 1) ts (omega (arith, all)) in
        let leaves_are : n.leaves ≡ front_leaves ++ b.leaves = t.leaves_is
        ∙ ap (λ us. front_leaves ++ (b.leaves ++ leaves_of us)) none
        ∙ ap (λ ls. front_leaves ++ ls) (append-nil b.leaves) in
        let whole_rear : drop end (text n) ≡ drop to (text b) = rear
        ∙ ap (λ us. drop to (text b) ++ joined us) none ∙ append-nil (drop to (text b)) in
        let lengths = ap length t.text_is
        ∙ length-append (joined (take j ts)) (text b ++ joined (drop (j + 1) ts)) in
        let no_rest : length (text b ++ joined (drop (j + 1) ts)) ≡ length (text b) =
        ap (λ us. length (text b ++ joined us)) none ∙ ap length (append-nil (text b)) in
        let spared : SparesLast end n → SparesLast to b =
        spares_last_of to end n b front_leaves leaves_are t.some
        (omega (arith, at_end, lengths, no_rest)) in
        record {
          text_is = join_text (gathered (take i ts)) part r joined_is
              ∙ ap₂ (λ x y. concat x ++ y) g.leaves sides.text_is
              ∙ sym (append_assoc (concat xs) (take from (text a)) (drop to (text b)))
              ∙ ap₂ (λ x y. x ++ y) (sym front) (sym whole_rear);
          same_breaks = joined_is.same_breaks ∙ g.same_breaks ∙ first_breaks_of
              ∙ sym (ap (λ u. u.breaks) is);
          leaves = joined_is.recuts.leaves;
          not_higher =
              omega (
                arith,
                joined_is.most,
                low,
                sides.not_higher,
                s.above,
                t.above,
                ap (λ u. u.height) is,
              );
          following =
              λ _ m dense. joined_is.recuts.following (rw g.leaves some_xs) m
              (rw g.leaves (dense_left m xs (a.leaves ++ leaves_of (drop (i + 1) ts))
              (subst (IsDenseAfter m) s.leaves_is dense)));
          ahead = λ spares m k.
              let last = sides.ahead (spared spares) (last_bytes m front_leaves) 0 in
              let old : last_bytes m n.leaves ≡ last_bytes (last_bytes m front_leaves) b.leaves =
              ap (last_bytes m) leaves_are ∙ last_bytes-append m front_leaves b.leaves in
              omega (arith, old, last, joined_is.recuts.last (some_after (spared spares)) 0 k);
        }
      where
        first_breaks_of : breaks_of (take i ts) ≡ breaks_of ts
        first_breaks_of =
            breaks_of_is (breaks_of ts) (height_of ts) (take i ts)
            (omega (arith, length-take-le i ts le, more))
            (all_left (IsChild (breaks_of ts) (height_of ts)) (take i ts) (drop i ts)
            (rw take-append-drop c.each))

        some_after : SparesLast to b → 1 ≤ length part.leaves
        some_after spares =
            some_list part.leaves (omega (
              arith,
              spares.some,
              spares.before,
              length-drop to (text b),
              ap length sides.text_is,
              length-append (take from (text a)) (drop to (text b)),
            ))

    module _ (seam : IsSeam (take start (text n)) (drop end (text n)))
        (next : IsDenseAfter (last_bytes 492 part.leaves) (leaves_of (drop (j + 1) ts))) where
      ends : IsSeam (joined (take i ts) ++ take from (text a))
          (drop to (text b) ++ joined (drop (j + 1) ts))
      ends = rw (front, rear) at seam

      after_part : AreLeaves (leaves_after ts (j + 1) part)
      after_part =
          let ys = leaves_of (drop (j + 1) ts) in
          let last : IsSeam (drop to (text b)) (concat ys) =
          seam-drop to (text b) (concat ys) (leaves_seam b.leaves ys own) in
          let whole_seam : IsSeam (text part) (concat ys) =
          rw sides.text_is (seam_left_longer (take from (text a)) (drop to (text b)) (concat ys)
          (seam_of_right (joined (take i ts)) (take from (text a)) (drop to (text b) ++ concat ys)
          ends) last) in
          leaves-append part.leaves ys sides.leaves (leaves_right b.leaves ys own) whole_seam
          (dense-append 492 part.leaves ys sides.leaves.dense next)

      pub can_put : 0 < i → i < j + 1 → j + 1 < length ts → IsTree part → 1 ≤ length part.leaves
          → IsDenseAfter (last_bytes 492 (leaves_before ts i)) part.leaves
          → CanPut ts i (j + 1) part
      can_put some ordered more tree some_part near =
          let xs = leaves_of (take i ts) in
          let begins : IsSeam (concat xs) (text a) =
          seam_of_left (concat xs) (text a) (concat (leaves_of (drop (i + 1) ts)))
          (subst (IsSeam (concat xs)) (concat-append a.leaves (leaves_of (drop (i + 1) ts)))
          (leaves_seam xs (a.leaves ++ leaves_of (drop (i + 1) ts)) s.leaves)) in
          record {
            some_before = omega (arith, some);
            ordered = ordered;
            some_after = more;
            tree = tree;
            some = some_part;
            same_breaks = same_breaks;
            not_higher = omega (arith, sides.not_higher, s.above, t.above, ap (λ u. u.height) is);
            following = after_part;
            seam = rw texts (seam_right_longer (concat xs) (take from (text a))
                (drop to (text b) ++ joined (drop (j + 1) ts))
                (seam-take from (concat xs) (text a) begins) ends);
            near = near;
            fits = omega (
              arith,
              sizes,
              ap byte_len texts,
              IsMeasure-byte_len.joined (take from (text a))
                  (drop to (text b) ++ joined (drop (j + 1) ts)),
              IsMeasure-byte_len.joined (drop to (text b)) (joined (drop (j + 1) ts)),
            );
          }

    pub put_sides : (r : Tree) → 0 < i → i < j + 1 → j + 1 < length ts → IsPut ts i (j + 1) part r
        → IsSides n start n end r
    put_sides r some ordered more p =
        let xs = leaves_of (take i ts) in
        let ys = leaves_of (drop (j + 1) ts) in
        let some_xs : 1 ≤ length xs =
        omega (
          arith,
          nodes_le a.breaks a.height (take i ts) s.before,
          length-take-le i ts (omega (arith, ordered, more)),
        ) in
        let some_ys : 1 ≤ length ys =
        omega (
          arith,
          nodes_le b.breaks b.height (drop (j + 1) ts) t.after,
          length-drop (j + 1) ts,
          more,
        ) in
        record {
          text_is = p.recuts.same_text ∙ concat-append xs (leaves_after ts (j + 1) part)
              ∙ ap (λ z. concat xs ++ z) texts
              ∙ sym (append_assoc (joined (take i ts)) (take from (text a))
              (drop to (text b) ++ joined (drop (j + 1) ts)))
              ∙ ap₂ (λ x y. x ++ y) (sym front) (sym rear);
          same_breaks = p.same_breaks ∙ sym (ap (λ u. u.breaks) is);
          leaves = p.recuts.leaves;
          not_higher = omega (arith, p.not_higher, ap (λ u. u.height) is);
          following =
              λ _ m dense. p.recuts.following some_xs m
              (dense_left m xs (a.leaves ++ leaves_of (drop (i + 1) ts))
              (subst (IsDenseAfter m) s.leaves_is dense));
          ahead = λ _ m k.
              let front_leaves = leaves_of (take j ts) in
              let old : last_bytes m n.leaves ≡ last_bytes (last_bytes 0 part.leaves) ys =
              ap (last_bytes m) t.leaves_is ∙ last_bytes-append m front_leaves (b.leaves ++ ys)
              ∙ last_bytes-append (last_bytes m front_leaves) b.leaves ys
              ∙ last_bytes-some (last_bytes (last_bytes m front_leaves) b.leaves)
              (last_bytes 0 part.leaves) ys some_ys in
              let new = p.recuts.last (omega (arith, some_ys, length-append part.leaves ys)) 0 k in
              omega (arith, old, last_bytes-append 0 part.leaves ys, new);
        }

-- a child with a text inserted into it, in its own place
module _ (n : Tree) (ts : List Tree) (k i at : ℕ) (a : Tree) (new : List ℕ) (part : Tree)
    (s : CutsAt n (take k ts) a (drop (k + 1) ts)) (place : at ≡ length (joined (take k ts)) + i)
    (inside : 0 < i) (more : i < length (text a))
    (fits : byte_len (text n) + byte_len new < 2 ^ 63)
    (c : AreChildren (breaks_of ts) (height_of ts) ts) (is : n ≡ tree_over ts)
    (text_is : text part ≡ inserted (text a) i new) (own_breaks : part.breaks ≡ a.breaks)
    (tree : IsTree part) where
  longer : text part ≡ take i (text a) ++ (new ++ drop i (text a))
  longer = text_is ∙ inserted_is (text a) i new

  last_is : text part ≡ (take i (text a) ++ new) ++ drop i (text a)
  last_is = longer ∙ sym (append_assoc (take i (text a)) new (drop i (text a)))

  pub inserted_some : 1 ≤ length part.leaves
  inserted_some =
      some_list part.leaves (omega (
        arith,
        ap length longer,
        length-append (take i (text a)) (new ++ drop i (text a)),
        length-take-le i (text a) (omega (arith, more)),
        inside,
      ))

  inserted_texts : concat (leaves_after ts (k + 1) part) ≡ text part ++ joined (drop (k + 1) ts)
  inserted_texts = concat-append part.leaves (leaves_of (drop (k + 1) ts))

  inserted_after : IsDenseAfter (last_bytes 492 part.leaves) (leaves_of (drop (k + 1) ts))
      → AreLeaves (leaves_after ts (k + 1) part)
  inserted_after next =
      let ys = leaves_of (drop (k + 1) ts) in
      let right : AreLeaves (a.leaves ++ ys) =
      leaves_right (leaves_of (take k ts)) (a.leaves ++ ys) s.leaves in
      let last : IsSeam (drop i (text a)) (concat ys) =
      seam-drop i (text a) (concat ys) (leaves_seam a.leaves ys right) in
      let seam : IsSeam (text part) (concat ys) =
      rw last_is (seam_ends (take i (text a) ++ new) (drop i (text a)) (concat ys)
      (omega (arith, length-drop i (text a), more)) last) in
      leaves-append part.leaves ys tree.leaves (leaves_right a.leaves ys right) seam
      (dense-append 492 part.leaves ys tree.leaves.dense next)

  pub can_put_inserted : 0 < k → k + 1 < length ts → part.height ≤ a.height + 1
      → IsDenseAfter (last_bytes 492 (leaves_before ts k)) part.leaves
      → IsDenseAfter (last_bytes 492 part.leaves) (leaves_of (drop (k + 1) ts))
      → CanPut ts k (k + 1) part
  can_put_inserted some following low near next =
      let xs = leaves_of (take k ts) in
      let ys = joined (drop (k + 1) ts) in
      let begins : IsSeam (concat xs) (text a) =
      seam_of_left (concat xs) (text a) ys
      (subst (IsSeam (concat xs)) (concat-append a.leaves (leaves_of (drop (k + 1) ts)))
      (leaves_seam xs (a.leaves ++ leaves_of (drop (k + 1) ts)) s.leaves)) in
      let whole : concat (leaves_after ts (k + 1) part) ≡ take i (text a)
      ++ ((new ++ drop i (text a)) ++ ys) =
      inserted_texts ∙ ap (λ z. z ++ ys) longer
      ∙ append_assoc (take i (text a)) (new ++ drop i (text a)) ys in
      record {
        some_before = omega (arith, some);
        ordered = omega arith;
        some_after = following;
        tree = tree;
        some = inserted_some;
        same_breaks = own_breaks ∙ s.same_breaks ∙ ap (λ u. u.breaks) is;
        not_higher = omega (arith, low, s.above, ap (λ u. u.height) is);
        following = inserted_after next;
        seam = rw whole (seam_begins (concat xs) (take i (text a)) ((new ++ drop i (text a)) ++ ys)
            (omega (arith, length-take-le i (text a) (omega (arith, more)), inside))
            (seam-take i (concat xs) (text a) begins));
        near = near;
        fits = omega (
          arith,
          fits,
          ap byte_len s.text_is,
          IsMeasure-byte_len.joined (joined (take k ts)) (text a ++ ys),
          IsMeasure-byte_len.joined (text a) ys,
          ap byte_len inserted_texts,
          IsMeasure-byte_len.joined (text part) ys,
          ap byte_len text_is,
          byte_len-inserted (text a) i new,
        );
      }

  -- the text before it and after it
  start_text : take (at - i) (text n) ≡ joined (take k ts)
  start_text =
      front_text n (take k ts) a (drop (k + 1) ts) s (at - i) 0 a (omega (arith, place))
      (omega arith) ∙ append-nil (joined (take k ts))

  end_text : (end : ℕ) → end ≡ length (joined (take k ts)) + length (text a)
      → drop end (text n) ≡ joined (drop (k + 1) ts)
  end_text end e =
      back_text n (take k ts) a (drop (k + 1) ts) s end (length (text a)) a e (omega arith)
      ∙ ap (λ z. z ++ joined (drop (k + 1) ts)) (drop_all (length (text a)) (text a) (omega arith))

  pub inserted_chars : 1 ≤ length (text part)
  inserted_chars =
      omega (
        arith,
        ap length longer,
        length-append (take i (text a)) (new ++ drop i (text a)),
        length-take-le i (text a) (omega (arith, more)),
        inside,
      )

  pub before_inserted : IsSeam (take (at - i) (text n)) (text part)
  before_inserted =
      let xs = leaves_of (take k ts) in
      let ys = joined (drop (k + 1) ts) in
      let begins : IsSeam (concat xs) (text a) =
      seam_of_left (concat xs) (text a) ys
      (subst (IsSeam (concat xs)) (concat-append a.leaves (leaves_of (drop (k + 1) ts)))
      (leaves_seam xs (a.leaves ++ leaves_of (drop (k + 1) ts)) s.leaves)) in
      rw (start_text, longer) (seam_begins (concat xs) (take i (text a)) (new ++ drop i (text a))
      (omega (arith, length-take-le i (text a) (omega (arith, more)), inside))
      (seam-take i (concat xs) (text a) begins))

  pub after_inserted : (end : ℕ) → end ≡ length (joined (take k ts)) + length (text a)
      → IsSeam (text part) (drop end (text n))
  after_inserted end e =
      let ys = leaves_of (drop (k + 1) ts) in
      let right : AreLeaves (a.leaves ++ ys) =
      leaves_right (leaves_of (take k ts)) (a.leaves ++ ys) s.leaves in
      let last : IsSeam (drop i (text a)) (concat ys) =
      seam-drop i (text a) (concat ys) (leaves_seam a.leaves ys right) in
      rw (end_text end e, last_is)
      (seam_ends (take i (text a) ++ new) (drop i (text a)) (concat ys)
      (omega (arith, length-drop i (text a), more)) last)

  pub inserted_fits : (end : ℕ) → end ≡ length (joined (take k ts)) + length (text a)
      → byte_len (take (at - i) (text n)) + (byte_len (text part) + byte_len (drop end (text n)))
      < 2 ^ 63
  inserted_fits end e = omega (
    arith,
    fits,
    ap byte_len start_text,
    ap byte_len (end_text end e),
    ap byte_len s.text_is,
    IsMeasure-byte_len.joined (joined (take k ts)) (text a ++ joined (drop (k + 1) ts)),
    IsMeasure-byte_len.joined (text a) (joined (drop (k + 1) ts)),
    ap byte_len text_is,
    byte_len-inserted (text a) i new,
  )

  whole_text : joined (take k ts) ++ (text part ++ joined (drop (k + 1) ts))
      ≡ inserted (text n) at new
  whole_text =
      let xs = joined (take k ts) in
      let ys = joined (drop (k + 1) ts) in
      ap (λ z. xs ++ (z ++ ys)) longer ∙ text_of xs (text a) ys new i at place (omega (arith, more))
      ∙ ap (λ z. take at z ++ (new ++ drop at z)) (sym s.text_is)
      ∙ sym (inserted_is (text n) at new)

  pub end_within : (end : ℕ) → end ≡ length (joined (take k ts)) + length (text a)
      → end ≤ length (text n)
  end_within end e =
      omega (
        arith,
        e,
        ap length s.text_is,
        length-append (joined (take k ts))
            (text a ++ joined (drop (k + 1) ts)),
        length-append (text a) (joined (drop (k + 1) ts)),
      )

  pub around_inserted : (end : ℕ) (r : Tree) → end ≡ length (joined (take k ts)) + length (text a)
      → text r ≡ take (at - i) (text n) ++ (text part ++ drop end (text n))
      → text r ≡ inserted (text n) at new
  around_inserted end r e is' = is' ∙ ap₂ (λ x y. x ++ (text part ++ y)) start_text (end_text end e)
      ∙ whole_text

  pub put_inserted : (r : Tree) → IsPut ts k (k + 1) part r → text r ≡ inserted (text n) at new
  put_inserted r p =
      p.recuts.same_text ∙ concat-append (leaves_of (take k ts)) (leaves_after ts (k + 1) part)
      ∙ ap (λ z. joined (take k ts) ++ z) inserted_texts ∙ whole_text
