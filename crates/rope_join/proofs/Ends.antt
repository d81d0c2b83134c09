-- A tree in place of the first children of a node, or of the last.
use Rattle.std.proofs.Common.{ℕ, ◌+◌, ◌<◌, ◌≤◌, List, ◌++◌, length, take, drop, sym, ap, ◌∙◌, arith}
use Rattle.std.specs.List.{concat, All}
use Rattle.std.proofs.lemmas.List.{take-append-drop, length-take-le, length-drop}
use Rattle.std.proofs.lemmas.List.Elements.{All-take, All-drop}
use Rattle.rope_text.specs.Text.{byte_len}
use Rattle.rope_leaf.specs.Tree.{Tree, height_of, breaks_of, IsChild, AreChildren}
use Rattle.rope_leaf.specs.Siblings.{AreSiblings, gathered}
use Rattle.rope_leaf.proofs.NodeLaws.{children_of_first}
use Rattle.rope_leaf.proofs.SiblingLaws.{siblings_left, siblings_right, children_of}
use Rattle.rope_tree.proofs.Gathered.{is_gathered}
use Rattle.rope_join.specs.Join.{CanJoin}
use Rattle.rope_join.specs.Put.{CanPutAtEnd}
use Rattle.rope_join.proofs.Cuts.{gathered_set, gathered_most}

module _ (ts : List Tree) (a : AreChildren (breaks_of ts) (height_of ts) ts) where
  whole : (k : ℕ) → AreSiblings (breaks_of ts) (height_of ts) (take k ts ++ drop k ts)
  whole k = rw take-append-drop (record { each = a.each; leaves = a.leaves; fits = a.fits })

  pub family_before : (k : ℕ) → k ≤ length ts → 2 ≤ length (take k ts)
      → AreChildren (breaks_of (take k ts)) (height_of (take k ts)) (take k ts)
  family_before k le two =
      children_of_first (breaks_of ts) (height_of ts) (take k ts)
      (children_of (breaks_of ts) (height_of ts) (take k ts)
      (siblings_left (breaks_of ts) (height_of ts) (take k ts) (drop k ts) (whole k)) two
      (omega (arith, a.at_most_24, length-take-le k ts le)))

  pub family_after : (k : ℕ) → 2 ≤ length (drop k ts)
      → AreChildren (breaks_of (drop k ts)) (height_of (drop k ts)) (drop k ts)
  family_after k two =
      children_of_first (breaks_of ts) (height_of ts) (drop k ts)
      (children_of (breaks_of ts) (height_of ts) (drop k ts)
      (siblings_right (breaks_of ts) (height_of ts) (take k ts) (drop k ts) (whole k)) two
      (omega (arith, a.at_most_24, length-drop k ts)))

  each_after : (k : ℕ) → All (IsChild (breaks_of ts) (height_of ts)) (drop k ts)
  each_after k = All-drop (IsChild (breaks_of ts) (height_of ts)) k ts a.each

  each_before : (k : ℕ) → All (IsChild (breaks_of ts) (height_of ts)) (take k ts)
  each_before k = All-take (IsChild (breaks_of ts) (height_of ts)) k ts a.each

  module _ (first past : ℕ) (part : Tree) (can : CanPutAtEnd ts first past part) where
    module _ (more : past < length ts) where
      some_after : 1 ≤ length (drop past ts)
      some_after = omega (arith, length-drop past ts, more)

      pub low_after : (gathered (drop past ts)).height ≤ height_of ts + 1
      low_after =
          gathered_most (breaks_of ts) (height_of ts) (drop past ts) (gathered (drop past ts))
          (each_after past) some_after (is_gathered (drop past ts) some_after)

      pub join_after : CanJoin part (gathered (drop past ts))
      join_after =
          let g = is_gathered (drop past ts) some_after in
          record {
            same_breaks =
                gathered_set (breaks_of ts) (height_of ts) (drop past ts) (gathered (drop past ts))
                (each_after past) some_after g ∙ sym can.same_breaks;
            seam = rw g.leaves can.seam_after;
            fits = omega (arith, can.fits, ap (λ ls. byte_len (concat ls)) g.leaves);
          }

    module _ (more : 0 < first) where
      some_before : 1 ≤ length (take first ts)
      some_before =
          omega (arith, length-take-le first ts (omega (arith, can.ordered, can.within)), more)

      pub low_before : (gathered (take first ts)).height ≤ height_of ts + 1
      low_before =
          gathered_most (breaks_of ts) (height_of ts) (take first ts) (gathered (take first ts))
          (each_before first) some_before (is_gathered (take first ts) some_before)

      pub join_before : CanJoin (gathered (take first ts)) part
      join_before =
          let g = is_gathered (take first ts) some_before in
          record {
            same_breaks = can.same_breaks
                ∙ sym (gathered_set (breaks_of ts) (height_of ts) (take first ts)
                (gathered (take first ts)) (each_before first) some_before g);
            seam = rw g.leaves can.seam_before;
            fits = omega (arith, can.fits, ap (λ ls. byte_len (concat ls)) g.leaves);
          }
