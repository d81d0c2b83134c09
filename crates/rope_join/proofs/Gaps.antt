-- The first and the last of a tree's leaves, and two joined sides.
use Rattle.std.proofs.Common.{◌≡◌, ℕ, ◌+◌, ◌<◌, ◌≤◌, inl, inr, List, [], ◌∷◌, ◌++◌, length, take, drop, get_or, sym, ap, ap₂, subst, ◌∙◌, arith}
use Rattle.std.specs.List.{concat, All}
use Rattle.std.proofs.lemmas.Bool.{cases_lt}
use Rattle.std.proofs.lemmas.List.{length-append, take-append-drop, length-take-le, length-drop}
use Rattle.std.proofs.lemmas.List.Elements.{All-head, All-tail}
use Rattle.rope_text.proofs.CuttingLaws.{concat-append}
use Rattle.rope_text.specs.Text.{byte_len}
use Rattle.rope_text.specs.Dense.{IsDenseAfter, last_bytes}
use Rattle.rope_text.proofs.DenseLaws.{last_bytes-append, last_bytes-some, dense-append, dense_right}
use Rattle.rope_leaf.specs.Leaves.{AreLeaves, IsLeafText}
use Rattle.rope_leaf.specs.Tree.{Tree, text, leaves_of, height_of, breaks_of, tree_over, IsChild, AreChildren}
use Rattle.rope_leaf.proofs.NodeLaws.{leaves_of-append, child_at}
use Rattle.rope_leaf.proofs.Descents.{leaves_at}
use Rattle.std.proofs.lemmas.List.{append-nil, drop_all, take_more, drop_more}
use Rattle.rope_leaf.proofs.LeafLaws.{all_left, all_right, leaves_right}
use Rattle.rope_tree.proofs.BuildLaws.{nodes_le}
use Rattle.rope_join.specs.Cut.{first_chars, last_chars, SparesFirst, SparesLast, IsFront, IsBack, IsSides}
use Rattle.rope_join.specs.Join.{IsJoin}
use Rattle.rope_join.proofs.Cuts.{some_list, first_chars-append, last_chars-append, last_chars-some}
use Rattle.rope_join.proofs.Seams.{join_text}

first_le : (ls : List (List ℕ)) → first_chars ls ≤ length (concat ls)
first_le [] = omega arith
first_le (l ∷ ls) = omega (arith, length-append l (concat ls))

last_le : (n : ℕ) (ls : List (List ℕ)) → 1 ≤ length ls → last_chars n ls ≤ length (concat ls)
last_le n [] some = absurd (omega arith)
last_le n (l ∷ []) some = omega (arith, length-append l [])
last_le n (l ∷ m ∷ ls) some =
    omega (arith, last_le (length l) (m ∷ ls) (omega arith), length-append l (concat (m ∷ ls)))

first_some : (ls : List (List ℕ)) → 1 ≤ length ls → All IsLeafText ls → 1 ≤ first_chars ls
first_some [] some each = absurd (omega arith)
first_some (l ∷ ls) some each = (All-head IsLeafText l ls each).some

last_some : (n : ℕ) (ls : List (List ℕ)) → 1 ≤ n → All IsLeafText ls → 1 ≤ last_chars n ls
last_some n [] some each = some
last_some n (l ∷ ls) some each =
    last_some (length l) ls (All-head IsLeafText l ls each).some (All-tail IsLeafText l ls each)

lone_first : (ls : List (List ℕ)) → 1 ≤ length ls → length ls ≤ 1
    → first_chars ls ≡ length (concat ls)
lone_first [] some one = absurd (omega arith)
lone_first (l ∷ []) some one = omega (arith, length-append l [])
lone_first (l ∷ m ∷ ls) some one = absurd (omega arith)

lone_last : (ls : List (List ℕ)) → 1 ≤ length ls → length ls ≤ 1
    → last_chars 0 ls ≡ length (concat ls)
lone_last [] some one = absurd (omega arith)
lone_last (l ∷ []) some one = omega (arith, length-append l [])
lone_last (l ∷ m ∷ ls) some one = absurd (omega arith)

-- the leaves below the first children and those after them
module _ (n : Tree) (ts : List Tree) (k at : ℕ) (is : n ≡ tree_over ts)
    (a : AreChildren (breaks_of ts) (height_of ts) ts) where
  parts : n.leaves ≡ leaves_of (take k ts) ++ leaves_of (drop k ts)
  parts = ap (λ t. t.leaves) is ∙ ap leaves_of (sym (take-append-drop k ts))
      ∙ leaves_of-append (take k ts) (drop k ts)

  each : All IsLeafText (leaves_of (take k ts) ++ leaves_of (drop k ts))
  each = subst (All IsLeafText) (sym (ap (λ t. t.leaves) is) ∙ parts) a.leaves.each

  pub spares_first_at : 1 ≤ k → k ≤ length ts → length (concat (leaves_of (take k ts))) ≤ at
      → SparesFirst at n
  spares_first_at some le less =
      let nodes =
      nodes_le (breaks_of ts) (height_of ts) (take k ts)
      (all_left (IsChild (breaks_of ts) (height_of ts)) (take k ts) (drop k ts)
      (rw take-append-drop a.each)) in
      let more : 1 ≤ length (leaves_of (take k ts)) =
      omega (arith, nodes, length-take-le k ts le) in
      let first = ap first_chars parts
      ∙ first_chars-append (leaves_of (take k ts)) (leaves_of (drop k ts)) more in
      record {
        some = omega (
          arith,
          first,
          first_some (leaves_of (take k ts)) more
              (all_left IsLeafText (leaves_of (take k ts)) (leaves_of (drop k ts)) each),
        );
        past = omega (arith, first, first_le (leaves_of (take k ts)), less);
      }

  pub spares_last_at : k < length ts → at ≤ length (concat (leaves_of (take k ts)))
      → SparesLast at n
  spares_last_at less le =
      let nodes =
      nodes_le (breaks_of ts) (height_of ts) (drop k ts)
      (all_right (IsChild (breaks_of ts) (height_of ts)) (take k ts) (drop k ts)
      (rw take-append-drop a.each)) in
      let more : 1 ≤ length (leaves_of (drop k ts)) = omega (arith, nodes, length-drop k ts) in
      let last = ap (last_chars 0) parts
      ∙ last_chars-append 0 (leaves_of (take k ts)) (leaves_of (drop k ts))
      ∙ last_chars-some (last_chars 0 (leaves_of (take k ts))) 1 (leaves_of (drop k ts)) more in
      let whole = ap (λ ls. length (concat ls)) parts
      ∙ ap length (concat-append (leaves_of (take k ts)) (leaves_of (drop k ts)))
      ∙ length-append (concat (leaves_of (take k ts))) (concat (leaves_of (drop k ts))) in
      record {
        some = omega (
          arith,
          last,
          last_some 1 (leaves_of (drop k ts)) (omega arith)
              (all_right IsLeafText (leaves_of (take k ts)) (leaves_of (drop k ts)) each),
        );
        before = omega (arith, last, last_le 1 (leaves_of (drop k ts)) more, le, whole);
      }

  -- if the outer leaf of a child at an end is kept whole, so is that of the node
  pub first_child_spares : (t : Tree) → get_or ts 0 t ≡ t → SparesFirst at t → SparesFirst at n
  first_child_spares t here s =
      let whole =
      subst (λ u. leaves_of ts ≡ u.leaves ++ leaves_of (drop 1 ts)) here
      (leaves_at ts 0 t (omega (arith, a.at_least_two))) in
      let own =
      child_at (breaks_of ts) (height_of ts) ts 0 t a (omega (arith, a.at_least_two)) here in
      let first = ap (λ u. first_chars u.leaves) is ∙ ap first_chars whole
      ∙ first_chars-append t.leaves (leaves_of (drop 1 ts)) own.some in
      record { some = omega (arith, s.some, first); past = omega (arith, s.past, first) }

  pub first_child_cuts : (t : Tree) → get_or ts 0 t ≡ t
      → at < length (concat (leaves_of (take 1 ts))) → (1 ≤ t.height → at < first_chars t.leaves)
      → at < first_chars n.leaves
  first_child_cuts t here inside deeper =
      let some : 0 < length ts = omega (arith, a.at_least_two) in
      let whole =
      subst (λ u. leaves_of ts ≡ u.leaves ++ leaves_of (drop 1 ts)) here (leaves_at ts 0 t some) in
      let own = child_at (breaks_of ts) (height_of ts) ts 0 t a some here in
      let first = ap (λ u. first_chars u.leaves) is ∙ ap first_chars whole
      ∙ first_chars-append t.leaves (leaves_of (drop 1 ts)) own.some in
      let only : leaves_of (take 1 ts) ≡ t.leaves =
      ap leaves_of (take_more ts 0 t some ∙ ap (λ u. u ∷ []) here) ∙ append-nil t.leaves in
      elim (cases_lt 0 t.height) [
        | inl above ↦ omega (arith, first, deeper above)
        | inr flat ↦ omega (
          arith,
          first,
          lone_first t.leaves own.some
              (own.tree.lone (omega (arith, flat))),
          inside,
          ap (λ ls. length (concat ls)) only,
        )
      ]

  -- the last leaf is that of the last child
  last_child : (t : Tree) → k + 1 ≡ length ts → get_or ts k t ≡ t
      → (last_chars 0 n.leaves ≡ last_chars 0 t.leaves)
      × (length (text n) ≡ length (concat (leaves_of (take k ts))) + length (text t))
  last_child t e here =
      let whole =
      subst (λ u. leaves_of ts ≡ leaves_of (take k ts) ++ (u.leaves ++ leaves_of (drop (k + 1) ts)))
      here (leaves_at ts k t (omega (arith, e))) in
      let own = child_at (breaks_of ts) (height_of ts) ts k t a (omega (arith, e)) here in
      let none : drop (k + 1) ts ≡ [] = drop_all (k + 1) ts (omega (arith, e)) in
      let all : n.leaves ≡ leaves_of (take k ts) ++ t.leaves = ap (λ u. u.leaves) is ∙ whole
      ∙ ap (λ us. leaves_of (take k ts) ++ (t.leaves ++ leaves_of us)) none
      ∙ ap (λ ls. leaves_of (take k ts) ++ ls) (append-nil t.leaves) in
      let last = ap (last_chars 0) all ∙ last_chars-append 0 (leaves_of (take k ts)) t.leaves
      ∙ last_chars-some (last_chars 0 (leaves_of (take k ts))) 0 t.leaves own.some in (
        last,
        ap (λ ls. length (concat ls)) all
            ∙ ap length (concat-append (leaves_of (take k ts)) t.leaves)
            ∙ length-append (concat (leaves_of (take k ts))) (text t),
      )

  pub last_child_spares : (t : Tree) (i : ℕ) → k + 1 ≡ length ts → get_or ts k t ≡ t
      → at ≡ length (concat (leaves_of (take k ts))) + i → SparesLast i t → SparesLast at n
  last_child_spares t i e here place s =
      let l = last_child t e here in
      record {
        some = omega (arith, s.some, l.0);
        before = omega (arith, s.before, l.0, l.1, place);
      }

  pub last_child_cuts : (t : Tree) (i : ℕ) → k + 1 ≡ length ts → get_or ts k t ≡ t
      → at ≡ length (concat (leaves_of (take k ts))) + i → 1 ≤ i
      → (1 ≤ t.height → length (text t) < i + last_chars 0 t.leaves)
      → length (text n) < at + last_chars 0 n.leaves
  last_child_cuts t i e here place inside deeper =
      let l = last_child t e here in
      let own = child_at (breaks_of ts) (height_of ts) ts k t a (omega (arith, e)) here in
      elim (cases_lt 0 t.height) [
        | inl above ↦ omega (arith, l.0, l.1, place, deeper above)
        | inr flat ↦ omega (
          arith,
          l.0,
          l.1,
          place,
          inside,
          lone_last t.leaves own.some (own.tree.lone (omega (arith, flat))),
        )
      ]

  -- the neighbours of a tree that replaces children
  pub near_child : (t part : Tree) (m : ℕ) → k < length ts → get_or ts k t ≡ t
      → ((j : ℕ) → m ≡ last_bytes j t.leaves) → IsDenseAfter m part.leaves
      → IsDenseAfter (last_bytes 492 (leaves_of (take (k + 1) ts))) part.leaves
  near_child t part m lt here bytes dense =
      let parts_is : leaves_of (take (k + 1) ts) ≡ leaves_of (take k ts) ++ t.leaves =
      ap leaves_of (take_more ts k t lt ∙ ap (λ u. take k ts ++ u ∷ []) here)
      ∙ leaves_of-append (take k ts) (t ∷ [])
      ∙ ap (λ ls. leaves_of (take k ts) ++ ls) (append-nil t.leaves) in
      rw (
        parts_is,
        last_bytes-append 492 (leaves_of (take k ts)) t.leaves,
        ← bytes (last_bytes 492 (leaves_of (take k ts))),
      ) dense

  pub next_child : (t : Tree) (m : ℕ) → k < length ts → get_or ts k t ≡ t → IsDenseAfter m t.leaves
      → IsDenseAfter m (leaves_of (drop k ts))
  next_child t m lt here dense =
      let own = child_at (breaks_of ts) (height_of ts) ts k t a lt here in
      let rest : drop k ts ≡ t ∷ drop (k + 1) ts = drop_more ts k t lt
      ∙ ap (λ u. u ∷ drop (k + 1) ts) here in
      let following =
      leaves_right (leaves_of (take k ts)) (leaves_of (drop k ts))
      (subst AreLeaves (sym (ap (λ u. u.leaves) is) ∙ parts) a.leaves) in
      let more : AreLeaves (t.leaves ++ leaves_of (drop (k + 1) ts)) =
      subst (λ us. AreLeaves (leaves_of us)) rest following in
      subst (λ us. IsDenseAfter m (leaves_of us)) (sym rest)
      (dense-append m t.leaves (leaves_of (drop (k + 1) ts)) dense
      (rw (last_bytes-some m 492 t.leaves own.some)
      (dense_right 492 t.leaves (leaves_of (drop (k + 1) ts)) more.dense)))

leaves_by_bytes : (ls : List (List ℕ)) → 1 ≤ byte_len (concat ls) → 1 ≤ length ls
leaves_by_bytes [] some = absurd (omega arith)
leaves_by_bytes (l ∷ ls) some = omega arith

-- a tree with a byte has a leaf
pub leaf_by_bytes : (t : Tree) → 1 ≤ byte_len (text t) → 1 ≤ length t.leaves
leaf_by_bytes t some = leaves_by_bytes t.leaves some

some_by_first : (l part : Tree) (at : ℕ) → at ≤ length (text l) → SparesFirst at l
    → text part ≡ take at (text l) → 1 ≤ length part.leaves
some_by_first l part at le s e =
    some_list part.leaves (omega (
      arith,
      s.some,
      s.past,
      ap length e,
      length-take-le at (text l) le,
    ))

some_by_last : (l part : Tree) (at : ℕ) → SparesLast at l → text part ≡ drop at (text l)
    → 1 ≤ length part.leaves
some_by_last l part at s e =
    some_list part.leaves (omega (arith, s.some, s.before, ap length e, length-drop at (text l)))

-- a front and a back, joined
pub sides_joined : (left right first second node : Tree) (end start : ℕ) → end ≤ length (text left)
    → IsFront end left first → IsBack start right second → IsJoin first second node
    → IsSides left end right start node
sides_joined left right first second node end start le f b j = record {
  text_is = join_text first second node j ∙ ap₂ (λ x y. x ++ y) f.text_is b.text_is;
  same_breaks = j.same_breaks ∙ f.same_breaks;
  leaves = j.recuts.leaves;
  not_higher = omega (arith, j.most, f.not_higher, b.not_higher);
  following =
      λ s n dense. j.recuts.following (some_by_first left first end le s f.text_is) n
      (f.following s n dense);
  ahead = λ s m n. omega (
    arith,
    b.ahead s m 0,
    j.recuts.last (some_by_last right second start s b.text_is) 0 n,
  );
}
