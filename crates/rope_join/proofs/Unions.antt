-- Two trees as one tree or two of the greater height.
use Rattle.std.proofs.Common.{◌≡◌, ℕ, ◌+◌, ◌-◌, ◌^◌, ◌<◌, ◌≤◌, min, max, List, [], ◌∷◌, ◌++◌, length, take, drop, get_or, refl, sym, ap, subst, ◌∙◌, arith, inl, inr}
use Rattle.std.specs.List.{concat, All}
use Rattle.std.proofs.lemmas.List.{append-nil, length-append, take_more, take_all}
use Rattle.std.proofs.lemmas.Bool.{cases_lt}
use Rattle.std.proofs.lemmas.List.Elements.{All-nil, All-cons, All-head, All-tail, All-append, All-weaker}
use Rattle.rope_text.specs.declared.line_breaks.LineBreaks.{LineBreaks}
use Rattle.rope_text.specs.Text.{byte_len}
use Rattle.rope_text.proofs.Measures.{IsMeasure-byte_len}
use Rattle.rope_text.proofs.CuttingLaws.{concat-append}
use Rattle.rope_text.specs.Dense.{IsDenseAfter, last_bytes}
use Rattle.rope_text.proofs.DenseLaws.{last_bytes-append, last_bytes-some, dense_left}
use Rattle.rope_leaf.specs.Leaves.{AreLeaves, IsSeam, Recuts}
use Rattle.rope_leaf.specs.Tree.{Tree, text, joined, leaves_of, height_of, breaks_of, tree_over, leaf_tree, one_leaf, IsTree, IsWide, IsChild, AreChildren}
use Rattle.rope_leaf.specs.Siblings.{AreSiblings, AreParts}
use Rattle.rope_tree.proofs.PartLaws.{same_set}
use Rattle.rope_leaf.proofs.LeafLaws.{all_left, all_right, seam_of_left, seam_of_right, recuts_kept, recuts_left, recuts_right}
use Rattle.rope_leaf.proofs.StandLaws.{one_leaf_is}
use Rattle.rope_leaf.proofs.TreeLaws.{height_of_is, breaks_of_is, wide_weaker, wide_more}
use Rattle.rope_leaf.proofs.NodeLaws.{leaves_of-append}
use Rattle.rope_leaf.proofs.SiblingLaws.{byte_len-append}
use Rattle.rope_leaf.proofs.InsertLeaves.{wide_leaf, text_of_leaf}
use Rattle.rope_join.specs.Join.{CanJoin, EndsIn, BeginsIn, IsNear, IsUnion}

-- a union of two trees of equal height
equal_union : (a b : Tree) (ts : List Tree) → Recuts a.leaves b.leaves (leaves_of ts)
    → a.height ≡ b.height → AreParts a.breaks (max a.width b.width) (a.width + b.width) a.height ts
    → IsUnion a b ts
equal_union a b ts r e p = record {
  recuts = r;
  equal = λ _. p;
  higher = λ l. absurd (omega arith);
  lower = λ l. absurd (omega arith);
}

higher_union : (a b : Tree) (ts : List Tree) → Recuts a.leaves b.leaves (leaves_of ts)
    → b.height < a.height → AreParts a.breaks a.width (a.width + 1) a.height ts → IsUnion a b ts
higher_union a b ts r e p = record {
  recuts = r;
  equal = λ l. absurd (omega arith);
  higher = λ _. p;
  lower = λ l. absurd (omega arith);
}

lower_union : (a b : Tree) (ts : List Tree) → Recuts a.leaves b.leaves (leaves_of ts)
    → a.height < b.height → AreParts a.breaks b.width (b.width + 1) b.height ts → IsUnion a b ts
lower_union a b ts r e p = record {
  recuts = r;
  equal = λ l. absurd (omega arith);
  higher = λ l. absurd (omega arith);
  lower = λ _. p;
}

some_leaf : (l : List ℕ) → 1 ≤ length (one_leaf l) → 1 ≤ length l
some_leaf [] some = absurd (omega arith)
some_leaf (c ∷ cs) some = omega arith

-- two leaves as one
pub merged_leaves : (br : LineBreaks) (a b t : Tree) (l m new : List ℕ) → a ≡ leaf_tree br l
    → b ≡ leaf_tree br m → new ≡ l ++ m → t ≡ leaf_tree br new → IsTree t → 1 ≤ length a.leaves
    → 1 ≤ length b.leaves → IsUnion a b (t ∷ [])
merged_leaves br a b t l m new ea eb en et i some more =
    let n = max a.width b.width in
    let first : 1 ≤ length l = some_leaf l (rw ea at some) in
    let second : 1 ≤ length m = some_leaf m (rw eb at more) in
    let some_new : 1 ≤ length new = omega (arith, first, ap length en, length-append l m) in
    let low : a.height ≡ 0 = ap (λ x. x.height) ea in
    let w : IsWide br (min 12 n) 0 t = wide_leaf br (min 12 n) t new et i some_new in
    let same : concat t.leaves ≡ concat (a.leaves ++ b.leaves) = text_of_leaf br t new et ∙ en
    ∙ sym (concat-append a.leaves b.leaves
    ∙ (rw (text_of_leaf br a l ea, text_of_leaf br b m eb) refl)) in
    let left : a.leaves ≡ l ∷ [] = ap (λ x. x.leaves) ea ∙ one_leaf_is l first in
    let right : b.leaves ≡ m ∷ [] = ap (λ x. x.leaves) eb ∙ one_leaf_is m second in
    let now : leaves_of (t ∷ []) ≡ new ∷ [] = append-nil t.leaves ∙ ap (λ x. x.leaves) et
    ∙ one_leaf_is new some_new in
    let sizes : byte_len new ≡ byte_len l + byte_len m = ap byte_len en
    ∙ IsMeasure-byte_len.joined l m in
    let r : Recuts a.leaves b.leaves (leaves_of (t ∷ [])) = record {
      same_text = ap concat (append-nil t.leaves) ∙ same;
      leaves = rw append-nil i.leaves;
      following = λ _ k. rw (left, now) (λ dense. (omega (arith, dense.0, sizes), tt));
      last = λ _ k j. rw (right, now) (omega (arith, sizes));
    } in
    equal_union a b (t ∷ []) r (omega (arith, ap (λ x. x.height) eb))
    (rw (ap (λ x. x.breaks) ea, low) (record {
      some = omega arith;
      at_most_two = omega arith;
      each = All-cons (IsWide br (min 12 n) 0) t [] w (All-nil (IsWide br (min 12 n) 0));
      two = λ p. absurd (omega arith);
      full = λ p _. absurd (omega arith);
    }))

-- both trees unchanged
pub kept : (a b : Tree) → IsTree a → IsTree b → 1 ≤ length a.leaves → 1 ≤ length b.leaves
    → CanJoin a b → a.height ≡ b.height → (1 ≤ a.height → 12 ≤ a.width)
    → (1 ≤ a.height → 12 ≤ b.width) → (1 ≤ a.height → 24 < a.width + b.width)
    → IsDenseAfter (last_bytes 492 a.leaves) b.leaves → IsUnion a b (a ∷ b ∷ [])
kept a b ta tb p q j e wa wb many near =
    let n = max a.width b.width in
    let h = a.height in
    let br = a.breaks in
    let ca : IsChild br h a = record {
      same_breaks = refl;
      at_height = refl;
      wide = wa;
      some = p;
      tree = ta;
    } in
    let cb : IsChild br h b = record {
      same_breaks = j.same_breaks;
      at_height = sym e;
      wide = wb;
      some = q;
      tree = tb;
    } in
    let both =
    All-cons (IsChild br h) a (b ∷ []) ca
    (All-cons (IsChild br h) b [] cb (All-nil (IsChild br h))) in
    equal_union a b (a ∷ b ∷ [])
    (rw append-nil (recuts_kept a.leaves b.leaves ta.leaves tb.leaves j.seam near)) e (record {
      some = omega arith;
      at_most_two = omega arith;
      each = All-weaker (IsChild br h) (IsWide br (min 12 n) h)
          (λ t i. wide_weaker br (min 12 n) 12 h t (omega arith) i) (a ∷ b ∷ []) both;
      two = λ _. both;
      full = λ _ up. many up;
    })

height_of-append : (xs ys : List Tree) → 1 ≤ length xs → height_of (xs ++ ys) ≡ height_of xs
height_of-append [] ys some = absurd (omega arith)
height_of-append (x ∷ xs) ys some = refl

siblings_make : (br : LineBreaks) (h : ℕ) (xs ys : List Tree) → All (IsChild br h) xs
    → All (IsChild br h) ys → AreLeaves (leaves_of xs ++ leaves_of ys)
    → byte_len (joined xs) + byte_len (joined ys) < 2 ^ 63 → AreSiblings br h (xs ++ ys)
siblings_make br h xs ys a b c fits = record {
  each = All-append (IsChild br h) xs ys a b;
  leaves = rw leaves_of-append c;
  fits = omega (arith, byte_len-append xs ys);
}

weaker_parts : (br : LineBreaks) (v w m n h : ℕ) (ts : List Tree) → v ≤ w → m ≤ n
    → AreParts br w m h ts → AreParts br v n h ts
weaker_parts br v w m n h ts le lm p = record {
  some = p.some;
  at_most_two = p.at_most_two;
  each = All-weaker (IsWide br (min 12 w) h) (IsWide br (min 12 v) h)
      (λ t i. wide_weaker br (min 12 v) (min 12 w) h t (omega arith) i) ts p.each;
  two = p.two;
  full = λ a b. omega (arith, p.full a b);
}

-- two leaves that aren't merged, by their bytes
pub leaves_near : (br : LineBreaks) (a b : Tree) (l m : List ℕ) → a ≡ leaf_tree br l
    → b ≡ leaf_tree br m → 1 ≤ length a.leaves → 1 ≤ length b.leaves → 492 ≤ byte_len l + byte_len m
    → IsDenseAfter (last_bytes 492 a.leaves) b.leaves
leaves_near br a b l m ea eb some more near =
    let left : a.leaves ≡ l ∷ [] = ap (λ x. x.leaves) ea
    ∙ one_leaf_is l (some_leaf l (rw ea at some)) in
    let right : b.leaves ≡ m ∷ [] = ap (λ x. x.leaves) eb
    ∙ one_leaf_is m (some_leaf m (rw eb at more)) in
    rw (left, right) (near, tt)

-- the children of two nodes of one height, if their adjacent leaves aren't merged
module _ (a b : Tree) (xs ys : List Tree) (ea : a ≡ tree_over xs) (eb : b ≡ tree_over ys)
    (ca : AreChildren (breaks_of xs) (height_of xs) xs)
    (cb : AreChildren (breaks_of ys) (height_of ys) ys) (j : CanJoin a b)
    (same : a.height ≡ b.height)
    (near : IsDenseAfter (last_bytes 492 a.leaves) b.leaves) where
  level : height_of ys ≡ height_of xs
  level = let e : height_of xs + 1 ≡ height_of ys + 1 = rw (ea, eb) at same in omega arith

  one_set : breaks_of ys ≡ breaks_of xs
  one_set = ap (λ x. x.breaks) (sym eb) ∙ j.same_breaks ∙ ap (λ x. x.breaks) ea

  both_recuts : Recuts (leaves_of xs) (leaves_of ys) (leaves_of xs ++ leaves_of ys)
  both_recuts = let j' = rw (ea, eb) at j in let near' = rw (ea, eb) at near in
      recuts_kept (leaves_of xs) (leaves_of ys) ca.leaves cb.leaves j'.seam near'

  pub inner_siblings : AreSiblings (breaks_of (xs ++ ys)) (height_of (xs ++ ys)) (xs ++ ys)
  inner_siblings =
      let j' = rw (ea, eb) at j in
      let some : 1 ≤ length xs = omega (arith, ca.at_least_two) in
      rw (height_of-append xs ys some, sym (same_set xs ys some))
      (siblings_make (breaks_of xs) (height_of xs) xs ys ca.each (rw (level, one_set) at cb.each)
      both_recuts.leaves j'.fits)

  pub inner_union : (ts : List Tree) → leaves_of ts ≡ leaves_of (xs ++ ys)
      → AreParts (breaks_of (xs ++ ys)) (length (xs ++ ys)) (length (xs ++ ys))
      (height_of (xs ++ ys) + 1) ts → IsUnion a b ts
  inner_union ts el p =
      let some : 1 ≤ length xs = omega (arith, ca.at_least_two) in
      let e : height_of xs + 1 ≡ height_of ys + 1 = rw (ea, eb) at same in
      let p' = rw (height_of-append xs ys some, sym (same_set xs ys some), length-append xs ys) at
      p in
      let r : Recuts (leaves_of xs) (leaves_of ys) (leaves_of ts) =
      rw (el, leaves_of-append) both_recuts in
      let parts =
      weaker_parts (breaks_of xs) (max (length xs) (length ys)) (length xs + length ys)
      (length xs + length ys) (length xs + length ys) (height_of xs + 1) ts (omega arith)
      (omega arith) p' in
      rw (ea, eb) (equal_union (tree_over xs) (tree_over ys) ts r e parts)

-- the results of uniting a child and a tree that is not higher
module _ (br : LineBreaks) (h : ℕ) (t u : Tree) (ts : List Tree) (c : IsChild br h t) where
  are_children : (n m : ℕ) → t.width ≤ n → AreParts br n m h ts → All (IsChild br h) ts
      × (1 ≤ length ts) × (length ts ≤ 2)
  are_children n m le p = (
    All-weaker (IsWide br (min 12 n) h) (IsChild br h)
        (λ x w. wide_more br (min 12 n) h x (λ q. omega (arith, c.wide q)) w) ts p.each,
    p.some,
    p.at_most_two,
  )

  pub left_parts : u.height ≤ h → IsUnion t u ts → All (IsChild br h) ts × (1 ≤ length ts)
      × (length ts ≤ 2)
  left_parts le i = elim (cases_lt u.height h) [
    | inl l ↦ are_children t.width (t.width + 1) (omega arith)
        (rw (c.same_breaks, c.at_height) at (i.higher (omega (arith, c.at_height))))
    | inr ge ↦ are_children (max t.width u.width) (t.width + u.width) (omega arith)
        (rw (c.same_breaks, c.at_height) at (i.equal (omega (arith, c.at_height))))
  ]

  pub right_parts : u.breaks ≡ br → u.height ≤ h → IsUnion u t ts → All (IsChild br h) ts
      × (1 ≤ length ts) × (length ts ≤ 2)
  right_parts breaks le i = elim (cases_lt u.height h) [
    | inl l ↦ are_children t.width (t.width + 1) (omega arith)
        (rw (breaks, c.at_height) at (i.lower (omega (arith, c.at_height))))
    | inr ge ↦
        let e : u.height ≡ t.height = omega (arith, c.at_height) in
        are_children (max u.width t.width) (u.width + t.width) (omega arith)
        (rw (breaks, e, c.at_height) at (i.equal e))
  ]

-- a lower tree is united with the end of a higher one
module _ (a b last : Tree) (init : List Tree) (br : LineBreaks) (h : ℕ)
    (ea : a ≡ tree_over (init ++ last ∷ [])) (ca : AreChildren br h (init ++ last ∷ []))
    (breaks : a.breaks ≡ br) (above : a.height ≡ h + 1) (j : CanJoin a b)
    (below : b.height < a.height) where
  pub end_child : IsChild br h last
  end_child = All-head (IsChild br h) last [] (all_right (IsChild br h) init (last ∷ []) ca.each)

  end_leaves : a.leaves ≡ leaves_of init ++ last.leaves
  end_leaves = rw (ea, leaves_of-append, append-nil) refl

  end_are : AreLeaves (leaves_of init ++ last.leaves)
  end_are = rw (leaves_of-append, append-nil) at ca.leaves

  end_seam : IsSeam (concat (leaves_of init ++ last.leaves)) (text b)
  end_seam = subst (λ xs. IsSeam (concat xs) (text b)) end_leaves j.seam

  end_text : byte_len (text a) ≡ byte_len (joined init) + byte_len (text last)
  end_text = ap (λ x. byte_len (text x)) ea ∙ byte_len-append init (last ∷ [])
      ∙ ap (λ ls. byte_len (joined init) + byte_len (concat ls)) (append-nil last.leaves)

  pub end_can_join : CanJoin last b
  end_can_join = record {
    same_breaks = j.same_breaks ∙ breaks ∙ sym end_child.same_breaks;
    seam = seam_of_right (joined init) (text last) (text b) (rw concat-append at end_seam);
    fits = omega (arith, j.fits, end_text);
  }

  pub end_near : IsNear a b → IsNear last b
  end_near n = record {
    near = λ high more.
        let whole =
        subst (λ xs. IsDenseAfter (last_bytes 492 xs) b.leaves) end_leaves
        (n.near (omega (arith, above)) more) in
        let same = last_bytes-append 492 (leaves_of init) last.leaves
        ∙ last_bytes-some (last_bytes 492 (leaves_of init)) 492 last.leaves end_child.some in
        subst (λ k. IsDenseAfter k b.leaves) same whole;
  }

  module _ (ts : List Tree) (u : IsUnion last b ts) where
    end_recuts : Recuts a.leaves b.leaves (leaves_of init ++ leaves_of ts)
    end_recuts =
        subst (λ xs. Recuts xs b.leaves (leaves_of init ++ leaves_of ts)) (sym end_leaves)
        (recuts_right (leaves_of init) last.leaves b.leaves (leaves_of ts) end_are end_seam
        end_child.some u.recuts)

    end_parts : All (IsChild br h) ts × (1 ≤ length ts) × (length ts ≤ 2)
    end_parts = left_parts br h last b ts end_child (omega (arith, below, above)) u

    pub end_each : All (IsChild br h) (init ++ ts)
    end_each =
        All-append (IsChild br h) init ts (all_left (IsChild br h) init (last ∷ []) ca.each)
        end_parts.0

    pub end_count : (1 ≤ length init) × (length (init ++ ts) ≤ 25)
        × (length (init ++ last ∷ []) ≤ length (init ++ ts))
        × (length (init ++ ts) ≤ length (init ++ last ∷ []) + 1)
    end_count =
        let e = length-append init ts in
        let f : length (init ++ last ∷ []) ≡ length init + 1 = length-append init (last ∷ []) in (
          omega (arith, ca.at_least_two),
          omega (arith, ca.at_most_24, end_parts.2),
          omega (arith, end_parts.1),
          omega (arith, end_parts.2),
        )

    end_some : 1 ≤ length (init ++ ts)
    end_some = omega (arith, length-append init ts, end_count.0)

    end_new_text : byte_len (joined ts) ≡ byte_len (text last) + byte_len (text b)
    end_new_text = ap byte_len (u.recuts.same_text ∙ concat-append last.leaves b.leaves)
        ∙ IsMeasure-byte_len.joined (text last) (text b)

    pub end_siblings : AreSiblings (breaks_of (init ++ ts)) (height_of (init ++ ts)) (init ++ ts)
    end_siblings =
        rw (
          height_of_is br h (init ++ ts) end_some end_each,
          breaks_of_is br h (init ++ ts) end_some end_each,
        ) (record {
          each = end_each;
          leaves = rw leaves_of-append end_recuts.leaves;
          fits = omega (arith, j.fits, end_text, end_new_text, byte_len-append init ts);
        })

    pub end_union : (us : List Tree) → leaves_of us ≡ leaves_of (init ++ ts)
        → AreParts (breaks_of (init ++ ts)) (length (init ++ ts)) (length (init ++ ts))
        (height_of (init ++ ts) + 1) us → IsUnion a b us
    end_union us el p =
        let n = length (init ++ ts) in
        let ew : a.width ≡ length (init ++ last ∷ []) = ap (λ t. t.width) ea in
        let eh : height_of (init ++ ts) + 1 ≡ a.height =
        ap (λ k. k + 1) (height_of_is br h (init ++ ts) end_some end_each) ∙ sym above in
        let es : breaks_of (init ++ ts) ≡ a.breaks =
        breaks_of_is br h (init ++ ts) end_some end_each ∙ sym breaks in
        let r : Recuts a.leaves b.leaves (leaves_of us) = rw (el, leaves_of-append) end_recuts in
        higher_union a b us r below
        (weaker_parts a.breaks a.width n n (a.width + 1) a.height us (omega (arith, end_count.2))
        (omega (arith, end_count.3)) (rw (eh, es) at p))

-- a lower tree is united with the front of a higher one
module _ (a b first : Tree) (rest : List Tree) (br : LineBreaks) (h : ℕ)
    (eb : b ≡ tree_over (first ∷ rest)) (cb : AreChildren br h (first ∷ rest))
    (breaks : b.breaks ≡ br) (above : b.height ≡ h + 1) (j : CanJoin a b)
    (below : a.height < b.height) where
  pub front_child : IsChild br h first
  front_child = All-head (IsChild br h) first rest cb.each

  front_set : a.breaks ≡ br
  front_set = sym j.same_breaks ∙ breaks

  front_leaves : b.leaves ≡ first.leaves ++ leaves_of rest
  front_leaves = ap (λ t. t.leaves) eb

  front_seam : IsSeam (text a) (concat (first.leaves ++ leaves_of rest))
  front_seam = subst (λ xs. IsSeam (text a) (concat xs)) front_leaves j.seam

  front_text : byte_len (text b) ≡ byte_len (text first) + byte_len (joined rest)
  front_text = ap (λ x. byte_len (text x)) eb
      ∙ ap byte_len (concat-append first.leaves (leaves_of rest))
      ∙ IsMeasure-byte_len.joined (text first) (joined rest)

  pub front_can_join : CanJoin a first
  front_can_join = record {
    same_breaks = front_child.same_breaks ∙ sym front_set;
    seam = seam_of_left (text a) (text first) (joined rest) (rw concat-append at front_seam);
    fits = omega (arith, j.fits, front_text);
  }

  pub front_near : IsNear a b → IsNear a first
  front_near n = record {
    near = λ more high.
        let whole =
        subst (IsDenseAfter (last_bytes 492 a.leaves)) front_leaves
        (n.near more (omega (arith, above))) in
        dense_left (last_bytes 492 a.leaves) first.leaves (leaves_of rest) whole;
  }

  module _ (ts : List Tree) (u : IsUnion a first ts) where
    front_recuts : Recuts a.leaves b.leaves (leaves_of ts ++ leaves_of rest)
    front_recuts =
        subst (λ xs. Recuts a.leaves xs (leaves_of ts ++ leaves_of rest)) (sym front_leaves)
        (recuts_left a.leaves first.leaves (leaves_of rest) (leaves_of ts) cb.leaves front_seam
        front_child.some u.recuts)

    front_parts : All (IsChild br h) ts × (1 ≤ length ts) × (length ts ≤ 2)
    front_parts = right_parts br h first a ts front_child front_set (omega (arith, below, above)) u

    pub front_each : All (IsChild br h) (ts ++ rest)
    front_each =
        All-append (IsChild br h) ts rest front_parts.0 (All-tail (IsChild br h) first rest cb.each)

    pub front_count : (1 ≤ length ts) × (length (ts ++ rest) ≤ 25)
        × (length (first ∷ rest) ≤ length (ts ++ rest))
        × (length (ts ++ rest) ≤ length (first ∷ rest) + 1)
    front_count =
        let e = length-append ts rest in (
          front_parts.1,
          omega (arith, cb.at_most_24, front_parts.2),
          omega (arith, front_parts.1),
          omega (arith, front_parts.2),
        )

    front_some : 1 ≤ length (ts ++ rest)
    front_some = omega (arith, length-append ts rest, front_count.0)

    front_new_text : byte_len (joined ts) ≡ byte_len (text a) + byte_len (text first)
    front_new_text = ap byte_len (u.recuts.same_text ∙ concat-append a.leaves first.leaves)
        ∙ IsMeasure-byte_len.joined (text a) (text first)

    pub front_siblings : AreSiblings (breaks_of (ts ++ rest)) (height_of (ts ++ rest)) (ts ++ rest)
    front_siblings =
        rw (
          height_of_is br h (ts ++ rest) front_some front_each,
          breaks_of_is br h (ts ++ rest) front_some front_each,
        ) (record {
          each = front_each;
          leaves = rw leaves_of-append front_recuts.leaves;
          fits = omega (arith, j.fits, front_text, front_new_text, byte_len-append ts rest);
        })

    pub front_union : (us : List Tree) → leaves_of us ≡ leaves_of (ts ++ rest)
        → AreParts (breaks_of (ts ++ rest)) (length (ts ++ rest)) (length (ts ++ rest))
        (height_of (ts ++ rest) + 1) us → IsUnion a b us
    front_union us el p =
        let n = length (ts ++ rest) in
        let ew : b.width ≡ length (first ∷ rest) = ap (λ t. t.width) eb in
        let eh : height_of (ts ++ rest) + 1 ≡ b.height =
        ap (λ k. k + 1) (height_of_is br h (ts ++ rest) front_some front_each) ∙ sym above in
        let es : breaks_of (ts ++ rest) ≡ a.breaks =
        breaks_of_is br h (ts ++ rest) front_some front_each ∙ sym front_set in
        let r : Recuts a.leaves b.leaves (leaves_of us) = rw (el, leaves_of-append) front_recuts in
        lower_union a b us r below
        (weaker_parts a.breaks b.width n n (b.width + 1) b.height us (omega (arith, front_count.2))
        (omega (arith, front_count.3)) (rw (eh, es) at p))

-- the children of an inner node as those before the last, and the last
trees_last : (rcs : List Tree) (k : ℕ) (d : Tree) → length rcs ≡ k + 1
    → rcs ≡ (take k rcs) ++ (get_or rcs k d) ∷ []
trees_last rcs k d n =
    let e : take (k + 1) rcs ≡ rcs = take_all (k + 1) rcs (omega arith) in
    let f = take_more rcs k d (omega arith) in
    sym e ∙ f

-- the first child and the others
trees_first : (rcs : List Tree) (d : Tree) → 1 ≤ length rcs → rcs ≡ (get_or rcs 0 d) ∷ (drop 1 rcs)
trees_first [] d some = absurd (omega arith)
trees_first (rc ∷ rcs) d some = refl

pub ends_in : (a : Tree) (rcs : List Tree) (d : Tree) → a ≡ tree_over rcs
    → AreChildren (breaks_of rcs) (height_of rcs) rcs → d ≡ get_or rcs (length rcs - 1) d
    → EndsIn a (take (length rcs - 1) rcs) d
ends_in a rcs d e c r =
    let k = length rcs - 1 in
    let br = breaks_of rcs in
    let h = height_of rcs in
    let s : rcs ≡ (take k rcs) ++ (get_or rcs k d) ∷ [] =
    trees_last rcs k d (omega (arith, c.at_least_two)) in
    let v : (get_or rcs k d) ≡ d = sym r in
    let q : rcs ≡ (take k rcs) ++ d ∷ [] = s ∙ ap (λ x. (take k rcs) ++ x ∷ []) v in
    let ch : AreChildren br h ((take k rcs) ++ d ∷ []) = subst (AreChildren br h) q c in
    let child =
    All-head (IsChild br h) d [] (all_right (IsChild br h) ((take k rcs)) (d ∷ []) ch.each) in
    let row = take k rcs ++ d ∷ [] in
    let ch' = subst (λ n. AreChildren br n row) (sym child.at_height) ch in
    record {
      is = e ∙ ap tree_over q;
      children =
          subst (λ b. AreChildren b d.height row) (sym (ap (λ t. t.breaks) e)) ch';
      above = omega (arith, child.at_height, ap (λ t. t.height) e);
    }

pub begins_in : (b : Tree) (rcs : List Tree) (d : Tree) → b ≡ tree_over rcs
    → AreChildren (breaks_of rcs) (height_of rcs) rcs → d ≡ get_or rcs 0 d
    → BeginsIn b d (drop 1 rcs)
begins_in b rcs d e c r =
    let br = breaks_of rcs in
    let h = height_of rcs in
    let s = trees_first rcs d (omega (arith, c.at_least_two)) in
    let v : (get_or rcs 0 d) ≡ d = sym r in
    let q : rcs ≡ d ∷ (drop 1 rcs) = s ∙ ap (λ x. x ∷ (drop 1 rcs)) v in
    let ch : AreChildren br h (d ∷ (drop 1 rcs)) = subst (AreChildren br h) q c in
    let child = All-head (IsChild br h) d ((drop 1 rcs)) ch.each in
    let row = d ∷ drop 1 rcs in
    let ch' = subst (λ n. AreChildren br n row) (sym child.at_height) ch in
    record {
      is = e ∙ ap tree_over q;
      children =
          subst (λ b. AreChildren b d.height row) (sym (ap (λ t. t.breaks) e)) ch';
      above = omega (arith, child.at_height, ap (λ t. t.height) e);
    }

-- two inner nodes of one height, by their adjacent children
pub record AreMeeting (a b last first : Tree) (init rest : List Tree) (br : LineBreaks)
    (h : ℕ) : Type 0 where
  pub left_is : a ≡ tree_over (init ++ last ∷ [])
  pub right_is : b ≡ tree_over (first ∷ rest)
  pub left : AreChildren br h (init ++ last ∷ [])
  pub right : AreChildren br h (first ∷ rest)
  pub same_breaks : a.breaks ≡ br
  pub above : a.height ≡ h + 1
  pub level : b.height ≡ h + 1
  pub join : CanJoin a b

pub meeting_at : (a b last first : Tree) (init rest : List Tree) → EndsIn a init last
    → BeginsIn b first rest → CanJoin a b → a.height ≡ b.height
    → AreMeeting a b last first init rest a.breaks last.height
meeting_at a b last first init rest e f j same =
    let level : first.height ≡ last.height = omega (arith, e.above, f.above, same) in
    record {
      left_is = e.is;
      right_is = f.is;
      left = e.children;
      right = subst (λ n. AreChildren a.breaks n (first ∷ rest)) level
          (subst (λ b. AreChildren b first.height (first ∷ rest)) j.same_breaks f.children);
      same_breaks = refl;
      above = sym e.above;
      level = sym same ∙ sym e.above;
      join = j;
    }

-- two inner nodes of one height whose adjacent leaves are replaced
module _ (a b last first : Tree) (init rest : List Tree) (br : LineBreaks) (h : ℕ)
    (m : AreMeeting a b last first init rest br h) where
  meet_last : IsChild br h last
  meet_last =
      All-head (IsChild br h) last [] (all_right (IsChild br h) init (last ∷ []) m.left.each)

  meet_first : IsChild br h first
  meet_first = All-head (IsChild br h) first rest m.right.each

  left_is : a.leaves ≡ leaves_of init ++ last.leaves
  left_is = rw (m.left_is, leaves_of-append, append-nil) refl

  right_is : b.leaves ≡ first.leaves ++ leaves_of rest
  right_is = ap (λ t. t.leaves) m.right_is

  meet_seam : IsSeam (concat (leaves_of init ++ last.leaves))
      (concat (first.leaves ++ leaves_of rest))
  meet_seam =
      subst (λ xs. IsSeam (concat xs) (concat (first.leaves ++ leaves_of rest))) left_is
      (subst (λ ys. IsSeam (text a) (concat ys)) right_is m.join.seam)

  last_seam : IsSeam (text last) (concat (first.leaves ++ leaves_of rest))
  last_seam =
      seam_of_right (joined init) (text last) (concat (first.leaves ++ leaves_of rest))
      (rw (concat-append (leaves_of init) last.leaves) at meet_seam)

  pub meet_can_join : CanJoin last first
  meet_can_join = record {
    same_breaks = meet_first.same_breaks ∙ sym meet_last.same_breaks;
    seam = seam_of_left (text last) (text first) (joined rest)
        (rw (concat-append first.leaves (leaves_of rest)) at last_seam);
    fits = omega (
      arith,
      m.join.fits,
      ap (λ xs. byte_len (concat xs)) left_is,
      ap (λ xs. byte_len (concat xs)) right_is,
      ap byte_len (concat-append (leaves_of init) last.leaves),
      ap byte_len (concat-append first.leaves (leaves_of rest)),
      IsMeasure-byte_len.joined (joined init) (text last),
      IsMeasure-byte_len.joined (text first) (joined rest),
    );
  }

  pub meet_some : (1 ≤ length last.leaves) × (1 ≤ length first.leaves)
  meet_some = (meet_last.some, meet_first.some)

  module _ (ts : List Tree) (u : IsUnion last first ts) where
    abbrev row : List Tree
    row = init ++ (ts ++ rest)

    row_leaves : leaves_of row ≡ leaves_of init ++ (leaves_of ts ++ leaves_of rest)
    row_leaves = leaves_of-append init (ts ++ rest)
        ∙ ap (λ xs. leaves_of init ++ xs) (leaves_of-append ts rest)

    meet_recuts : Recuts a.leaves b.leaves (leaves_of row)
    meet_recuts =
        let before : AreLeaves (leaves_of init ++ last.leaves) =
        rw (leaves_of-append, append-nil) at m.left.leaves in
        let following =
        recuts_left last.leaves first.leaves (leaves_of rest) (leaves_of ts) m.right.leaves
        last_seam meet_first.some u.recuts in
        let both =
        recuts_right (leaves_of init) last.leaves (first.leaves ++ leaves_of rest)
        (leaves_of ts ++ leaves_of rest) before meet_seam meet_last.some following in
        subst (λ xs. Recuts xs b.leaves (leaves_of row)) (sym left_is)
        (subst (λ ys. Recuts (leaves_of init ++ last.leaves) ys (leaves_of row)) (sym right_is)
        (subst (λ zs. Recuts (leaves_of init ++ last.leaves) (first.leaves ++ leaves_of rest) zs)
        (sym row_leaves) both))

    meet_parts : All (IsChild br h) ts × (1 ≤ length ts) × (length ts ≤ 2)
    meet_parts = left_parts br h last first ts meet_last (omega (arith, meet_first.at_height)) u

    meet_each : All (IsChild br h) row
    meet_each =
        All-append (IsChild br h) init (ts ++ rest)
        (all_left (IsChild br h) init (last ∷ []) m.left.each)
        (All-append (IsChild br h) ts rest meet_parts.0
        (All-tail (IsChild br h) first rest m.right.each))

    pub meet_count : (2 ≤ length row) × (length row ≤ 48) × (max a.width b.width ≤ length row)
        × (length row ≤ a.width + b.width)
    meet_count =
        let n = length-append init (ts ++ rest) in
        let k = length-append ts rest in
        let wa : a.width ≡ length init + 1 = ap (λ t. t.width) m.left_is
        ∙ length-append init (last ∷ []) in
        let wb : b.width ≡ length rest + 1 = omega (arith, ap (λ t. t.width) m.right_is) in (
          omega (
            arith,
            n,
            k,
            m.left.at_least_two,
            m.right.at_least_two,
            length-append init (last ∷ []),
          ),
          omega (
            arith,
            n,
            k,
            m.left.at_most_24,
            m.right.at_most_24,
            length-append init (last ∷ []),
            meet_parts.2,
          ),
          omega (
            arith,
            n,
            k,
            wa,
            wb,
            m.left.at_least_two,
            m.right.at_least_two,
            length-append init (last ∷ []),
            meet_parts.1,
          ),
          omega (arith, n, k, wa, wb, meet_parts.2),
        )

    row_text : byte_len (joined row) ≡ byte_len (text a) + byte_len (text b)
    row_text = ap byte_len (meet_recuts.same_text ∙ concat-append a.leaves b.leaves)
        ∙ IsMeasure-byte_len.joined (text a) (text b)

    pub meet_siblings : AreSiblings (breaks_of row) (height_of row) row
    meet_siblings =
        rw (
          height_of_is br h row (omega (arith, meet_count.0)) meet_each,
          breaks_of_is br h row (omega (arith, meet_count.0)) meet_each,
        )
        (record {
          each = meet_each;
          leaves = meet_recuts.leaves;
          fits = omega (arith, m.join.fits, row_text);
        })

    pub meet_union : (us : List Tree) → leaves_of us ≡ leaves_of row
        → AreParts (breaks_of row) (length row) (length row) (height_of row + 1) us → IsUnion a b us
    meet_union us el p =
        let n = length row in
        let eh : height_of row + 1 ≡ a.height =
        ap (λ k. k + 1) (height_of_is br h row (omega (arith, meet_count.0)) meet_each)
        ∙ sym m.above in
        let es : breaks_of row ≡ a.breaks =
        breaks_of_is br h row (omega (arith, meet_count.0)) meet_each ∙ sym m.same_breaks in
        let r : Recuts a.leaves b.leaves (leaves_of us) =
        subst (Recuts a.leaves b.leaves) (sym el) meet_recuts in
        equal_union a b us r (omega (arith, m.above, m.level))
        (weaker_parts a.breaks (max a.width b.width) n n (a.width + b.width) a.height us
        (omega (arith, meet_count.2)) (omega (arith, meet_count.3)) (rw (eh, es) at p))
