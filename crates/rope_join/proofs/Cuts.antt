-- A node split at one of its children.
use Rattle.std.proofs.Common.{◌≡◌, ℕ, ◌+◌, ◌-◌, ◌^◌, ◌<◌, ◌≤◌, List, [], ◌∷◌, ◌++◌, length, take, drop, get_or, refl, sym, ap, subst, ◌∙◌, arith, inl, inr}
use Rattle.std.specs.List.{concat, All}
use Rattle.std.proofs.lemmas.Bool.{cases_lt}
use Rattle.std.proofs.lemmas.List.{append-nil, length-append, length-drop, length-take-le, take-append-drop, drop_more, nil_from_length, take_all}
use Rattle.rope_text.specs.declared.line_breaks.LineBreaks.{LineBreaks}
use Rattle.rope_text.specs.declared.text_info.TextInfo.{TextInfo}
use Rattle.rope_text.specs.Text.{byte_len}
use Rattle.rope_text.proofs.Measures.{IsMeasure-byte_len, size_parts}
use Rattle.rope_text.proofs.CuttingLaws.{concat-append}
use Rattle.rope_leaf.specs.Leaves.{AreLeaves, IsSeam}
use Rattle.rope_leaf.specs.Tree.{Tree, text, joined, leaves_of, height_of, breaks_of, leaf_tree, tree_over, IsTree, IsChild, AreChildren}
use Rattle.rope_leaf.specs.Siblings.{AreSiblings}
use Rattle.rope_leaf.specs.Totals.{HasTotals}
use Rattle.rope_text.specs.Dense.{IsDenseAfter, last_bytes}
use Rattle.rope_text.proofs.DenseLaws.{last_bytes-append, last_bytes-some, dense_left, dense_more}
use Rattle.rope_leaf.proofs.LeafLaws.{all_left, all_right, leaves_left, leaves_right, leaves_seam, leaves_near, seam_of_left, seam-take, seam-drop}
use Rattle.rope_tree.proofs.BuildLaws.{nodes_le}
use Rattle.rope_leaf.proofs.TreeLaws.{height_of_is, breaks_of_is}
use Rattle.rope_leaf.proofs.NodeLaws.{child_at}
use Rattle.rope_leaf.proofs.Descents.{leaves_at}
use Rattle.rope_leaf.proofs.InsertLeaves.{text_of_leaf}
use Rattle.rope_leaf.proofs.InsertDescents.{last_total}
use Rattle.rope_leaf.proofs.InsertTrees.{text_around}
use Rattle.rope_leaf.proofs.InsertLaws.{front_of, rest_of}
use Rattle.rope_join.specs.Join.{CanJoin, IsNear, IsJoin}
use Rattle.rope_tree.proofs.Gathered.{IsGathered}
use Rattle.rope_join.specs.Cut.{SparesFirst, SparesLast, first_chars, last_chars, IsFront, IsBack, AreBeside}

-- an inner node as the children around one child
pub record CutsAt (n : Tree) (xs : List Tree) (t : Tree) (ys : List Tree) : Type 0 where
  pub text_is : text n ≡ joined xs ++ (text t ++ joined ys)
  pub leaves_is : n.leaves ≡ leaves_of xs ++ (t.leaves ++ leaves_of ys)
  pub leaves : AreLeaves (leaves_of xs ++ (t.leaves ++ leaves_of ys))
  pub fits : byte_len (joined xs) + (byte_len (text t) + byte_len (joined ys)) < 2 ^ 63
  pub same_breaks : t.breaks ≡ n.breaks
  pub above : t.height + 1 ≡ n.height
  pub before : All (IsChild t.breaks t.height) xs
  pub after : All (IsChild t.breaks t.height) ys
  pub few : length xs + (length ys + 1) ≤ 24
  pub some : 1 ≤ length t.leaves

pub cuts_at : (n : Tree) (br : LineBreaks) (h : ℕ) (ts : List Tree) (k : ℕ) (t : Tree)
    → n ≡ tree_over ts → AreChildren br h ts → k < length ts → get_or ts k t ≡ t
    → CutsAt n (take k ts) t (drop (k + 1) ts)
cuts_at n br h ts k t is a lt here =
    let own = child_at br h ts k t a lt here in
    let l : leaves_of ts ≡ leaves_of (take k ts) ++ (t.leaves ++ leaves_of (drop (k + 1) ts)) =
    subst (λ u. leaves_of ts ≡ leaves_of (take k ts) ++ (u.leaves ++ leaves_of (drop (k + 1) ts)))
    here (leaves_at ts k t lt) in
    let x = text_around br h ts k t a lt here in
    let all : All (IsChild br h) (take k ts ++ drop k ts) = rw take-append-drop a.each in
    let all' : All (IsChild br h) (take (k + 1) ts ++ drop (k + 1) ts) =
    rw take-append-drop a.each in
    record {
      text_is = ap text is ∙ x;
      leaves_is = ap (λ u. u.leaves) is ∙ l;
      leaves = subst AreLeaves l a.leaves;
      fits = omega (
        arith,
        a.fits,
        ap byte_len x,
        IsMeasure-byte_len.joined (joined (take k ts)) (text t ++ joined (drop (k + 1) ts)),
        IsMeasure-byte_len.joined (text t) (joined (drop (k + 1) ts)),
      );
      same_breaks = own.same_breaks
          ∙ sym (ap (λ u. u.breaks) is
          ∙ breaks_of_is br h ts (omega (arith, a.at_least_two)) a.each);
      above = omega (
        arith,
        own.at_height,
        ap (λ u. u.height) is,
        height_of_is br h ts (omega (arith, a.at_least_two)) a.each,
      );
      before = rw (own.same_breaks, own.at_height)
          (all_left (IsChild br h) (take k ts) (drop k ts) all);
      after = rw (own.same_breaks, own.at_height)
          (all_right (IsChild br h) (take (k + 1) ts) (drop (k + 1) ts) all');
      few = omega (arith, a.at_most_24, length-take-le k ts (omega arith), length-drop (k + 1) ts);
      some = own.some;
    }

-- a front may be joined to any tree that the whole may be joined to
pub front_joins : (k : ℕ) (a t p : Tree) → k ≤ length (text t) → CanJoin a t → IsFront k t p
    → CanJoin a p
front_joins k a t p le j i = record {
  same_breaks = i.same_breaks ∙ j.same_breaks;
  seam = rw i.text_is (seam-take k (text a) (text t) j.seam);
  fits = omega (
    arith,
    j.fits,
    ap byte_len i.text_is,
    size_parts byte_len IsMeasure-byte_len (text t) k,
  );
}

pub back_joins : (k : ℕ) (t a p : Tree) → k ≤ length (text t) → CanJoin t a → IsBack k t p
    → CanJoin p a
back_joins k t a p le j i = record {
  same_breaks = j.same_breaks ∙ sym i.same_breaks;
  seam = rw i.text_is (seam-drop k (text t) (text a) j.seam);
  fits = omega (
    arith,
    j.fits,
    ap byte_len i.text_is,
    size_parts byte_len IsMeasure-byte_len (text t) k,
  );
}

-- the first leaf of two lists, and the last
pub first_chars-append : (xs ys : List (List ℕ)) → 1 ≤ length xs
    → first_chars (xs ++ ys) ≡ first_chars xs
first_chars-append [] ys some = absurd (omega arith)
first_chars-append (x ∷ xs) ys some = refl

pub last_chars-append : (n : ℕ) (xs ys : List (List ℕ))
    → last_chars n (xs ++ ys) ≡ last_chars (last_chars n xs) ys
last_chars-append n [] ys = refl
last_chars-append n (x ∷ xs) ys = last_chars-append (length x) xs ys

pub last_chars-some : (m n : ℕ) (xs : List (List ℕ)) → 1 ≤ length xs
    → last_chars m xs ≡ last_chars n xs
last_chars-some m n [] some = absurd (omega arith)
last_chars-some m n (x ∷ xs) some = refl

pub spares_first_of : (k at : ℕ) (n t : Tree) (ls : List (List ℕ)) → n.leaves ≡ t.leaves ++ ls
    → 1 ≤ length t.leaves → at ≡ k → SparesFirst at n → SparesFirst k t
spares_first_of k at n t ls e some same s =
    let first = ap first_chars e ∙ first_chars-append t.leaves ls some in
    record { some = omega (arith, s.some, first); past = omega (arith, s.past, first, same) }

pub spares_last_of : (k at : ℕ) (n t : Tree) (ls : List (List ℕ)) → n.leaves ≡ ls ++ t.leaves
    → 1 ≤ length t.leaves → at + length (text t) ≡ length (text n) + k → SparesLast at n
    → SparesLast k t
spares_last_of k at n t ls e some same s =
    let last = ap (last_chars 0) e ∙ last_chars-append 0 ls t.leaves
    ∙ last_chars-some (last_chars 0 ls) 0 t.leaves some in
    record { some = omega (arith, s.some, last); before = omega (arith, s.before, last, same) }

-- the height of gathered trees
module _ (br : LineBreaks) (h : ℕ) (xs : List Tree) (g : Tree) (each : All (IsChild br h) xs)
    (some : 1 ≤ length xs) (i : IsGathered xs g) where
  pub gathered_set : g.breaks ≡ br
  gathered_set = i.same_breaks ∙ breaks_of_is br h xs some each

  pub gathered_least : h ≤ g.height
  gathered_least = elim (cases_lt (length xs) 2) [
    | inl l ↦ omega (arith, i.alone (omega arith), height_of_is br h xs some each)
    | inr ge ↦ omega (arith, i.more ge, height_of_is br h xs some each)
  ]

  pub gathered_most : g.height ≤ h + 1
  gathered_most = elim (cases_lt (length xs) 2) [
    | inl l ↦ omega (arith, i.alone (omega arith), height_of_is br h xs some each)
    | inr ge ↦ omega (arith, i.more ge, height_of_is br h xs some each)
  ]

  pub gathered_width : h < g.height → g.width ≡ length xs
  gathered_width low = elim (cases_lt (length xs) 2) [
    | inl l ↦ absurd (omega (arith, i.alone (omega arith), height_of_is br h xs some each))
    | inr ge ↦ i.width ge
  ]

gather_siblings : (br : LineBreaks) (h : ℕ) (xs : List Tree) → All (IsChild br h) xs → 1 ≤ length xs
    → AreLeaves (leaves_of xs) → byte_len (joined xs) < 2 ^ 63
    → AreSiblings (breaks_of xs) (height_of xs) xs
gather_siblings br h xs each some c fits =
    rw (height_of_is br h xs some each, breaks_of_is br h xs some each)
    (record { each = each; leaves = c; fits = fits })

module _ (n : Tree) (xs : List Tree) (t : Tree) (ys : List Tree) (s : CutsAt n xs t ys) where
  pub before_siblings : 1 ≤ length xs → AreSiblings (breaks_of xs) (height_of xs) xs
  before_siblings some =
      gather_siblings t.breaks t.height xs s.before some
      (leaves_left (leaves_of xs) (t.leaves ++ leaves_of ys) s.leaves) (omega (arith, s.fits))

  right_leaves : AreLeaves (t.leaves ++ leaves_of ys)
  right_leaves = leaves_right (leaves_of xs) (t.leaves ++ leaves_of ys) s.leaves

  pub after_siblings : 1 ≤ length ys → AreSiblings (breaks_of ys) (height_of ys) ys
  after_siblings some =
      gather_siblings t.breaks t.height ys s.after some
      (leaves_right t.leaves (leaves_of ys) right_leaves) (omega (arith, s.fits))

  module _ (at k : ℕ) (p : Tree) (e : at ≡ length (joined xs) + k) (le : k ≤ length (text t)) where
    pub front_text : take at (text n) ≡ joined xs ++ take k (text t)
    front_text = ap (take at) s.text_is ∙ front_of (joined xs) (text t) (joined ys) [] k at e le

    pub back_text : drop at (text n) ≡ drop k (text t) ++ joined ys
    back_text = ap (drop at) s.text_is ∙ rest_of (joined xs) (text t) (joined ys) [] k at e le

    pub front_alone : length xs ≡ 0 → IsFront k t p → IsFront at n p
    front_alone z i =
        let x : xs ≡ [] = nil_from_length xs z in
        let f : take at (text n) ≡ take k (text t) = front_text
        ∙ ap (λ w. joined w ++ take k (text t)) x in
        record {
          text_is = i.text_is ∙ sym f;
          same_breaks = i.same_breaks ∙ s.same_breaks;
          leaves = i.leaves;
          not_higher = omega (arith, i.not_higher, s.above);
          near = λ high m dense.
              let whole =
              subst (λ us. IsDenseAfter m (leaves_of us ++ (t.leaves ++ leaves_of ys))) x
              (subst (IsDenseAfter m) s.leaves_is dense) in
              i.near high m (dense_left m t.leaves (leaves_of ys) whole);
          following = λ spares m dense.
              let l : n.leaves ≡ t.leaves ++ leaves_of ys =
              subst (λ us. n.leaves ≡ leaves_of us ++ (t.leaves ++ leaves_of ys)) x s.leaves_is in
              let none : length (joined xs) ≡ 0 = ap (λ us. length (joined us)) x in
              i.following (spares_first_of k at n t (leaves_of ys) l s.some (omega (arith, e, none))
              spares) m (dense_left m t.leaves (leaves_of ys) (subst (IsDenseAfter m) l dense));
        }

    pub back_alone : length ys ≡ 0 → IsBack k t p → IsBack at n p
    back_alone z i =
        let y : ys ≡ [] = nil_from_length ys z in
        let f : drop at (text n) ≡ drop k (text t) = back_text
        ∙ ap (λ w. drop k (text t) ++ joined w) y ∙ append-nil (drop k (text t)) in
        let l : n.leaves ≡ leaves_of xs ++ t.leaves = s.leaves_is
        ∙ ap (λ us. leaves_of xs ++ (t.leaves ++ leaves_of us)) y
        ∙ ap (λ us. leaves_of xs ++ us) (append-nil t.leaves) in
        record {
          text_is = i.text_is ∙ sym f;
          same_breaks = i.same_breaks ∙ s.same_breaks;
          leaves = i.leaves;
          not_higher = omega (arith, i.not_higher, s.above);
          near = λ high a b. rw (l, last_bytes-append a (leaves_of xs) t.leaves)
              (i.near high (last_bytes a (leaves_of xs)) b);
          ahead = λ spares a b.
              let sizes = ap length s.text_is ∙ length-append (joined xs) (text t ++ joined ys) in
              let none : length (text t ++ joined ys) ≡ length (text t) =
              ap (λ us. length (text t ++ joined us)) y ∙ ap length (append-nil (text t)) in
              rw (l, last_bytes-append a (leaves_of xs) t.leaves)
              (i.ahead (spares_last_of k at n t (leaves_of xs) l s.some
              (omega (arith, e, sizes, none)) spares) (last_bytes a (leaves_of xs)) b);
        }

    module _ (g : Tree) (some : 1 ≤ length xs) (gi : IsGathered xs g) (i : IsFront k t p) where
      front_set : g.breaks ≡ t.breaks
      front_set = gathered_set t.breaks t.height xs g s.before some gi

      pub front_can_join : CanJoin g p
      front_can_join =
          let c = leaves_seam (leaves_of xs) (t.leaves ++ leaves_of ys) s.leaves in
          let d : IsSeam (joined xs) (text t ++ joined ys) =
          rw (concat-append t.leaves (leaves_of ys)) at c in
          front_joins k g t p le (record {
            same_breaks = sym front_set;
            seam = rw gi.leaves (seam_of_left (joined xs) (text t) (joined ys) d);
            fits = omega (arith, s.fits, ap (λ ls. byte_len (concat ls)) gi.leaves);
          }) i

      pub front_joined : (r : Tree) → IsJoin g p r → IsFront at n r
      front_joined r j =
          let low = gathered_least t.breaks t.height xs g s.before some gi in
          let high = gathered_most t.breaks t.height xs g s.before some gi in
          let x : text r ≡ joined xs ++ text p = j.recuts.same_text
          ∙ concat-append g.leaves p.leaves ∙ ap (λ ls. concat ls ++ text p) gi.leaves in
          record {
            text_is = x ∙ ap (λ z. joined xs ++ z) i.text_is ∙ sym front_text;
            same_breaks = j.same_breaks ∙ front_set ∙ s.same_breaks;
            leaves = j.recuts.leaves;
            not_higher = elim (cases_lt t.height g.height) [
              | inl l ↦ omega (
                arith,
                j.below_left (omega (arith, i.not_higher))
                    (omega (
                      arith,
                      s.few,
                      gathered_width t.breaks t.height xs g s.before some gi
                          l,
                    )),
                s.above,
              )
              | inr ge ↦ omega (arith, j.most, i.not_higher, s.above)
            ];
            near = λ _. dense;
            following = λ _. dense;
          }
        where
          dense : (m : ℕ) → IsDenseAfter m n.leaves → IsDenseAfter m r.leaves
          dense m following =
              let whole = subst (IsDenseAfter m) s.leaves_is following in
              j.recuts.following (rw gi.leaves
              (omega (arith, some, nodes_le t.breaks t.height xs s.before))) m
              (rw gi.leaves (dense_left m (leaves_of xs) (t.leaves ++ leaves_of ys) whole))

    module _ (g : Tree) (some : 1 ≤ length ys) (gi : IsGathered ys g) (i : IsBack k t p) where
      back_set : g.breaks ≡ t.breaks
      back_set = gathered_set t.breaks t.height ys g s.after some gi

      pub back_can_join : CanJoin p g
      back_can_join = back_joins k t g p le (record {
        same_breaks = back_set;
        seam = rw gi.leaves (leaves_seam t.leaves (leaves_of ys) right_leaves);
        fits = omega (arith, s.fits, ap (λ ls. byte_len (concat ls)) gi.leaves);
      }) i

      pub back_joined : (r : Tree) → IsJoin p g r → IsBack at n r
      back_joined r j =
          let low = gathered_least t.breaks t.height ys g s.after some gi in
          let high = gathered_most t.breaks t.height ys g s.after some gi in
          let x : text r ≡ text p ++ joined ys = j.recuts.same_text
          ∙ concat-append p.leaves g.leaves ∙ ap (λ ls. text p ++ concat ls) gi.leaves in
          record {
            text_is = x ∙ ap (λ z. z ++ joined ys) i.text_is ∙ sym back_text;
            same_breaks = j.same_breaks ∙ i.same_breaks ∙ s.same_breaks;
            leaves = j.recuts.leaves;
            not_higher = elim (cases_lt t.height g.height) [
              | inl l ↦ omega (
                arith,
                j.below_right (omega (arith, i.not_higher))
                    (omega (arith, s.few, gathered_width t.breaks t.height ys g s.after some gi l)),
                s.above,
              )
              | inr ge ↦ omega (arith, j.most, i.not_higher, s.above)
            ];
            near = λ _. enough;
            ahead = λ _. enough;
          }
        where
          enough : (a b : ℕ) → last_bytes a n.leaves ≤ last_bytes b r.leaves
          enough a b =
              let front = last_bytes a (leaves_of xs) in
              let last =
              j.recuts.last (rw gi.leaves
              (omega (arith, some, nodes_le t.breaks t.height ys s.after)))
              (last_bytes front t.leaves) b in
              rw (
                s.leaves_is,
                last_bytes-append a (leaves_of xs) (t.leaves ++ leaves_of ys),
                last_bytes-append front t.leaves (leaves_of ys),
              ) (rw gi.leaves at last)

-- a tree with text has a leaf
pub some_list : (ls : List (List ℕ)) → 1 ≤ length (concat ls) → 1 ≤ length ls
some_list [] some = absurd (omega arith)
some_list (l ∷ ls) some = omega arith

pub whole_back : (n r : Tree) (at : ℕ) → IsTree n → at ≡ 0 → 1 ≤ length (text n) → r ≡ n
    → IsBack at n r
whole_back n r at i z some e =
    rw (e, z) (record {
      text_is = refl;
      same_breaks = refl;
      leaves = i.leaves;
      not_higher = omega arith;
      near = λ _. all;
      ahead = λ _. all;
    })
  where
    all : (a b : ℕ) → last_bytes a n.leaves ≤ last_bytes b n.leaves
    all a b = omega (arith, last_bytes-some a b n.leaves (some_list n.leaves some))

pub whole_front : (n r : Tree) (at : ℕ) → IsTree n → at ≡ length (text n) → r ≡ n → IsFront at n r
whole_front n r at i e same =
    rw same (record {
      text_is = sym (take_all at (text n) (omega arith));
      same_breaks = refl;
      leaves = i.leaves;
      not_higher = omega arith;
      near = λ _ _ dense. dense;
      following = λ _ _ dense. dense;
    })

-- a side of a split leaf
pub leaf_front : (n r : Tree) (l : List ℕ) (at : ℕ) → n ≡ leaf_tree n.breaks l
    → r ≡ leaf_tree n.breaks (take at l) → IsTree r → 1 ≤ at → at < length l → IsFront at n r
leaf_front n r [] at is e i some lt = absurd (omega (arith, lt))
leaf_front n r (c ∷ cs) at is e i some lt =
    let low = ap (λ t. t.height) e in
    let one = ap (λ t. t.leaves) is in
    record {
      text_is = text_of_leaf n.breaks r (take at (c ∷ cs)) e
          ∙ ap (take at) (sym (text_of_leaf n.breaks n (c ∷ cs) is));
      same_breaks = ap (λ t. t.breaks) e;
      leaves = i.leaves;
      not_higher = omega (arith, low);
      near = λ high. absurd (omega (arith, low, high));
      following = λ s. absurd (omega (arith, lt, s.past, ap first_chars one));
    }

pub leaf_back : (n r : Tree) (l : List ℕ) (at : ℕ) → n ≡ leaf_tree n.breaks l
    → r ≡ leaf_tree n.breaks (drop at l) → IsTree r → 1 ≤ at → at < length l → IsBack at n r
leaf_back n r [] at is e i some lt = absurd (omega (arith, lt))
leaf_back n r (c ∷ cs) at is e i some lt =
    let low = ap (λ t. t.height) e in
    let whole = text_of_leaf n.breaks n (c ∷ cs) is in
    let last = ap (λ t. last_chars 0 t.leaves) is in
    record {
      text_is = text_of_leaf n.breaks r (drop at (c ∷ cs)) e ∙ ap (drop at) (sym whole);
      same_breaks = ap (λ t. t.breaks) e;
      leaves = i.leaves;
      not_higher = omega (arith, low);
      near = λ high. absurd (omega (arith, low, high));
      ahead = λ s. absurd (omega (arith, some, s.before, last, ap length whole));
    }

-- a side with characters has a leaf
pub front_some : (k : ℕ) (t p : Tree) → 1 ≤ k → k ≤ length (text t) → IsFront k t p
    → 1 ≤ length p.leaves
front_some k t p some le i =
    some_list p.leaves (omega (arith, ap length i.text_is, length-take-le k (text t) le, some))

pub back_some : (k : ℕ) (t p : Tree) → k < length (text t) → IsBack k t p → 1 ≤ length p.leaves
back_some k t p lt i =
    some_list p.leaves (omega (arith, ap length i.text_is, length-drop k (text t), lt))

-- a character of a node is before the end that the last total counts
pub under_last : (n : Tree) (br : LineBreaks) (h : ℕ) (totals : List TextInfo) (ts : List Tree)
    (at : ℕ) → n ≡ tree_over ts → AreChildren br h ts → HasTotals (breaks_of ts) totals ts
    → at < length (text n) → (d : TextInfo) → at < (get_or totals (length totals - 1) d).chars
under_last n br h totals ts at is a right lt d =
    let some : 1 ≤ length ts = omega (arith, a.at_least_two) in
    omega (
      arith,
      lt,
      ap (λ t. length (text t)) is,
      ap (λ i. i.chars) (last_total (breaks_of ts) totals ts right some d),
    )

-- a front is near any tree that the whole is near
pub front_is_near : (k : ℕ) (a t p : Tree) → IsDenseAfter (last_bytes 492 a.leaves) t.leaves
    → IsFront k t p → IsNear a p
front_is_near k a t p dense i =
    record { near = λ _ high. i.near high (last_bytes 492 a.leaves) dense }

pub back_is_near : (k : ℕ) (t a p : Tree) → IsDenseAfter (last_bytes 492 t.leaves) a.leaves
    → IsBack k t p → IsNear p a
back_is_near k t a p dense i =
    record {
      near =
          λ high _. dense_more (last_bytes 492 t.leaves) (last_bytes 492 p.leaves) a.leaves
          (i.near high 492 492) dense;
    }

-- two adjacent children
pub beside_at : (br : LineBreaks) (h : ℕ) (ts : List Tree) (k : ℕ) (a b : Tree)
    → AreChildren br h ts → k + 1 < length ts → get_or ts k a ≡ a → get_or ts (k + 1) b ≡ b
    → AreBeside a b
beside_at br h ts k a b c lt first second =
    let one = child_at br h ts k a c (omega arith) first in
    let other = child_at br h ts (k + 1) b c lt second in
    let l : leaves_of ts ≡ leaves_of (take k ts) ++ (a.leaves ++ leaves_of (drop (k + 1) ts)) =
    subst (λ u. leaves_of ts ≡ leaves_of (take k ts) ++ (u.leaves ++ leaves_of (drop (k + 1) ts)))
    first (leaves_at ts k a (omega arith)) in
    let x = text_around br h ts k a c (omega arith) first in
    let e : drop (k + 1) ts ≡ b ∷ drop (k + 2) ts =
    drop_more ts (k + 1) b lt ∙ ap (λ u. u ∷ drop (k + 1 + 1) ts) second
    ∙ ap (λ n. b ∷ drop n ts) (omega arith) in
    let both : AreLeaves (a.leaves ++ (b.leaves ++ leaves_of (drop (k + 2) ts))) =
    subst (λ us. AreLeaves (a.leaves ++ leaves_of us)) e
    (leaves_right (leaves_of (take k ts)) (a.leaves ++ leaves_of (drop (k + 1) ts))
    (subst AreLeaves l c.leaves)) in
    let seam : IsSeam (text a) (text b ++ joined (drop (k + 2) ts)) =
    rw (concat-append b.leaves (leaves_of (drop (k + 2) ts))) at
    (leaves_seam a.leaves (b.leaves ++ leaves_of (drop (k + 2) ts)) both) in
    let rest : byte_len (joined (drop (k + 1) ts))
    ≡ byte_len (text b) + byte_len (joined (drop (k + 2) ts)) =
    ap (λ us. byte_len (joined us)) e
    ∙ ap byte_len (concat-append b.leaves (leaves_of (drop (k + 2) ts)))
    ∙ IsMeasure-byte_len.joined (text b) (joined (drop (k + 2) ts)) in
    record {
      level = one.at_height ∙ sym other.at_height;
      left_some = one.some;
      right_some = other.some;
      join = record {
        same_breaks = other.same_breaks ∙ sym one.same_breaks;
        seam = seam_of_left (text a) (text b) (joined (drop (k + 2) ts)) seam;
        fits = omega (
          arith,
          c.fits,
          ap byte_len x,
          IsMeasure-byte_len.joined (joined (take k ts)) (text a ++ joined (drop (k + 1) ts)),
          IsMeasure-byte_len.joined (text a) (joined (drop (k + 1) ts)),
          rest,
        );
      };
      near = dense_left (last_bytes 492 a.leaves) b.leaves (leaves_of (drop (k + 2) ts))
          (leaves_near a.leaves (b.leaves ++ leaves_of (drop (k + 2) ts)) both);
    }
