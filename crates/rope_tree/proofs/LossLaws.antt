-- A child that lost characters among its siblings, and two that lost them one after another.
use Rattle.std.proofs.Common.{◌≡◌, ℕ, zero, suc, ◌+◌, ◌-◌, ◌<◌, ◌≤◌, ◌^◌, min, List, [], ◌∷◌, ◌++◌, length, get_or, set, take, drop, refl, sym, ap, ◌∙◌, arith}
use Rattle.std.proofs.Math.Seq.{drop-append-add}
use Rattle.std.proofs.lemmas.List.{length-take-le, take-append-le, take-take, drop-drop}
use Rattle.rope_text.specs.declared.line_breaks.LineBreaks.{LineBreaks}
use Rattle.rope_text.specs.declared.text_info.TextInfo.{TextInfo}
use Rattle.rope_text.specs.Text.{byte_len}
use Rattle.rope_text.specs.TextInfo.{info_of, info_sum, HasPart}
use Rattle.rope_text.specs.Edit.{removed}
use Rattle.rope_text.specs.Dense.{IsDenseAfter, last_bytes}
use Rattle.rope_text.proofs.DenseLaws.{dense_after_fewer}
use Rattle.rope_text.proofs.Measures.{IsMeasure-byte_len}
use Rattle.rope_leaf.specs.Leaves.{StandFor, IsEnoughAfter, IsEnoughAhead}
use Rattle.rope_leaf.specs.Tree.{Tree, text, joined, leaves_of, height_of, breaks_of, IsChild, AreChildren}
use Rattle.rope_leaf.specs.Totals.{HasTotals}
use Rattle.rope_leaf.specs.Narrow.{AreNarrow, FitsWith}
use Rattle.rope_leaf.specs.Change.{IsChange}
use Rattle.rope_leaf.specs.Removal.{IsRemoved, AreRemoved}
use Rattle.rope_leaf.proofs.NodeLaws.{child_at, joined_more}
use Rattle.rope_leaf.proofs.BesideLaws.{leaf_next_after, leaf_next_ahead}
use Rattle.rope_leaf.proofs.ChangeLaws.{part_of_part, part_fits, whole_changed, change_by, change_own, change_of_list}
use Rattle.rope_leaf.proofs.InsertDescents.{last_total}
use Rattle.rope_leaf.proofs.TotalLaws.{has_part, fits_after}
use Rattle.rope_tree.proofs.ListedLaws.{set_totals}
use Rattle.rope_leaf.proofs.RemovalLaws.{Holds, byte_len-removed, children_removed}

module _ (ts : List Tree) (k : ℕ) (c u : Tree) (i j start end : ℕ)
    (a : AreChildren (breaks_of ts) (height_of ts) ts) (lt : k < length ts)
    (here : get_or ts k c ≡ c)
    (held : Holds ts k c i j start end) (wanted ahead low high : ℕ) (r : IsRemoved low high c u i j)
    (enough : IsEnoughAfter wanted low (leaves_of (take k ts)))
    (more : IsEnoughAhead ahead high (leaves_of (drop (k + 1) ts))) where
  own : IsChild (breaks_of ts) (height_of ts) c
  own = child_at (breaks_of ts) (height_of ts) ts k c a lt here

  -- the children without the characters
  pub lost : AreRemoved wanted ahead ts (set ts k u) start end
  lost =
      children_removed (breaks_of ts) (height_of ts) ts k c a lt here i j start end held
      wanted ahead low high u r enough more refl refl

  -- the decrease of the child's counts, and the totals that include them
  module _ (less none : TextInfo)
      (fell : IsChange less none (info_of c.breaks (text c)) (info_of c.breaks (text u)))
      (totals : List TextInfo) (right : HasTotals (breaks_of ts) totals ts) where
    by_list : IsChange less none (info_of (breaks_of ts) (text c)) (info_of (breaks_of ts) (text u))
    by_list = change_by (breaks_of ts) c u less none own.same_breaks fell

    pub lost_part : (m : ℕ) (d : TextInfo) → k ≤ m → m < length totals
        → HasPart (get_or totals m d) less
    lost_part m d from within =
        let inside : m < length ts = omega (arith, right.as_many, within) in
        part_of_part less none _ _ by_list (get_or totals m d)
        (rw (right.total_at m d inside)
        (has_part (breaks_of ts) (height_of ts) ts ts k c c a lt here m from inside))

    pub lost_fits : AreNarrow totals → (m : ℕ) (d : TextInfo) → k ≤ m → m < length totals
        → FitsWith (get_or totals m d) less none
    lost_fits narrow m d from within =
        let inside : m < length ts = omega (arith, right.as_many, within) in
        let last = last_total (breaks_of ts) totals ts right (omega (arith, a.at_least_two)) d in
        let few : byte_len (joined (set ts k u)) < 2 ^ 32 =
        omega (
          arith,
          (narrow (length totals - 1) d (omega (arith, within))).bytes,
          ap (λ x. x.bytes) last,
          ap byte_len lost.text_is,
          byte_len-removed (joined ts) start end (omega (arith, held.first, held.last, held.order)),
        ) in
        part_fits less none _ _ by_list _ (rw (right.total_at m d inside)
        (fits_after (breaks_of ts) (height_of ts) ts (set ts k u) k c u a lt here lost.children refl
        few m from inside))

    pub lost_totals : (now : List TextInfo) → length now ≡ length totals
        → ((m : ℕ) (d : TextInfo) → m < k → get_or now m d ≡ get_or totals m d)
        → ((m : ℕ) (d : TextInfo) → k ≤ m → m < length totals
        → info_sum (get_or now m d) less ≡ info_sum (get_or totals m d) none)
        → HasTotals (breaks_of (set ts k u)) now (set ts k u)
    lost_totals now len before past =
        set_totals ts k c u totals totals now _ _ a lt here own.same_breaks lost.children
        (r.same_breaks ∙ own.same_breaks)
        right refl refl refl len before
        (λ m d from within. whole_changed less none _ _
        (change_own c u less none r.same_breaks fell) _ _ (past m d from within))

    pub lost_all : IsChange less none (info_of (breaks_of ts) (joined ts))
        (info_of (breaks_of ts) (joined (set ts k u)))
    lost_all = change_of_list (breaks_of ts) (height_of ts) ts k c u a lt here lost.children less
        none by_list

-- two adjacent ranges, removed one after another
removed_twice : (t : List ℕ) (a b c : ℕ) → a ≤ b → b ≤ c → b ≤ length t
    → removed (removed t a b) a (a + (c - b)) ≡ removed t a c
removed_twice t a b c first second within =
    let n : length (take a t) ≡ a = length-take-le a t (omega arith) in
    let all : b + (c - b) ≡ c = omega arith in
    let front : take a (take a t ++ drop b t) ≡ take a t =
    take-append-le a (take a t) (drop b t) (omega (arith, n)) ∙ take-take a a t (omega arith) in
    let back : drop (a + (c - b)) (take a t ++ drop b t) ≡ drop c t =
    ap (λ m. drop (m + (c - b)) (take a t ++ drop b t)) (sym n)
    ∙ drop-append-add (take a t) (drop b t) (c - b)
    ∙ drop-drop (c - b) b t ∙ ap (λ m. drop m t) all in
    rw (front, back) refl

stand_twice : (first last : ℕ) (old mid new : List (List ℕ)) → StandFor first last old mid
    → StandFor first last mid new → StandFor first last old new
stand_twice first last old mid new s t = record {
  after = λ n some dense. t.after n some (s.after n some dense);
  ahead = λ n. omega (arith, s.ahead n, t.ahead n);
}

pub lost_twice : (first last : ℕ) (ts us vs : List Tree) (a b c : ℕ) → a ≤ b → b ≤ c
    → b ≤ length (joined ts)
    → breaks_of us ≡ breaks_of ts → height_of us ≡ height_of ts
    → AreRemoved first last ts us a b → AreRemoved first last us vs a (a + (c - b))
    → AreRemoved first last ts vs a c
lost_twice first last ts us vs a b c le more within sets heights r s = record {
  text_is = s.text_is ∙ ap (λ x. removed x a (a + (c - b))) r.text_is
      ∙ removed_twice (joined ts) a b c le more within;
  ends = record {
    before = λ p seam. s.ends.before p (r.ends.before p seam);
    after = λ n seam. s.ends.after n (r.ends.after n seam);
  };
  as_many = s.as_many ∙ r.as_many;
  as_many_leaves = s.as_many_leaves ∙ r.as_many_leaves;
  children = rw (sets, heights) at s.children;
  stand = stand_twice first last (leaves_of ts) (leaves_of us) (leaves_of vs) r.stand s.stand;
}

-- a leaf among leaves, and the bytes that it needs beside them
module _ (br : LineBreaks) (ts : List Tree) (k : ℕ) (c : Tree) (a : AreChildren br 0 ts)
    (lt : k < length ts)
    (here : get_or ts k c ≡ c) (least n : ℕ) (less : n ≤ byte_len (text c)) (is : least ≡ 492 - n)
  where
    abbrev before : ℕ
    before = byte_len (joined (take k ts))

    abbrev total : ℕ
    total = byte_len (joined (take (k + 1) ts))

    own_bytes : total ≡ before + byte_len (text c)
    own_bytes =
        ap byte_len (joined_more ts k c lt)
        ∙ IsMeasure-byte_len.joined (joined (take k ts)) (text (get_or ts k c))
        ∙ ap (λ t. before + byte_len (text t)) here

    pub enough_after : (m : ℕ) → 492 ≤ last_bytes m (leaves_of (take (k + 1) ts)) + least
    enough_after m =
        omega (
          arith,
          is,
          less,
          own_bytes,
          leaf_next_after br 0 ts k a lt refl before total (min (492 - (total - before)) 491) refl
              refl refl m,
        )

    pub enough_before : IsDenseAfter least (leaves_of (drop k ts))
    enough_before =
        let few : ℕ = min (492 - (total - before)) 491 in
        let dense = leaf_next_ahead br 0 ts k a lt refl before total few refl refl refl in
        dense_after_fewer few few least (leaves_of (drop k ts)) (omega (arith, is, less, own_bytes))
        dense dense

-- two overwritten entries of a list, each in a slice of it
rest_set : (xs : List Tree) (n : ℕ) (v : Tree) → n < length xs
    → take n xs ++ set (drop n xs) 0 v ≡ set xs n v
rest_set [] n v lt = absurd (omega arith)
rest_set (x ∷ xs) zero v lt = refl
rest_set (x ∷ xs) (suc n) v lt = ap (λ l. x ∷ l) (rest_set xs n v (omega (arith, lt)))

pub both_set : (xs : List Tree) (k n : ℕ) (u v : Tree) → k < n → n < length xs
    → set (take n xs) k u ++ set (drop n xs) 0 v ≡ set (set xs k u) n v
both_set [] k n u v lt within = absurd (omega arith)
both_set (x ∷ xs) k zero u v lt within = absurd (omega arith)
both_set (x ∷ xs) zero (suc n) u v lt within =
    ap (λ l. u ∷ l) (rest_set xs n v (omega (arith, within)))
both_set (x ∷ xs) (suc k) (suc n) u v lt within =
    ap (λ l. x ∷ l) (both_set xs k n u v (omega (arith, lt)) (omega (arith, within)))
