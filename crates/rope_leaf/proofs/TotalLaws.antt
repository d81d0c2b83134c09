-- The totals of a list of children after one of them changed.
use Rattle.std.proofs.Common.{◌≡◌, ℕ, zero, suc, ◌+◌, ◌<◌, ◌≤◌, ◌^◌, inl, inr, List, length, get_or, set, take, sym, ap, subst, add-one, ◌∙◌, arith}
use Rattle.std.proofs.lemmas.Bool.{cases_lt}
use Rattle.std.proofs.lemmas.List.{length-set, take-set-le, get_or-set_same, get_or-set_other, get_or_default}
use Rattle.rope_text.specs.declared.line_breaks.LineBreaks.{LineBreaks}
use Rattle.rope_text.specs.declared.text_info.TextInfo.{TextInfo}
use Rattle.rope_text.specs.Text.{byte_len}
use Rattle.rope_text.specs.TextInfo.{info_of, info_sum, HasPart}
use Rattle.rope_text.proofs.InfoLaws.{same_info}
use Rattle.rope_leaf.specs.Tree.{Tree, text, joined, AreChildren}
use Rattle.rope_leaf.specs.Totals.{HasTotals}
use Rattle.rope_leaf.specs.Narrow.{FitsWith}
use Rattle.rope_leaf.proofs.Infos.{info_within}
use Rattle.rope_leaf.proofs.NodeLaws.{more_at, byte_len-joined}

-- an entry of a list in which the counts of a slice are replaced
pub sum_at : (xs : List TextInfo) (i : ℕ) (d e old new less more : TextInfo) → i < length xs
    → info_sum old less ≡ get_or xs i e → more ≡ info_sum less new
    → info_sum more old ≡ info_sum (get_or xs i d) new
sum_at xs i d e old new less more lt part sum =
    let is : info_sum old less ≡ get_or xs i d = part ∙ get_or_default xs i e d lt in
    same_info (info_sum more old) (info_sum (get_or xs i d) new)
    (omega (arith, ap (λ t. t.bytes) is, ap (λ t. t.bytes) sum))
    (omega (arith, ap (λ t. t.chars) is, ap (λ t. t.chars) sum))
    (omega (arith, ap (λ t. t.utf16_surrogates) is, ap (λ t. t.utf16_surrogates) sum))
    (omega (arith, ap (λ t. t.break_count) is, ap (λ t. t.break_count) sum))

pub sums_more : (x y i j n : TextInfo) → info_sum x i ≡ info_sum y j
    → info_sum (info_sum x n) i ≡ info_sum (info_sum y n) j
sums_more x y i j n e =
    same_info (info_sum (info_sum x n) i) (info_sum (info_sum y n) j)
    (omega (arith, ap (λ t. t.bytes) e)) (omega (arith, ap (λ t. t.chars) e))
    (omega (arith, ap (λ t. t.utf16_surrogates) e)) (omega (arith, ap (λ t. t.break_count) e))

sums_turned : (x i j : TextInfo) → info_sum (info_sum x j) i ≡ info_sum (info_sum x i) j
sums_turned x i j =
    same_info (info_sum (info_sum x j) i) (info_sum (info_sum x i) j) (omega arith) (omega arith)
    (omega arith) (omega arith)

pub sums_cancel : (x y i : TextInfo) → info_sum x i ≡ info_sum y i → x ≡ y
sums_cancel x y i e =
    same_info x y (omega (arith, ap (λ t. t.bytes) e)) (omega (arith, ap (λ t. t.chars) e))
    (omega (arith, ap (λ t. t.utf16_surrogates) e)) (omega (arith, ap (λ t. t.break_count) e))

pub part_last : (x i : TextInfo) → HasPart (info_sum x i) i
part_last x i = record {
  bytes = omega arith;
  chars = omega arith;
  pairs = omega arith;
  breaks = omega arith;
}

pub part_more : (x i n : TextInfo) → HasPart x i → HasPart (info_sum x n) i
part_more x i n p = record {
  bytes = omega (arith, p.bytes);
  chars = omega (arith, p.chars);
  pairs = omega (arith, p.pairs);
  breaks = omega (arith, p.breaks);
}

pub get_or_self : (xs : List Tree) (m : ℕ) (d : Tree) → m < length xs
    → get_or xs m (get_or xs m d) ≡ get_or xs m d
get_or_self xs m d within = get_or_default xs m (get_or xs m d) d within

module _ (br : LineBreaks) (h : ℕ) (ts us : List Tree) (k : ℕ) (c u : Tree)
    (a : AreChildren br h ts) (lt : k < length ts) (here : get_or ts k c ≡ c) where
  -- the counts of the first m children
  abbrev pub counted : List Tree → ℕ → TextInfo
  counted xs m = info_of br (joined (take m xs))

  -- the counts of the child are included in each prefix that has it
  has_own : (m : ℕ) → k ≡ m → HasPart (counted ts (m + 1)) (info_of br (text c))
  has_own m e =
      subst (λ n. HasPart (counted ts (n + 1)) (info_of br (text c))) e
      (subst (λ x. HasPart x (info_of br (text c))) (sym (more_at br h ts k c a lt here))
      (part_last (counted ts k) (info_of br (text c))))

  pub has_part : (m : ℕ) → k ≤ m → m < length ts
      → HasPart (counted ts (m + 1)) (info_of br (text c))
  has_part zero le within = has_own 0 (omega arith)
  has_part (suc m) le within = elim (cases_lt k (suc m)) [
    | inl l ↦
        let before =
        subst (λ n. HasPart (counted ts n) (info_of br (text c))) (add-one m)
        (has_part m (omega arith) (omega arith)) in
        subst (λ x. HasPart x (info_of br (text c)))
        (sym (more_at br h ts (suc m) (get_or ts (suc m) c) a within
        (get_or_self ts (suc m) c within)))
        (part_more (counted ts (suc m)) (info_of br (text c))
        (info_of br (text (get_or ts (suc m) c))) before)
    | inr ge ↦ has_own (suc m) (omega arith)
  ]

  -- in each prefix that has it, the counts of the changed child replace those of the old one
  module _ (b : AreChildren br h us) (is : us ≡ set ts k u) where
    same_front : (m : ℕ) → m ≤ k → counted us m ≡ counted ts m
    same_front m le = ap (λ xs. info_of br (joined (take m xs))) is
        ∙ ap (λ xs. info_of br (joined xs)) (take-set-le m ts k u le)

    as_many : length us ≡ length ts
    as_many = ap length is ∙ length-set ts k u

    now_here : get_or us k u ≡ u
    now_here = ap (λ xs. get_or xs k u) is ∙ get_or-set_same ts k u u lt

    even_own : (m : ℕ) → k ≡ m → info_sum (counted us (m + 1)) (info_of br (text c))
        ≡ info_sum (counted ts (m + 1)) (info_of br (text u))
    even_own m e =
        let now = more_at br h us k u b (omega (arith, as_many)) now_here
        ∙ ap (λ x. info_sum x (info_of br (text u))) (same_front k (omega arith)) in
        let old = more_at br h ts k c a lt here in
        subst (λ n. info_sum (counted us (n + 1)) (info_of br (text c))
        ≡ info_sum (counted ts (n + 1)) (info_of br (text u))) e
        (ap (λ x. info_sum x (info_of br (text c))) now
        ∙ sums_turned (counted ts k) (info_of br (text c)) (info_of br (text u))
        ∙ ap (λ x. info_sum x (info_of br (text u))) (sym old))

    pub even : (m : ℕ) → k ≤ m → m < length ts
        → info_sum (counted us (m + 1)) (info_of br (text c))
        ≡ info_sum (counted ts (m + 1)) (info_of br (text u))
    even zero le within = even_own 0 (omega arith)
    even (suc m) le within = elim (cases_lt k (suc m)) [
      | inl l ↦
          let d = get_or ts (suc m) c in
          let there : get_or us (suc m) d ≡ d = ap (λ xs. get_or xs (suc m) d) is
          ∙ get_or-set_other ts k (suc m) u d (λ e. absurd (omega arith))
          ∙ get_or_self ts (suc m) c within in
          let before =
          subst (λ n. info_sum (counted us n) (info_of br (text c))
          ≡ info_sum (counted ts n) (info_of br (text u))) (add-one m)
          (even m (omega arith) (omega arith)) in
          let now = more_at br h us (suc m) d b (omega (arith, as_many)) there in
          let old = more_at br h ts (suc m) d a within (get_or_self ts (suc m) c within) in
          ap (λ x. info_sum x (info_of br (text c))) now
          ∙ sums_more (counted us (suc m)) (counted ts (suc m)) (info_of br (text c))
          (info_of br (text u)) (info_of br (text d)) before
          ∙ ap (λ x. info_sum x (info_of br (text u))) (sym old)
      | inr ge ↦ even_own (suc m) (omega arith)
    ]

    -- if the whole text has few bytes, so has each prefix
    pub fits_after : byte_len (joined us) < 2 ^ 32 → (m : ℕ) → k ≤ m → m < length ts
        → FitsWith (counted ts (m + 1)) (info_of br (text c)) (info_of br (text u))
    fits_after few m from within =
        let low =
        info_within br (joined (take (m + 1) us)) 4294967295
        (omega (arith, byte_len-joined us (m + 1), few)) in
        let e = even m from within in
        record {
          bytes = omega (arith, low.bytes, ap (λ t. t.bytes) e);
          chars = omega (arith, low.chars, ap (λ t. t.chars) e);
          pairs = omega (arith, low.pairs, ap (λ t. t.utf16_surrogates) e);
          breaks = omega (arith, low.breaks, ap (λ t. t.break_count) e);
        }

    -- the totals are correct after the change
    pub totals_after : (totals after : List TextInfo) → HasTotals br totals ts
        → length after ≡ length totals
        → ((j : ℕ) (d : TextInfo) → j < k → get_or after j d ≡ get_or totals j d)
        → ((j : ℕ) (d : TextInfo) → k ≤ j → j < length totals
        → info_sum (get_or after j d) (info_of br (text c))
        ≡ info_sum (get_or totals j d) (info_of br (text u)))
        → HasTotals br after us
    totals_after totals after t len before past = record {
      as_many = omega (arith, len, t.as_many, as_many);
      total_at = λ j d within. elim (cases_lt j k) [
        | inl l ↦ before j d l ∙ t.total_at j d (omega (arith, as_many))
            ∙ sym (same_front (j + 1) (omega arith))
        | inr ge ↦
            sums_cancel (get_or after j d) (counted us (j + 1)) (info_of br (text c))
            (past j d ge (omega (arith, t.as_many, as_many))
            ∙ ap (λ x. info_sum x (info_of br (text u))) (t.total_at j d (omega (arith, as_many)))
            ∙ sym (even j ge (omega (arith, as_many))))
      ];
    }
