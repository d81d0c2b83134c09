-- The totals of a list of children after one of them was split into two.
use Rattle.std.proofs.Common.{◌≡◌, ℕ, zero, suc, ◌+◌, ◌-◌, ◌<◌, ◌≤◌, ◌^◌, inl, inr, List, length, get_or, set, take, refl, sym, ap, subst, add-one, ◌∙◌, arith}
use Rattle.std.specs.List.{insert}
use Rattle.std.proofs.lemmas.Bool.{cases_lt}
use Rattle.std.proofs.lemmas.List.{length-set, take-set-le, take-append-le, take-take, length-take-le, take_all, get_or-set_same, get_or-set_other}
use Rattle.std.proofs.lemmas.List.Edits.{length-insert, get_or-insert_at, get_or-insert_below, get_or-insert_above}
use Rattle.rope_text.specs.declared.line_breaks.LineBreaks.{LineBreaks}
use Rattle.rope_text.specs.declared.text_info.TextInfo.{TextInfo}
use Rattle.rope_text.specs.Text.{byte_len}
use Rattle.rope_text.specs.TextInfo.{info_of, info_sum}
use Rattle.rope_text.proofs.InfoLaws.{same_info}
use Rattle.rope_leaf.specs.Tree.{Tree, text, joined, height_of, breaks_of, IsChild, AreChildren}
use Rattle.rope_leaf.specs.Totals.{HasTotals}
use Rattle.rope_leaf.specs.Narrow.{IsNarrow, AreNarrow, FitsWith}
use Rattle.rope_leaf.specs.Search.{IsSmall}
use Rattle.rope_leaf.proofs.Infos.{info_within, small_info}
use Rattle.rope_leaf.proofs.NodeLaws.{child_at, more_at, byte_len-joined}
use Rattle.rope_leaf.proofs.TotalLaws.{sums_more, sums_cancel, get_or_self}

-- the counts of the first m children
abbrev counted : LineBreaks → List Tree → ℕ → TextInfo
counted br xs m = info_of br (joined (take m xs))

-- two halves in place of one child
sums_split : (t c u x : TextInfo) → info_sum (info_sum (info_sum t u) x) c
    ≡ info_sum (info_sum t c) (info_sum u x)
sums_split t c u x =
    same_info (info_sum (info_sum (info_sum t u) x) c) (info_sum (info_sum t c) (info_sum u x))
    (omega arith) (omega arith) (omega arith) (omega arith)

-- the child c at k was split into u and x
pub record Cuts (ts us : List Tree) (k : ℕ) (c u x : Tree) : Type 0 where
  pub children : AreChildren (breaks_of ts) (height_of ts) ts
  pub within : k < length ts
  pub child_is : get_or ts k c ≡ c
  pub after : AreChildren (breaks_of ts) (height_of ts) us
  pub is : us ≡ insert (set ts k u) (k + 1) x

module _ (ts us : List Tree) (k : ℕ) (c u x : Tree) (cut : Cuts ts us k c u x) where
  places : k + 1 ≤ length (set ts k u)
  places = omega (arith, cut.within, length-set ts k u)

  as_many : length us ≡ length ts + 1
  as_many =
      omega (
        arith,
        ap length cut.is,
        length-insert (set ts k u) (k + 1) x places,
        length-set ts k u,
      )

  first_here : get_or us k u ≡ u
  first_here = ap (λ l. get_or l k u) cut.is
      ∙ get_or-insert_below (set ts k u) (k + 1) x u k (omega arith) places
      ∙ get_or-set_same ts k u u cut.within

  second_here : get_or us (k + 1) x ≡ x
  second_here = ap (λ l. get_or l (k + 1) x) cut.is
      ∙ get_or-insert_at (set ts k u) (k + 1) x x places

  other_here : (j : ℕ) (d : Tree) → k < j → get_or us (j + 1) d ≡ get_or ts j d
  other_here j d past =
      ap (λ l. get_or l (j + 1) d) cut.is
      ∙ get_or-insert_above (set ts k u) (k + 1) x d j (omega arith) places
      ∙ get_or-set_other ts k j u d (λ e. absurd (omega (arith, e, past)))

  pub same_front : (m : ℕ) → m ≤ k → counted (breaks_of ts) us m ≡ counted (breaks_of ts) ts m
  same_front m le =
      let ws = set ts k u in
      let long : length (take (k + 1) ws) ≡ k + 1 = length-take-le (k + 1) ws places in
      let front : take m us ≡ take m ts =
      ap (take m) cut.is ∙ take-append-le m (take (k + 1) ws) _ (omega (arith, long, le))
      ∙ take-take m (k + 1) ws (omega (arith, le)) ∙ take-set-le m ts k u le in
      ap (λ l. info_of (breaks_of ts) (joined l)) front

  -- the counts of the first half end where the second begins
  pub first_more : counted (breaks_of ts) us (k + 1)
      ≡ info_sum (counted (breaks_of ts) ts k) (info_of (breaks_of ts) (text u))
  first_more =
      more_at (breaks_of ts) (height_of ts) us k u cut.after (omega (arith, as_many, cut.within))
      first_here ∙ ap (λ t. info_sum t (info_of (breaks_of ts) (text u)))
      (same_front k (omega arith))

  abbrev both : TextInfo
  both = info_sum (info_of (breaks_of ts) (text u)) (info_of (breaks_of ts) (text x))

  even_own : (m : ℕ) → k ≡ m
      → info_sum (counted (breaks_of ts) us (m + 1 + 1)) (info_of (breaks_of ts) (text c))
      ≡ info_sum (counted (breaks_of ts) ts (m + 1)) both
  even_own m e =
      let second =
      more_at (breaks_of ts) (height_of ts) us (k + 1) x cut.after
      (omega (arith, as_many, cut.within)) second_here in
      let now : counted (breaks_of ts) us (k + 1 + 1)
      ≡ info_sum (info_sum (counted (breaks_of ts) ts k) (info_of (breaks_of ts) (text u)))
      (info_of (breaks_of ts) (text x)) = second
      ∙ ap (λ t. info_sum t (info_of (breaks_of ts) (text x))) first_more in
      let old = more_at (breaks_of ts) (height_of ts) ts k c cut.children cut.within cut.child_is in
      subst (λ n. info_sum (counted (breaks_of ts) us (n + 1 + 1)) (info_of (breaks_of ts) (text c))
      ≡ info_sum (counted (breaks_of ts) ts (n + 1)) both) e
      (ap (λ t. info_sum t (info_of (breaks_of ts) (text c))) now
      ∙ sums_split (counted (breaks_of ts) ts k) (info_of (breaks_of ts) (text c))
      (info_of (breaks_of ts) (text u)) (info_of (breaks_of ts) (text x))
      ∙ ap (λ t. info_sum t both) (sym old))

  -- in each prefix that has both halves, their counts replace those of the old child
  pub even : (m : ℕ) → k ≤ m → m < length ts
      → info_sum (counted (breaks_of ts) us (m + 1 + 1)) (info_of (breaks_of ts) (text c))
      ≡ info_sum (counted (breaks_of ts) ts (m + 1)) both
  even zero le within = even_own 0 (omega (arith, le))
  even (suc m) le within = elim (cases_lt k (suc m)) [
    | inl l ↦
        let d = get_or ts (suc m) c in
        let there : get_or us (suc m + 1) d ≡ d = other_here (suc m) d l
        ∙ get_or_self ts (suc m) c within in
        let before =
        subst (λ n. info_sum (counted (breaks_of ts) us (n + 1)) (info_of (breaks_of ts) (text c))
        ≡ info_sum (counted (breaks_of ts) ts n) both) (add-one m)
        (even m (omega (arith, l)) (omega (arith, within))) in
        let now =
        more_at (breaks_of ts) (height_of ts) us (suc m + 1) d cut.after
        (omega (arith, as_many, within)) there in
        let old =
        more_at (breaks_of ts) (height_of ts) ts (suc m) d cut.children within
        (get_or_self ts (suc m) c within) in
        ap (λ t. info_sum t (info_of (breaks_of ts) (text c))) now
        ∙ sums_more (counted (breaks_of ts) us (suc m + 1)) (counted (breaks_of ts) ts (suc m))
        (info_of (breaks_of ts) (text c)) both (info_of (breaks_of ts) (text d)) before
        ∙ ap (λ t. info_sum t both) (sym old)
    | inr ge ↦ even_own (suc m) (omega (arith, le, ge))
  ]

  -- both halves are children
  pub own_first : IsChild (breaks_of ts) (height_of ts) u
  own_first =
      child_at (breaks_of ts) (height_of ts) us k u cut.after (omega (arith, as_many, cut.within))
      first_here

  pub own_second : IsChild (breaks_of ts) (height_of ts) x
  own_second =
      child_at (breaks_of ts) (height_of ts) us (k + 1) x cut.after
      (omega (arith, as_many, cut.within)) second_here

  pub small_both : IsSmall both
  small_both =
      let first = small_info (breaks_of ts) (text u) own_first.tree.fits in
      let second = small_info (breaks_of ts) (text x) own_second.tree.fits in
      let e = even_own k refl in
      let old = more_at (breaks_of ts) (height_of ts) ts k c cut.children cut.within cut.child_is in
      let all = byte_len-joined us (k + 1 + 1) in
      record {
        bytes = omega (arith, ap (λ t. t.bytes) e, ap (λ t. t.bytes) old, all, cut.after.fits);
        chars = omega (arith, first.chars, second.chars);
        pairs = omega (arith, first.pairs, second.pairs);
        breaks = omega (arith, first.breaks, second.breaks);
      }

  -- if the whole text has few bytes, so has each prefix
  pub cut_fits : byte_len (joined us) < 2 ^ 32 → (m : ℕ) → k ≤ m → m < length ts
      → FitsWith (counted (breaks_of ts) ts (m + 1)) (info_of (breaks_of ts) (text c)) both
  cut_fits few m from within =
      let low =
      info_within (breaks_of ts) (joined (take (m + 1 + 1) us)) 4294967295
      (omega (arith, byte_len-joined us (m + 1 + 1), few)) in
      let e = even m from within in
      record {
        bytes = omega (arith, low.bytes, ap (λ t. t.bytes) e);
        chars = omega (arith, low.chars, ap (λ t. t.chars) e);
        pairs = omega (arith, low.pairs, ap (λ t. t.utf16_surrogates) e);
        breaks = omega (arith, low.breaks, ap (λ t. t.break_count) e);
      }

  pub first_narrow : byte_len (joined us) < 2 ^ 32
      → IsNarrow (info_sum (counted (breaks_of ts) ts k) (info_of (breaks_of ts) (text u)))
  first_narrow few =
      let low =
      info_within (breaks_of ts) (joined (take (k + 1) us)) 4294967295
      (omega (arith, byte_len-joined us (k + 1), few)) in
      rw (sym first_more) (record {
        bytes = omega (arith, low.bytes);
        chars = omega (arith, low.chars);
        pairs = omega (arith, low.pairs);
        breaks = omega (arith, low.breaks);
      })

  -- the totals are correct after the split
  pub totals_cut : (totals mid after : List TextInfo) (total : TextInfo)
      → HasTotals (breaks_of ts) totals ts → length mid ≡ length totals
      → ((j : ℕ) (d : TextInfo) → j < k → get_or mid j d ≡ get_or totals j d)
      → ((j : ℕ) (d : TextInfo) → k ≤ j → j < length totals
      → info_sum (get_or mid j d) (info_of (breaks_of ts) (text c))
      ≡ info_sum (get_or totals j d) both)
      → total ≡ info_sum (counted (breaks_of ts) ts k) (info_of (breaks_of ts) (text u))
      → length after ≡ length mid + 1
      → ((j : ℕ) (d : TextInfo) → j < k → get_or after j d ≡ get_or mid j d)
      → ((d : TextInfo) → get_or after k d ≡ total)
      → ((j : ℕ) (d : TextInfo) → k ≤ j → j < length mid → get_or after (j + 1) d ≡ get_or mid j d)
      → HasTotals (breaks_of ts) after us
  totals_cut totals mid after total t len before past total_is more early own late = record {
    as_many = omega (arith, more, len, t.as_many, as_many);
    total_at = λ j d within. elim (cases_lt j k) [
      | inl l ↦ early j d l ∙ before j d l ∙ t.total_at j d (omega (arith, l, cut.within))
          ∙ sym (same_front (j + 1) (omega (arith, l)))
      | inr ge ↦ elim (cases_lt k j) [
        | inl l ↦
            let i : ℕ = j - 1 in
            let i_is : i + 1 ≡ j = omega (arith, l) in
            let from : k ≤ i = omega (arith, l) in
            let to : i < length ts = omega (arith, within, as_many, l) in
            let many : i < length totals = omega (arith, to, t.as_many) in
            let sum = past i d from many ∙ ap (λ y. info_sum y both) (t.total_at i d to)
            ∙ sym (even i from to) in
            let moved = late i d from (omega (arith, many, len))
            ∙ sums_cancel (get_or mid i d) (counted (breaks_of ts) us (i + 1 + 1))
            (info_of (breaks_of ts) (text c)) sum in
            subst (λ n. get_or after n d ≡ counted (breaks_of ts) us (n + 1)) i_is moved
        | inr le ↦
            let e : k ≡ j = omega (arith, ge, le) in
            subst (λ n. get_or after n d ≡ counted (breaks_of ts) us (n + 1)) e (own d ∙ total_is
            ∙ sym first_more)
      ]
    ];
  }

  -- if the totals of both fit, the whole text has few bytes
  pub few_bytes : (totals mid : List TextInfo) → HasTotals (breaks_of ts) totals ts
      → length mid ≡ length totals
      → ((j : ℕ) (d : TextInfo) → k ≤ j → j < length totals
      → info_sum (get_or mid j d) (info_of (breaks_of ts) (text c))
      ≡ info_sum (get_or totals j d) both) → AreNarrow mid → byte_len (joined us) < 2 ^ 32
  few_bytes totals mid t len past narrow =
      let i : ℕ = length ts - 1 in
      let d = info_of (breaks_of ts) (text c) in
      let from : k ≤ i = omega (arith, cut.within) in
      let to : i < length ts = omega (arith, cut.within) in
      let many : i < length totals = omega (arith, to, t.as_many) in
      let sum = past i d from many ∙ ap (λ y. info_sum y both) (t.total_at i d to)
      ∙ sym (even i from to) in
      let last = sums_cancel (get_or mid i d) (counted (breaks_of ts) us (i + 1 + 1)) d sum in
      let whole : take (i + 1 + 1) us ≡ us =
      take_all (i + 1 + 1) us (omega (arith, as_many, cut.within)) in
      omega (
        arith,
        (narrow i d (omega (arith, many, len))).bytes,
        ap (λ x. x.bytes) last,
        ap (λ l. byte_len (joined l)) whole,
      )
