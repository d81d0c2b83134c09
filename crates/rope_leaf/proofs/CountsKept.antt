-- Running totals in rows, one for each kind of count.
use Rattle.std.proofs.Common.{◌≡◌, ℕ, ◌+◌, ◌-◌, ◌<◌, ◌≤◌, List, [], ◌∷◌, ◌++◌, length, get_or, set, take, map, inl, inr, subst, sym, ap, ◌∙◌, arith}
use Rattle.std.specs.List.{range_with_len, insert}
use Rattle.std.proofs.lemmas.Bool.{cases_lt}
use Rattle.std.proofs.lemmas.List.{length-set}
use Rattle.std.proofs.lemmas.List.FromFn.{length-map-range_with_len, get_or-map-range_with_len, map-range_with_len_more, fill_by_all}
use Rattle.rope_text.specs.declared.text_info.TextInfo.{TextInfo}
use Rattle.rope_text.specs.TextInfo.{info_sum, HasPart}
use Rattle.rope_leaf.specs.declared.search.count_rows.CountRows.TheInside.{Inside}
use Rattle.rope_leaf.specs.CountRows.{counts_at, all_totals, IsTotals}
use Rattle.rope_leaf.specs.Narrow.{IsBelow, IsNarrow, AreNarrow, IsBelowWith, FitsWith}
use Rattle.rope_leaf.specs.Shifted.{IsShifted}
use Rattle.rope_text.proofs.InfoLaws.{same_info}
use Rattle.rope_leaf.proofs.CellRows.{pasted, set_same, set_other, in_length, in_here, in_before, in_after}
use Rattle.rope_leaf.proofs.Rows.{put_before, put_within, put_length}

pub many : (a : Inside) (ts : List TextInfo) → all_totals a ≡ ts → a.len ≡ length ts
many a ts view = sym (length-map-range_with_len (counts_at a) 0 a.len) ∙ ap length view

pub seen_at : (a : Inside) (k : ℕ) (d : TextInfo) → k < a.len
    → get_or (all_totals a) k d ≡ counts_at a k
seen_at a k d lt = get_or-map-range_with_len (counts_at a) 0 a.len k k d lt (omega arith)

-- a total by its index
pub total_seen : (a : Inside) (ts : List TextInfo) (k : ℕ) (d : TextInfo) → all_totals a ≡ ts
    → k < length ts → get_or ts k d ≡ counts_at a k
total_seen a ts k d view lt = ap (λ l. get_or l k d) (sym view)
    ∙ seen_at a k d (omega (arith, many a ts view))

-- each total is below the bound
pub all_below : (a : Inside) (ts : List TextInfo) → IsTotals a → all_totals a ≡ ts → AreNarrow ts
all_below a ts i view k d lt =
    subst IsNarrow (sym (total_seen a ts k d view lt)) (i.below k (omega (arith, many a ts view)))

-- totals with equal entries
all_alike : (a b : Inside) (d : TextInfo) → ((k : ℕ) → k < a.len → counts_at a k ≡ counts_at b k)
    → map (counts_at a) (range_with_len 0 a.len) ≡ map (counts_at b) (range_with_len 0 a.len)
all_alike a b d same =
    fill_by_all (counts_at b) (all_totals a) a.len d
    (length-map-range_with_len (counts_at a) 0 a.len)
    (λ k lt. seen_at a k d lt ∙ same k lt)

module _ (a b : Inside) (ts : List TextInfo) (i : IsTotals a) (view : all_totals a ≡ ts) where
  -- one more total at the end
  module _ (total : TextInfo) (few : length ts < 24) (fits : IsNarrow total)
      (len : b.len ≡ a.len + 1) (bytes : b.bytes ≡ set a.bytes a.len total.bytes)
      (chars : b.chars ≡ set a.chars a.len total.chars)
      (pairs : b.pairs ≡ set a.pairs a.len total.utf16_surrogates)
      (breaks : b.breaks ≡ set a.breaks a.len total.break_count) where
    pushed_before : (k : ℕ) → k < a.len → counts_at a k ≡ counts_at b k
    pushed_before k lt = sym (
        same_info (counts_at b k) (counts_at a k) (ap (λ l. get_or l k 0) bytes
        ∙ set_other a.bytes a.len k total.bytes lt) (ap (λ l. get_or l k 0) chars
        ∙ set_other a.chars a.len k total.chars lt)
        (ap (λ l. get_or l k 0) pairs ∙ set_other a.pairs a.len k total.utf16_surrogates lt)
        (ap (λ l. get_or l k 0) breaks ∙ set_other a.breaks a.len k total.break_count lt)
        )

    pushed_last : counts_at b a.len ≡ total
    pushed_last =
        let n = many a ts view in
        same_info (counts_at b a.len) total (ap (λ l. get_or l a.len 0) bytes
        ∙ set_same a.bytes a.len total.bytes (omega (arith, n, i.bytes)))
        (ap (λ l. get_or l a.len 0) chars
        ∙ set_same a.chars a.len total.chars (omega (arith, n, i.chars)))
        (ap (λ l. get_or l a.len 0) pairs
        ∙ set_same a.pairs a.len total.utf16_surrogates (omega (arith, n, i.pairs)))
        (ap (λ l. get_or l a.len 0) breaks
        ∙ set_same a.breaks a.len total.break_count (omega (arith, n, i.breaks)))

    pub pushed : all_totals b ≡ ts ++ total ∷ []
    pushed =
        ap (λ m. map (counts_at b) (range_with_len 0 m)) len
        ∙ map-range_with_len_more (counts_at b) 0 a.len a.len (omega arith)
        ∙ ap (λ l. l ++ counts_at b a.len ∷ []) (sym (all_alike a b total pushed_before) ∙ view)
        ∙ ap (λ x. ts ++ x ∷ []) pushed_last

    pub pushed_totals : IsTotals b
    pushed_totals = record {
      few = omega (arith, len, few, many a ts view);
      bytes = ap length bytes ∙ length-set a.bytes a.len total.bytes ∙ i.bytes;
      chars = ap length chars ∙ length-set a.chars a.len total.chars ∙ i.chars;
      pairs = ap length pairs ∙ length-set a.pairs a.len total.utf16_surrogates ∙ i.pairs;
      breaks = ap length breaks ∙ length-set a.breaks a.len total.break_count ∙ i.breaks;
      below = λ k lt. elim (cases_lt k a.len) [
        | inl early ↦ subst IsNarrow (pushed_before k early) (i.below k early)
        | inr late ↦
            let is : a.len ≡ k = omega (arith, len, lt, late) in
            subst (λ n. IsNarrow (counts_at b n)) is (subst IsNarrow (sym pushed_last) fits)
      ];
    }

  -- replaced counts in an equal number of entries
  module _ (place : ℕ) (old new : TextInfo) (len : b.len ≡ a.len)
      (bytes : IsShifted a.bytes b.bytes place a.len old.bytes new.bytes)
      (chars : IsShifted a.chars b.chars place a.len old.chars new.chars)
      (pairs : IsShifted a.pairs b.pairs place a.len old.utf16_surrogates new.utf16_surrogates)
      (breaks : IsShifted a.breaks b.breaks place a.len old.break_count new.break_count) where
    early_at : (j : ℕ) → j < place → counts_at b j ≡ counts_at a j
    early_at j lt =
        same_info (counts_at b j) (counts_at a j) (bytes.early j lt) (chars.early j lt)
        (pairs.early j lt) (breaks.early j lt)

    late_at : (j : ℕ) → place ≤ j → j < a.len
        → info_sum (counts_at b j) old ≡ info_sum (counts_at a j) new
    late_at j le lt =
        same_info (info_sum (counts_at b j) old) (info_sum (counts_at a j) new)
        (bytes.within j le lt) (chars.within j le lt) (pairs.within j le lt) (breaks.within j le lt)

    pub early_same : (j : ℕ) (d : TextInfo) → j < length ts → j < place
        → get_or (all_totals b) j d ≡ get_or ts j d
    early_same j d lt early = seen_at b j d (omega (arith, len, many a ts view)) ∙ early_at j early
        ∙ sym (total_seen a ts j d view lt)

    pub late_sums : (j : ℕ) (d : TextInfo) → place ≤ j → j < length ts
        → info_sum (get_or (all_totals b) j d) old ≡ info_sum (get_or ts j d) new
    late_sums j d le lt =
        ap (λ x. info_sum x old) (seen_at b j d (omega (arith, len, many a ts view)))
        ∙ late_at j le (omega (arith, many a ts view))
        ∙ ap (λ x. info_sum x new) (sym (total_seen a ts j d view lt))

    long : (xs ys : List ℕ) (l : length ys ≡ length xs) → length xs ≡ 24 → length ys ≡ 24
    long xs ys l e = l ∙ e

    pub shifted_totals : ((j : ℕ) → place ≤ j → j < a.len → FitsWith (counts_at a j) old new)
        → IsTotals b
    shifted_totals fits = record {
      few = omega (arith, len, i.few);
      bytes = long a.bytes b.bytes bytes.len i.bytes;
      chars = long a.chars b.chars chars.len i.chars;
      pairs = long a.pairs b.pairs pairs.len i.pairs;
      breaks = long a.breaks b.breaks breaks.len i.breaks;
      below = λ j lt. elim (cases_lt j place) [
        | inl early ↦ subst IsNarrow (sym (early_at j early)) (i.below j (omega (arith, len)))
        | inr late ↦
            let to : j < a.len = omega (arith, len, lt) in
            let f = fits j late to in
            record {
              bytes = omega (arith, f.bytes, bytes.within j late to);
              chars = omega (arith, f.chars, chars.within j late to);
              pairs = omega (arith, f.pairs, pairs.within j late to);
              breaks = omega (arith, f.breaks, breaks.within j late to);
            }
      ];
    }

  -- one more total before another
  module _ (place : ℕ) (total : TextInfo) (within : place ≤ length ts) (room : length ts < 24)
      (fits : IsNarrow total)
      (len : b.len ≡ a.len + 1) (bytes : b.bytes
      ≡ insert (take (length a.bytes - 1) a.bytes) place total.bytes)
      (chars : b.chars ≡ insert (take (length a.chars - 1) a.chars) place total.chars)
      (pairs : b.pairs ≡ insert (take (length a.pairs - 1) a.pairs) place total.utf16_surrogates)
      (breaks : b.breaks ≡ insert (take (length a.breaks - 1) a.breaks) place total.break_count)
    where
      before_at : (k : ℕ) → k < place → counts_at b k ≡ counts_at a k
      before_at k lt =
          same_info (counts_at b k) (counts_at a k) (ap (λ l. get_or l k 0) bytes
          ∙ in_before a.bytes place total.bytes i.bytes (omega arith) k lt)
          (ap (λ l. get_or l k 0) chars
          ∙ in_before a.chars place total.chars i.chars (omega arith) k lt)
          (ap (λ l. get_or l k 0) pairs
          ∙ in_before a.pairs place total.utf16_surrogates i.pairs (omega arith) k lt)
          (ap (λ l. get_or l k 0) breaks
          ∙ in_before a.breaks place total.break_count i.breaks (omega arith) k lt)

      here_at : counts_at b place ≡ total
      here_at =
          same_info (counts_at b place) total (ap (λ l. get_or l place 0) bytes
          ∙ in_here a.bytes place total.bytes i.bytes (omega arith))
          (ap (λ l. get_or l place 0) chars
          ∙ in_here a.chars place total.chars i.chars (omega arith))
          (ap (λ l. get_or l place 0) pairs
          ∙ in_here a.pairs place total.utf16_surrogates i.pairs (omega arith))
          (ap (λ l. get_or l place 0) breaks
          ∙ in_here a.breaks place total.break_count i.breaks (omega arith))

      after_at : (k : ℕ) → place ≤ k → k < a.len → counts_at b (k + 1) ≡ counts_at a k
      after_at k le lt =
          let to : k < 23 = omega (arith, lt, many a ts view, room) in
          same_info (counts_at b (k + 1)) (counts_at a k) (ap (λ l. get_or l (k + 1) 0) bytes
          ∙ in_after a.bytes place total.bytes i.bytes (omega arith) k le to)
          (ap (λ l. get_or l (k + 1) 0) chars
          ∙ in_after a.chars place total.chars i.chars (omega arith) k le to)
          (ap (λ l. get_or l (k + 1) 0) pairs
          ∙ in_after a.pairs place total.utf16_surrogates i.pairs (omega arith) k le to)
          (ap (λ l. get_or l (k + 1) 0) breaks
          ∙ in_after a.breaks place total.break_count i.breaks (omega arith) k le to)

      pub one_more : length (all_totals b) ≡ length ts + 1
      one_more = omega (arith, length-map-range_with_len (counts_at b) 0 b.len, len, many a ts view)

      pub put_before_same : (j : ℕ) (d : TextInfo) → j < place
          → get_or (all_totals b) j d ≡ get_or ts j d
      put_before_same j d lt = seen_at b j d (omega (arith, len, many a ts view)) ∙ before_at j lt
          ∙ sym (total_seen a ts j d view (omega arith))

      pub put_here : (d : TextInfo) → get_or (all_totals b) place d ≡ total
      put_here d = seen_at b place d (omega (arith, len, many a ts view)) ∙ here_at

      pub put_after_same : (j : ℕ) (d : TextInfo) → place ≤ j → j < length ts
          → get_or (all_totals b) (j + 1) d ≡ get_or ts j d
      put_after_same j d le lt = seen_at b (j + 1) d (omega (arith, len, many a ts view))
          ∙ after_at j le (omega (arith, many a ts view)) ∙ sym (total_seen a ts j d view lt)

      pub put_totals : IsTotals b
      put_totals = record {
        few = omega (arith, len, many a ts view, room);
        bytes = ap length bytes ∙ in_length a.bytes place total.bytes i.bytes (omega arith);
        chars = ap length chars ∙ in_length a.chars place total.chars i.chars (omega arith);
        pairs = ap length pairs ∙ in_length a.pairs place total.utf16_surrogates i.pairs
            (omega arith);
        breaks = ap length breaks
            ∙ in_length a.breaks place total.break_count i.breaks (omega arith);
        below = λ j lt. elim (cases_lt j place) [
          | inl early ↦ subst IsNarrow (sym (before_at j early))
              (i.below j (omega (arith, many a ts view)))
          | inr late ↦ elim (cases_lt place j) [
            | inl past ↦
                let k : ℕ = j - 1 in
                let is : k + 1 ≡ j = omega (arith, past) in
                subst (λ n. IsNarrow (counts_at b n)) is
                (subst IsNarrow (sym (after_at k (omega (arith, past))
                (omega (arith, lt, past, len)))) (i.below k (omega (arith, lt, past, len))))
            | inr here ↦
                let is : place ≡ j = omega (arith, late, here) in
                subst (λ n. IsNarrow (counts_at b n)) is (subst IsNarrow (sym here_at) fits)
          ]
        ];
      }

  -- totals of another list, appended
  module _ (o : Inside) (us : List TextInfo) (from count : ℕ) (j : IsTotals o)
      (others : all_totals o ≡ us) (within : from + count ≤ length us)
      (room : length ts + count ≤ 24) (len : b.len ≡ a.len + count)
      (bytes : b.bytes ≡ pasted a.len count from a.bytes o.bytes)
      (chars : b.chars ≡ pasted a.len count from a.chars o.chars)
      (pairs : b.pairs ≡ pasted a.len count from a.pairs o.pairs)
      (breaks : b.breaks ≡ pasted a.len count from a.breaks o.breaks) where
    pub longer : length (all_totals b) ≡ length ts + count
    longer = omega (arith, length-map-range_with_len (counts_at b) 0 b.len, len, many a ts view)

    kept_cell : (xs ys : List ℕ) (k : ℕ) → length xs ≡ 24 → k < a.len
        → get_or (pasted a.len count from xs ys) k 0 ≡ get_or xs k 0
    kept_cell xs ys k e lt = put_before a.len count from xs ys k (omega (arith, i.few)) lt

    moved_cell : (xs ys : List ℕ) (k : ℕ) → length xs ≡ 24 → length ys ≡ 24 → k < count
        → get_or (pasted a.len count from xs ys) (a.len + k) 0 ≡ get_or ys (from + k) 0
    moved_cell xs ys k e f lt =
        put_within a.len count from xs ys k (omega (arith, i.few))
        (omega (arith, within, j.few, many o us others)) lt

    kept_at : (k : ℕ) → k < a.len → counts_at b k ≡ counts_at a k
    kept_at k lt =
        same_info (counts_at b k) (counts_at a k) (ap (λ l. get_or l k 0) bytes
        ∙ kept_cell a.bytes o.bytes k i.bytes lt) (ap (λ l. get_or l k 0) chars
        ∙ kept_cell a.chars o.chars k i.chars lt)
        (ap (λ l. get_or l k 0) pairs ∙ kept_cell a.pairs o.pairs k i.pairs lt)
        (ap (λ l. get_or l k 0) breaks ∙ kept_cell a.breaks o.breaks k i.breaks lt)

    moved_at : (k : ℕ) → k < count → counts_at b (a.len + k) ≡ counts_at o (from + k)
    moved_at k lt =
        same_info (counts_at b (a.len + k)) (counts_at o (from + k))
        (ap (λ l. get_or l (a.len + k) 0) bytes ∙ moved_cell a.bytes o.bytes k i.bytes j.bytes lt)
        (ap (λ l. get_or l (a.len + k) 0) chars ∙ moved_cell a.chars o.chars k i.chars j.chars lt)
        (ap (λ l. get_or l (a.len + k) 0) pairs ∙ moved_cell a.pairs o.pairs k i.pairs j.pairs lt)
        (ap (λ l. get_or l (a.len + k) 0) breaks
        ∙ moved_cell a.breaks o.breaks k i.breaks j.breaks lt)

    pub kept_totals : (k : ℕ) (d : TextInfo) → k < length ts
        → get_or (all_totals b) k d ≡ get_or ts k d
    kept_totals k d lt =
        let n = many a ts view in
        seen_at b k d (omega (arith, len)) ∙ kept_at k (omega arith)
        ∙ sym (total_seen a ts k d view lt)

    pub moved_totals : (k : ℕ) (d : TextInfo) → k < count
        → get_or (all_totals b) (length ts + k) d ≡ get_or us (from + k) d
    moved_totals k d lt =
        let n = many a ts view in
        subst (λ m. get_or (all_totals b) (m + k) d ≡ get_or us (from + k) d) n
        (seen_at b (a.len + k) d (omega (arith, len)) ∙ moved_at k lt
        ∙ sym (total_seen o us (from + k) d others (omega (arith, within))))

    pasted_long : (xs ys : List ℕ) → length xs ≡ 24 → length ys ≡ 24
        → length (pasted a.len count from xs ys) ≡ 24
    pasted_long xs ys e f =
        put_length a.len count from xs ys (omega (arith, room, many a ts view))
        (omega (arith, within, j.few, many o us others)) ∙ e

    pub joined_totals : IsTotals b
    joined_totals = record {
      few = omega (arith, len, room, many a ts view);
      bytes = ap length bytes ∙ pasted_long a.bytes o.bytes i.bytes j.bytes;
      chars = ap length chars ∙ pasted_long a.chars o.chars i.chars j.chars;
      pairs = ap length pairs ∙ pasted_long a.pairs o.pairs i.pairs j.pairs;
      breaks = ap length breaks ∙ pasted_long a.breaks o.breaks i.breaks j.breaks;
      below = λ k lt. elim (cases_lt k a.len) [
        | inl early ↦ subst IsNarrow (sym (kept_at k early)) (i.below k early)
        | inr late ↦
            let m : a.len + (k - a.len) ≡ k = omega arith in
            subst (λ n. IsNarrow (counts_at b n)) m
            (subst IsNarrow (sym (moved_at (k - a.len) (omega (arith, len, lt))))
            (j.below (from + (k - a.len)) (omega (arith, len, lt, within, many o us others))))
      ];
    }

-- the first totals of another list
module _ (o : Inside) (us : List TextInfo) (count : ℕ) (i : IsTotals o) (view : all_totals o ≡ us)
    (within : count ≤ length us) where
  abbrev first : Inside
  first = record {
    len = count;
    bytes = o.bytes;
    chars = o.chars;
    pairs = o.pairs;
    breaks = o.breaks;
  }

  pub first_totals : IsTotals first
  first_totals = record {
    few = omega (arith, within, i.few, many o us view);
    bytes = i.bytes;
    chars = i.chars;
    pairs = i.pairs;
    breaks = i.breaks;
    below = λ k lt. i.below k (omega (arith, lt, within, many o us view));
  }

  pub first_many : length (all_totals first) ≡ count
  first_many = length-map-range_with_len (counts_at first) 0 count

  pub first_seen : (n from k : ℕ) (d : TextInfo) → n ≡ 0 → from ≡ 0 → k < count
      → get_or (all_totals first) (n + k) d ≡ get_or us (from + k) d
  first_seen n from k d none start lt =
      let here : n + k ≡ k = omega (arith, none) in
      let there : from + k ≡ k = omega (arith, start) in
      ap (λ m. get_or (all_totals first) m d) here ∙ seen_at first k d lt
      ∙ sym (ap (λ m. get_or us m d) there ∙ total_seen o us k d view (omega (arith, lt, within)))

-- the counts of a slice, and those that replace them, are below the bound too
pub was_below : (bound : ℕ) (total old : TextInfo) → IsBelow bound total → HasPart total old
    → IsBelow bound old
was_below bound total old n p = record {
  bytes = omega (arith, n.bytes, p.bytes);
  chars = omega (arith, n.chars, p.chars);
  pairs = omega (arith, n.pairs, p.pairs);
  breaks = omega (arith, n.breaks, p.breaks);
}

pub is_below : (bound : ℕ) (total old new : TextInfo) → HasPart total old
    → IsBelowWith bound total old new → IsBelow bound new
is_below bound total old new p f = record {
  bytes = omega (arith, p.bytes, f.bytes);
  chars = omega (arith, p.chars, f.chars);
  pairs = omega (arith, p.pairs, f.pairs);
  breaks = omega (arith, p.breaks, f.breaks);
}
