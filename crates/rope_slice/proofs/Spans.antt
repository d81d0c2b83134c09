-- A path to a leaf within a slice: the part of the leaf inside the slice, and the steps to the next
-- and previous chunk.
use Rattle.std.proofs.Common.{◌≡◌, ℕ, Bool, true, false, ◌+◌, ◌-◌, ◌<◌, ◌≤◌, min, List, [], ◌∷◌, ◌++◌, length, take, refl, sym, ap, subst, ◌∙◌, arith, inl, inr, All, append_assoc}
use Rattle.std.specs.Bool.{OnTrue, OnFalse}
use Rattle.std.specs.List.{concat, slice_range}
use Rattle.std.proofs.lemmas.Bool.{cases_lt}
use Rattle.std.proofs.lemmas.List.{append-nil, length-append, nil_from_length, take_all, take_at, take-append-le}
use Rattle.std.proofs.Math.Seq.{take-append-add, take-nil, get_or-append_seam}
use Rattle.rope_text.specs.Text.{byte_len}
use Rattle.rope_text.specs.Conversions.{byte_to_char}
use Rattle.rope_text.proofs.ConversionLaws.{byte_to_char-char_to_byte, byte_to_char-byte_len}
use Rattle.rope_text.specs.Cutting.{clip, cons_nonempty}
use Rattle.rope_text.proofs.Measures.{IsMeasure-byte_len, size_le, size_lt, size_le_all}
use Rattle.rope_text.proofs.CuttingLaws.{concat-append}
use Rattle.rope_text.proofs.ClipLaws.{clip_empty, concat-clip, length-slice_range}
use Rattle.rope_slice.specs.Path.{Place, IsNext, leaves}
use Rattle.rope_slice.specs.Span.{alone, Edge, edge_at, clipped_place, clipped_at, IsWithin, IsSpan, IsSpanFrom}
use Rattle.rope_slice.proofs.ClippedChunks.{clip-append, cons_some, size_of_part}
use Rattle.rope_slice.proofs.Clips.{clip_past}

-- the bytes of a text's middle part up to an index of the text
pub middle_bytes : (x y z : List ℕ) (i : ℕ) → i ≤ length x + length y
    → byte_len (take (i - length x) y) ≡ byte_len (take i (x ++ (y ++ z))) - byte_len x
middle_bytes x y z i most = elim (cases_lt i (length x)) [
  | inl less ↦
      let none : i - length x ≡ 0 = omega arith in
      let cut : take i (x ++ (y ++ z)) ≡ take i x = take-append-le i x (y ++ z) (omega arith) in
      rw none (omega (arith, ap byte_len cut, size_le_all byte_len IsMeasure-byte_len x i))
  | inr more ↦
      let m : ℕ = i - length x in
      let e : i ≡ length x + m = omega arith in
      let cut : take i (x ++ (y ++ z)) ≡ x ++ take m y =
      ap (λ n. take n (x ++ (y ++ z))) e ∙ take-append-add x (y ++ z) m
      ∙ ap (λ s. x ++ s) (take-append-le m y z (omega arith)) in
      omega (arith, ap byte_len cut, IsMeasure-byte_len.joined x (take m y))
]

-- none of the leaves is empty, so this one is not
pub some_leaf : (p : Place) → All (λ leaf. 0 < length leaf) (leaves p) → 0 < length p.here
some_leaf p solid =
    let at = get_or-append_seam p.before p.here p.after [] in
    rw at at (solid (length p.before) [] (omega (arith, length-append p.before (p.here ∷ p.after))))

-- where the leaf has a character of the part, the chunks are the leaves, clipped
pub leaves_clipped : (p : Place) (a b : ℕ) → 0 < length p.here → a < b
    → length (concat p.before) < b → a < length (concat p.before) + length p.here
    → leaves (clipped_place p a b) ≡ clip (leaves p) a b
leaves_clipped p a b some less starts ends =
    let q = clipped_place p a b in
    let x : ℕ = length (concat p.before) in
    sym (clip-append p.before (p.here ∷ p.after) a b
    ∙ ap (λ ls. q.before ++ ls)
    (cons_some q.here q.after (omega (arith, length-slice_range p.here (a - x) (b - x)))))

module _ (p : Place) (start : ℕ) (from to : Edge) (w : IsWithin p start from to) where
  text_at : concat (leaves p) ≡ concat p.before ++ (p.here ++ concat p.after)
  text_at = concat-append p.before (p.here ∷ p.after)

  -- the text up to the leaf's end
  upto : byte_len (take (length (concat p.before) + length p.here) (concat (leaves p)))
      ≡ start + byte_len p.here
  upto =
      let x : List ℕ = concat p.before in
      let cut : take (length x + length p.here) (concat (leaves p)) ≡ x ++ p.here =
      ap (take (length x + length p.here)) (text_at ∙ sym (append_assoc x p.here (concat p.after)))
      ∙ take_at (x ++ p.here) (concat p.after) (length x + length p.here)
      (length-append x p.here) in
      omega (arith, ap byte_len cut, IsMeasure-byte_len.joined x p.here, w.start_is)

  pub low_bytes : byte_len (take (from.chars - length (concat p.before)) p.here)
      ≡ from.bytes - start
  low_bytes =
      let cut =
      middle_bytes (concat p.before) p.here (concat p.after) from.chars (omega (arith, w.ends)) in
      omega (arith, cut, ap (λ s. byte_len (take from.chars s)) text_at, w.from_bytes, w.start_is)

  pub high_bytes : byte_len (take (to.chars - length (concat p.before)) p.here)
      ≡ min (to.bytes - start) (byte_len p.here)
  high_bytes = elim (cases_lt (length (concat p.before) + length p.here) to.chars) [
    | inl past ↦
        let whole =
        ap byte_len (take_all (to.chars - length (concat p.before)) p.here (omega arith)) in
        omega (
          arith,
          whole,
          upto,
          size_le byte_len IsMeasure-byte_len (concat (leaves p))
              (length (concat p.before) + length p.here) to.chars (omega arith),
          w.to_bytes,
        )
    | inr inside ↦
        let cut = middle_bytes (concat p.before) p.here (concat p.after) to.chars inside in
        omega (
          arith,
          cut,
          ap (λ s. byte_len (take to.chars s)) text_at,
          w.to_bytes,
          w.start_is,
          size_le_all byte_len IsMeasure-byte_len p.here (to.chars - length (concat p.before)),
        )
  ]

  -- by the bytes, whether the part ends in the leaf
  pub ends_here : to.bytes - start ≤ byte_len p.here
      → to.chars ≤ length (concat p.before) + length p.here
  ends_here l = elim (cases_lt (length (concat p.before) + length p.here) to.chars) [
    | inl past ↦ absurd (omega (
      arith,
      size_lt byte_len IsMeasure-byte_len (concat (leaves p))
          (length (concat p.before) + length p.here) to.chars past w.within,
      upto,
      w.to_bytes,
    ))
    | inr inside ↦ inside
  ]

  pub ends_later : byte_len p.here < to.bytes - start
      → length (concat p.before) + length p.here < to.chars
  ends_later l = elim (cases_lt (length (concat p.before) + length p.here) to.chars) [
    | inl past ↦ past
    | inr inside ↦ absurd (omega (
      arith,
      size_le byte_len IsMeasure-byte_len (concat (leaves p)) to.chars
          (length (concat p.before) + length p.here) inside,
      upto,
      w.to_bytes,
    ))
  ]

  pub none_after : to.bytes - start ≤ byte_len p.here
      → (clipped_place p from.chars to.chars).after ≡ []
  none_after l =
      let e = ends_here l in
      clip_empty p.after (from.chars - length (concat p.before) - length p.here)
      (to.chars - length (concat p.before) - length p.here) (omega arith)

  in_order_within : start ≤ to.bytes
  in_order_within =
      let front : take (length (concat p.before)) (concat (leaves p)) ≡ concat p.before =
      ap (take (length (concat p.before))) text_at
      ∙ take_at (concat p.before) (p.here ++ concat p.after) (length (concat p.before)) refl in
      omega (
        arith,
        size_le byte_len IsMeasure-byte_len (concat (leaves p))
            (length (concat p.before)) to.chars (omega (arith, w.starts)),
        ap byte_len front,
        w.start_is,
        w.to_bytes,
      )

  -- the bytes of the previous chunks before the leaf
  pub bytes_before_within : byte_len (concat (clip p.before from.chars to.chars))
      ≡ start - from.bytes
  bytes_before_within =
      let x : List ℕ = concat p.before in
      let part = ap byte_len (concat-clip p.before from.chars to.chars)
      ∙ size_of_part byte_len IsMeasure-byte_len x from.chars to.chars in
      let all = ap byte_len (take_all to.chars x (omega (arith, w.starts))) in
      elim (cases_lt from.chars (length x)) [
        | inl inside ↦
            let front : take from.chars (concat (leaves p)) ≡ take from.chars x =
            ap (take from.chars) text_at
            ∙ take-append-le from.chars x (p.here ++ concat p.after) (omega arith) in
            omega (arith, part, all, ap byte_len front, w.from_bytes, w.start_is)
        | inr past ↦
            let none = ap byte_len (take_all from.chars x past) in
            let front : take (length x) (concat (leaves p)) ≡ x = ap (take (length x)) text_at
            ∙ take_at x (p.here ++ concat p.after) (length x) refl in
            omega (
              arith,
              part,
              all,
              none,
              w.from_bytes,
              w.start_is,
              ap byte_len front,
              size_le byte_len IsMeasure-byte_len (concat (leaves p)) (length x) from.chars past,
            )
      ]

  pub none_before : start ≤ from.bytes → (clipped_place p from.chars to.chars).before ≡ []
  none_before l = elim (cases_lt from.chars (length (concat p.before))) [
    | inl inside ↦
        let front : take (length (concat p.before)) (concat (leaves p)) ≡ concat p.before =
        ap (take (length (concat p.before))) text_at
        ∙ take_at (concat p.before) (p.here ++ concat p.after) (length (concat p.before)) refl in
        absurd (omega (
          arith,
          size_lt byte_len IsMeasure-byte_len (concat (leaves p)) from.chars
              (length (concat p.before)) inside (omega (arith, w.within, w.starts)),
          ap byte_len front,
          w.start_is,
          w.from_bytes,
        ))
    | inr past ↦ clip_past p.before from.chars to.chars past
  ]

-- the next leaf
module _ (p q : Place) (n : IsNext p q) where
  pub chars_next : length (concat q.before) ≡ length (concat p.before) + length p.here
  chars_next =
      omega (
        arith,
        ap (λ ls. length (concat ls)) n.before,
        ap length (concat-append p.before (p.here ∷ [])),
        length-append (concat p.before) (concat (p.here ∷ [])),
        ap length (append-nil p.here),
      )

  pub leaves_next : leaves q ≡ leaves p
  leaves_next = ap (λ ls. ls ++ (q.here ∷ q.after)) n.before
      ∙ append_assoc p.before (p.here ∷ []) (q.here ∷ q.after)
      ∙ ap (λ ls. p.before ++ (p.here ∷ ls)) (sym n.after)

  -- both leaves have a character of the part
  pub clipped_next : (a b : ℕ) → a < length (concat p.before) + length p.here
      → length (concat q.before) < b → 0 < length p.here → 0 < length q.here
      → IsNext (clipped_place p a b) (clipped_place q a b)
  clipped_next a b low high some_p some_q =
      let c = chars_next in
      let x : ℕ = length (concat p.before) in
      let here : List ℕ = slice_range p.here (a - x) (b - x) in
      let there : List ℕ = slice_range q.here (a - x - length p.here) (b - x - length p.here) in
      let one : cons_nonempty here [] ≡ here ∷ [] =
      cons_some here [] (omega (arith, length-slice_range p.here (a - x) (b - x))) in
      let from : a - x - length p.here ≡ a - length (concat q.before) = omega arith in
      let to : b - x - length p.here ≡ b - length (concat q.before) = omega arith in
      record {
        before = ap (λ ls. clip ls a b) n.before ∙ clip-append p.before (p.here ∷ []) a b
            ∙ ap (λ ls. clip p.before a b ++ ls) one;
        after =
            ap (λ ls. clip ls (a - x - length p.here) (b - x - length p.here)) n.after
            ∙ cons_some there (clip q.after (a - x - length p.here - length q.here)
            (b - x - length p.here - length q.here))
            (omega (
              arith,
              length-slice_range q.here (a - x - length p.here)
                  (b - x - length p.here),
            ))
            ∙ rw (from, to) refl;
      }

  bytes_next : byte_len (concat q.before) ≡ byte_len (concat p.before) + byte_len p.here
  bytes_next =
      omega (
        arith,
        ap (λ ls. byte_len (concat ls)) n.before,
        ap byte_len (concat-append p.before (p.here ∷ [])),
        IsMeasure-byte_len.joined (concat p.before) (concat (p.here ∷ [])),
        ap byte_len (append-nil p.here),
      )

  pub within_next : (start : ℕ) (from to : Edge) → IsWithin p start from to
      → length (concat p.before) + length p.here < to.chars
      → IsWithin q (start + byte_len p.here) from to
  within_next start from to w l =
      let same : concat (leaves p) ≡ concat (leaves q) = ap concat (sym leaves_next) in
      record {
        solid = subst (λ ls. All (λ leaf. 0 < length leaf) ls) (sym leaves_next) w.solid;
        some = w.some;
        within = omega (arith, w.within, ap length same);
        start_is = omega (arith, w.start_is, bytes_next);
        from_bytes = w.from_bytes ∙ ap (λ s. byte_len (take from.chars s)) same;
        to_bytes = w.to_bytes ∙ ap (λ s. byte_len (take to.chars s)) same;
        starts = omega (arith, chars_next);
        ends = omega (arith, chars_next, w.ends);
      }

  -- by the bytes, whether the part starts before the next leaf
  pub starts_before : (start : ℕ) (from to : Edge) → IsWithin q start from to → from.bytes < start
      → from.chars < length (concat q.before)
  starts_before start from to w l = elim (cases_lt from.chars (length (concat q.before))) [
    | inl less ↦ less
    | inr more ↦
        let front : take (length (concat q.before)) (concat (leaves q)) ≡ concat q.before =
        ap (take (length (concat q.before))) (concat-append q.before (q.here ∷ q.after))
        ∙ take_at (concat q.before) (q.here ++ concat q.after) (length (concat q.before)) refl in
        absurd (omega (
          arith,
          size_le byte_len IsMeasure-byte_len (concat (leaves q))
              (length (concat q.before)) from.chars more,
          ap byte_len front,
          w.start_is,
          w.from_bytes,
        ))
  ]

  pub within_prev : (start : ℕ) (from to : Edge) → IsWithin q start from to → from.bytes < start
      → IsWithin p (start - byte_len p.here) from to
  within_prev start from to w l =
      let same : concat (leaves q) ≡ concat (leaves p) = ap concat leaves_next in
      record {
        solid = subst (λ ls. All (λ leaf. 0 < length leaf) ls) leaves_next w.solid;
        some = w.some;
        within = omega (arith, w.within, ap length same);
        start_is = omega (arith, w.start_is, bytes_next);
        from_bytes = w.from_bytes ∙ ap (λ s. byte_len (take from.chars s)) same;
        to_bytes = w.to_bytes ∙ ap (λ s. byte_len (take to.chars s)) same;
        starts = omega (arith, chars_next, w.starts);
        ends = omega (arith, chars_next, starts_before start from to w l);
      }

-- one leaf that has a character
one_leaf : (text : List ℕ) → 0 < length text → All (λ leaf. 0 < length leaf) (text ∷ [])
one_leaf text some k d l = let first : k ≡ 0 = omega arith in rw first some

-- a part that may be empty
module _ (p : Place) (start : ℕ) (from to : Edge) (h : IsSpan p start from to) where
  pub in_order : start ≤ to.bytes
  in_order = elim (cases_lt from.chars to.chars) [
    | inl some ↦ in_order_within p start from to (h.some some)
    | inr none ↦ let n = h.none none in omega (arith, n.start_is)
  ]

  low_here : byte_len (take (from.chars - length (concat p.before)) p.here) ≡ from.bytes - start
  low_here = elim (cases_lt from.chars to.chars) [
    | inl some ↦ low_bytes p start from to (h.some some)
    | inr none ↦ let n = h.none none in
        rw (n.here, n.from_is, take-nil (from.chars - length (concat p.before))) (omega arith)
  ]

  high_here : byte_len (take (to.chars - length (concat p.before)) p.here)
      ≡ min (to.bytes - start) (byte_len p.here)
  high_here = elim (cases_lt from.chars to.chars) [
    | inl some ↦ high_bytes p start from to (h.some some)
    | inr none ↦ let n = h.none none in
        rw (n.here, n.to_is, take-nil (to.chars - length (concat p.before))) (omega arith)
  ]

  pub no_next : to.bytes - start ≤ byte_len p.here
      → (clipped_place p from.chars to.chars).after ≡ []
  no_next l = elim (cases_lt from.chars to.chars) [
    | inl some ↦ none_after p start from to (h.some some) l
    | inr none ↦ let n = h.none none in rw n.after refl
  ]

  pub no_prev : start ≤ from.bytes → (clipped_place p from.chars to.chars).before ≡ []
  no_prev l = elim (cases_lt from.chars to.chars) [
    | inl some ↦ none_before p start from to (h.some some) l
    | inr none ↦ let n = h.none none in rw n.before refl
  ]

  -- not the empty text
  within_span : 0 < start + to.bytes → IsWithin p start from to
  within_span l = elim (cases_lt from.chars to.chars) [
    | inl some ↦ h.some some
    | inr none ↦ let n = h.none none in absurd (omega (arith, n.start_is, n.to_is))
  ]

-- the bytes of the leaf inside the slice
pub record IsCut (p : Place) (start : ℕ) (from to : Edge) : Type 0 where
  pub in_order : start ≤ to.bytes
  pub ordered : from.chars - length (concat p.before) ≤ to.chars - length (concat p.before)
  pub low : byte_len (take (from.chars - length (concat p.before)) p.here) ≡ from.bytes - start
  pub high : byte_len (take (to.chars - length (concat p.before)) p.here)
      ≡ min (to.bytes - start) (byte_len p.here)

pub cut : (p : Place) (start : ℕ) (from to : Edge) → IsSpan p start from to → IsCut p start from to
cut p start from to h = record {
  in_order = in_order p start from to h;
  ordered = omega (arith, h.ordered);
  low = low_here p start from to h;
  high = high_here p start from to h;
}

-- the adjacent leaf of a leaf of the slice is in the slice, too, and the two chunks are adjacent
pub span_next : (p q : Place) (from to : ℕ) → IsSpanFrom p from to → IsNext p q
    → byte_len p.here < to - byte_len (concat p.before)
    → IsSpanFrom q from to × IsNext (clipped_at p from to) (clipped_at q from to)
span_next p q from to h n l =
    let start : ℕ = byte_len (concat p.before) in
    let a = edge_at (leaves p) from in
    let b = edge_at (leaves p) to in
    let w = within_span p start a b h (omega arith) in
    let more = ends_later p start a b w (omega arith) in
    let v = within_next p q n start a b w more in
    let is_span : IsSpan q (start + byte_len p.here) a b =
    record { some = λ _. v; none = λ none. absurd (omega (arith, w.some)); ordered = h.ordered } in
    let moved =
    clipped_next p q n a.chars b.chars w.ends v.starts (some_leaf p w.solid)
    (some_leaf q v.solid) in
    let same = sym (leaves_next p q n) in (
      subst (λ (k : ℕ). IsSpan q k (edge_at (leaves q) from) (edge_at (leaves q) to))
          (sym (bytes_next p q n))
          (subst (λ (ls : List (List ℕ)). IsSpan q (start + byte_len p.here) (edge_at ls from)
          (edge_at ls to)) same is_span),
      subst (λ (ls : List (List ℕ)). IsNext (clipped_at p from to)
          (clipped_place q (edge_at ls from).chars (edge_at ls to).chars)) same moved,
    )

pub span_prev : (p q : Place) (from to : ℕ) → IsSpanFrom q from to → IsNext p q
    → from < byte_len (concat q.before)
    → IsSpanFrom p from to × IsNext (clipped_at p from to) (clipped_at q from to)
span_prev p q from to h n l =
    let start : ℕ = byte_len (concat q.before) in
    let a = edge_at (leaves q) from in
    let b = edge_at (leaves q) to in
    let w = within_span q start a b h (omega arith) in
    let v = within_prev p q n start a b w l in
    let is_span : IsSpan p (start - byte_len p.here) a b =
    record { some = λ _. v; none = λ none. absurd (omega (arith, w.some)); ordered = h.ordered } in
    let moved =
    clipped_next p q n a.chars b.chars v.ends w.starts (some_leaf p v.solid)
    (some_leaf q w.solid) in
    let same = leaves_next p q n in
    let first : start - byte_len p.here ≡ byte_len (concat p.before) =
    omega (arith, bytes_next p q n) in (
      subst (λ (k : ℕ). IsSpan p k (edge_at (leaves p) from) (edge_at (leaves p) to)) first
          (subst (λ (ls : List (List ℕ)). IsSpan p (start - byte_len p.here) (edge_at ls from)
          (edge_at ls to)) same is_span),
      subst (λ (ls : List (List ℕ)). IsNext
          (clipped_place p (edge_at ls from).chars (edge_at ls to).chars) (clipped_at q from to))
          same moved,
    )

-- the path may have stayed
pub span_after : (old new : Place) (from to : ℕ) (moved : Bool) → IsSpanFrom old from to
    → OnTrue moved (IsSpanFrom new from to) → OnFalse moved (new ≡ old) → IsSpanFrom new from to
span_after old new from to true h goes stays = goes
span_after old new from to false h goes stays =
    subst (λ (p : Place). IsSpanFrom p from to) (sym stays) h

-- a text as the only leaf
pub alone_is : (p : Place) (text : List ℕ) → p.before ≡ [] → p.here ≡ text → p.after ≡ []
    → p ≡ alone text
alone_is p text before here after = rw (before, here, after) refl

module _ (text : List ℕ) where
  joined : concat (leaves (alone text)) ≡ text
  joined = append-nil text

  alone_start : byte_to_char (concat (leaves (alone text))) 0 ≡ 0
  alone_start = byte_to_char-char_to_byte (concat (leaves (alone text))) 0 (omega arith)

  alone_end : byte_to_char (concat (leaves (alone text))) (byte_len text) ≡ length text
  alone_end = ap (λ s. byte_to_char s (byte_len text)) joined ∙ byte_to_char-byte_len text

  pub alone_span : IsSpan (alone text) 0 (edge_at (leaves (alone text)) 0)
      (edge_at (leaves (alone text)) (byte_len text))
  alone_span = rw (alone_start, alone_end) record {
    some = λ some. record {
      solid = one_leaf text some;
      some = some;
      within = omega (arith, ap length joined);
      start_is = refl;
      from_bytes = refl;
      to_bytes =
          ap byte_len (sym (take_all (length text) text (omega arith))
          ∙ ap (take (length text)) (sym joined));
      starts = some;
      ends = omega arith;
    };
    none = λ none. record {
      before = refl;
      here = nil_from_length text (omega arith);
      after = refl;
      start_is = refl;
      from_is = refl;
      to_is = ap byte_len (nil_from_length text (omega arith));
    };
    ordered = omega arith;
  }

  pub alone_whole : clipped_at (alone text) 0 (byte_len text) ≡ alone text
  alone_whole =
      rw (alone_start, alone_end) (ap alone (take_all (length text - 0 - 0) text (omega arith)))
