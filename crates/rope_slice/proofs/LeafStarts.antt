-- The chunk of an excerpt inside a leaf, and the counts of the excerpt before it.
use Rattle.std.proofs.Common.{◌≤◌, ◌^◌, ◌≡◌, ℕ, suc, ◌+◌, ◌-◌, ◌<◌, min, List, [], ◌∷◌, ◌++◌, length, take, get_or, refl, sym, ap, ◌∙◌, subst, arith, inl, inr, All, append_assoc}
use Rattle.std.specs.List.{concat, slice_range}
use Rattle.std.proofs.lemmas.Bool.{cases_lt}
use Rattle.std.proofs.lemmas.List.{append-nil, length-append, take_all, take_at, take-append-le}
use Rattle.std.proofs.Math.Seq.{get_or-append_seam}
use Rattle.rope_text.specs.declared.text_info.TextInfo.{TextInfo}
use Rattle.rope_text.specs.Text.{byte_len}
use Rattle.rope_text.specs.TextInfo.{info_of}
use Rattle.rope_text.specs.Conversions.{char_to_line}
use Rattle.rope_text.specs.Cutting.{clip}
use Rattle.rope_text.specs.Lookup.{found_chunk}
use Rattle.rope_text.proofs.Measures.{IsMeasure-byte_len, size_le, size_le_all}
use Rattle.rope_text.proofs.ChunkLaws.{before_more}
use Rattle.rope_text.proofs.CuttingLaws.{concat-append}
use Rattle.rope_text.proofs.ClipLaws.{concat-clip, length-slice_range, slice_range-append}
use Rattle.rope_leaf.specs.Tree.{Tree, text, IsTree}
use Rattle.rope_leaf.proofs.LeafLaws.{nonempty_leaves}
use Rattle.rope_leaf.specs.Found.{IsFound}
use Rattle.rope_leaf.specs.declared.search.Unit.{Unit}
use Rattle.rope_leaf.specs.declared.search.Unit.TheVariants.{Byte, Char, CodeUnit, LineBreak}
use Rattle.rope_leaf.specs.Search.{count_of}
use Rattle.rope_slice.specs.Edge.{IsExcerpt}
use Rattle.rope_slice.proofs.ClippedChunks.{size_of_part, cons_some}
use Rattle.rope_slice.proofs.Measured.{Measured, measured}
use Rattle.rope_slice.proofs.LeafParts.{leaf_in, meets_byte, meets_char}
use Rattle.rope_slice.specs.Path.{Place, leaves, HoldsPlace}
use Rattle.rope_slice.specs.Span.{alone, clipped_place, clipped_at, IsWithin, IsSpanFrom}
use Rattle.rope_slice.specs.Starts.{AreBefore, IsItem, IsHolding, size_in}
use Rattle.rope_slice.proofs.Spans.{bytes_before_within, leaves_clipped, some_leaf}
use Rattle.rope_text.specs.declared.line_breaks.LineBreaks.{LineBreaks}
use Rattle.rope_text.specs.Conversions.{byte_to_char}
use Rattle.rope_text.specs.Cutting.{single_chunk}
use Rattle.rope_text.proofs.ConversionLaws.{byte_to_char-char_to_byte, char_to_line_start}

-- the position of a leaf among the leaves of a tree
module _ (p : Place) (t : Tree) (e : leaves p ≡ t.leaves) where
  index_within : length p.before < length t.leaves
  index_within = omega (arith, ap length e, length-append p.before (p.here ∷ p.after))

  here_is : p.here ≡ get_or t.leaves (length p.before) []
  here_is =
      sym (ap (λ ls. get_or ls (length p.before) []) (sym e)
      ∙ get_or-append_seam p.before p.here p.after [])

  front_is : concat p.before ≡ concat (take (length p.before) t.leaves)
  front_is =
      sym (ap (λ ls. concat (take (length p.before) ls)) (sym e)
      ∙ ap concat (take_at p.before (p.here ∷ p.after) (length p.before) refl))

  pub text_is : text t ≡ (concat p.before ++ p.here) ++ concat p.after
  text_is = ap concat (sym e) ∙ concat-append p.before (p.here ∷ p.after)
      ∙ sym (append_assoc (concat p.before) p.here (concat p.after))

-- the path to the leaf finds it
pub found_at : (unit : Unit) (at : ℕ) (t : Tree) (p : Place) (info : TextInfo) → leaves p ≡ t.leaves
    → HoldsPlace unit t.breaks at p.before p.here info → IsFound unit at t p.here info
found_at unit at t p info e h =
    let k : ℕ = length p.before in
    let next : k + 1 ≡ suc k = omega arith in
    let upto : concat (take (k + 1) t.leaves) ≡ concat p.before ++ p.here =
    ap (λ n. concat (take n t.leaves)) next ∙ before_more t.leaves k (index_within p t e)
    ∙ ap (λ x. x ++ get_or t.leaves k []) (sym (front_is p t e))
    ∙ ap (λ x. concat p.before ++ x) (sym (here_is p t e)) in
    record {
      index = k;
      within = index_within p t e;
      leaf_is = here_is p t e;
      before_is = h.info_is ∙ ap (info_of t.breaks) (front_is p t e);
      not_past = h.not_past;
      past = rw upto h.past;
    }

-- a leaf that has a character of the excerpt
module _ (t : Tree) (start end : TextInfo) (p : Place) (info : TextInfo) (tree : IsTree t)
    (s : IsExcerpt t.breaks (text t) start end) (e : leaves p ≡ t.leaves)
    (i : info ≡ info_of t.breaks (concat p.before)) (starts : info.chars < end.chars)
    (ends : start.chars < info.chars + length p.here) where
  chars_are : info.chars ≡ length (concat p.before)
  chars_are = ap (λ x. x.chars) i

  bytes_are : info.bytes ≡ byte_len (concat p.before)
  bytes_are = ap (λ x. x.bytes) i

  pub solid : All (λ leaf. 0 < length leaf) (leaves p)
  solid = subst (λ ls. All (λ leaf. 0 < length leaf) ls) (sym e)
      (nonempty_leaves t.leaves tree.leaves.each)

  pub chunks_are : leaves (record {
    before = clip p.before start.chars end.chars;
    here = slice_range p.here (start.chars - length (concat p.before))
        (end.chars - length (concat p.before));
    after = clip p.after (start.chars - length (concat p.before) - length p.here)
        (end.chars - length (concat p.before) - length p.here);
  })
      ≡ clip t.leaves start.chars end.chars
  chunks_are =
      leaves_clipped p start.chars end.chars (some_leaf p solid) s.some (omega (arith, chars_are))
      (omega (arith, chars_are))
      ∙ ap (λ ls. clip ls start.chars end.chars) e

  within : IsWithin p info.bytes (record { bytes = start.bytes; chars = start.chars })
      (record { bytes = end.bytes; chars = end.chars })
  within =
      let m = measured t.breaks (text t) start end s in
      let same : text t ≡ concat (leaves p) = ap concat (sym e) in
      record {
        solid = solid;
        some = s.some;
        within = omega (arith, m.within, ap length same);
        start_is = bytes_are;
        from_bytes = m.start_bytes ∙ ap (λ x. byte_len (take start.chars x)) same;
        to_bytes = m.end_bytes ∙ ap (λ x. byte_len (take end.chars x)) same;
        starts = omega (arith, chars_are);
        ends = omega (arith, chars_are);
      }

  start_chars : byte_to_char (concat (leaves p)) start.bytes ≡ start.chars
  start_chars = ap (byte_to_char (concat (leaves p))) within.from_bytes
      ∙ byte_to_char-char_to_byte (concat (leaves p)) start.chars
      (omega (arith, within.some, within.within))

  end_chars : byte_to_char (concat (leaves p)) end.bytes ≡ end.chars
  end_chars = ap (byte_to_char (concat (leaves p))) within.to_bytes
      ∙ byte_to_char-char_to_byte (concat (leaves p)) end.chars within.within

  pub is_span : IsSpanFrom p start.bytes end.bytes
  is_span = rw (start_chars, end_chars, sym bytes_are) record {
    some = λ _. within;
    none = λ none. absurd (omega (arith, s.some));
    ordered = omega (arith, s.some);
  }

  pub clipped_is : clipped_at p start.bytes end.bytes ≡ clipped_place p start.chars end.chars
  clipped_is = rw (start_chars, end_chars) refl

  lines_before : info.break_count - start.break_count
      ≡ char_to_line t.breaks (slice_range (text t) start.chars end.chars)
      (info.chars - start.chars)
  unfolding found_chunk
  lines_before =
      let part =
      leaf_in t start end p.here info tree s (length p.before) (index_within p t e) (here_is p t e)
      (i ∙ ap (info_of t.breaks) (front_is p t e)) starts ends in
      let f = part.found _ (info.bytes - start.bytes) (info.chars - start.chars)
      (info.break_count - start.break_count) refl refl refl refl in
      f.count_is ∙ ap (char_to_line t.breaks (concat (clip t.leaves start.chars end.chars)))
      (sym f.chars_are)
      ∙ ap (λ x. char_to_line t.breaks x (info.chars - start.chars))
      (concat-clip t.leaves start.chars end.chars)

  pub are_before : AreBefore t.breaks (slice_range (text t) start.chars end.chars)
      (clip p.before start.chars end.chars) (info.bytes - start.bytes) (info.chars - start.chars)
      (info.break_count - start.break_count)
  are_before = record {
    bytes_are =
        sym (bytes_before_within p info.bytes (record { bytes = start.bytes; chars = start.chars })
        (record { bytes = end.bytes; chars = end.chars }) within);
    chars_are =
        omega (
          arith,
          chars_are,
          s.some,
          ap length (concat-clip p.before start.chars end.chars),
          length-slice_range (concat p.before) start.chars end.chars,
        );
    count_is = lines_before;
  }

  cut_text : concat (clip p.before start.chars end.chars)
      ++ slice_range p.here (start.chars - length (concat p.before))
      (end.chars - length (concat p.before)) ≡ slice_range (concat p.before ++ p.here) start.chars
      end.chars
  cut_text =
      ap (λ x. x ++ slice_range p.here (start.chars - length (concat p.before))
      (end.chars - length (concat p.before))) (concat-clip p.before start.chars end.chars)
      ∙ sym (slice_range-append (concat p.before) p.here start.chars end.chars)

  pub chars_upto : length (concat (clip p.before start.chars end.chars)) + length
      (slice_range p.here (start.chars - length (concat p.before))
      (end.chars - length (concat p.before)))
      ≡ min (length (concat p.before) + length p.here) end.chars - start.chars
  chars_upto =
      let one : List ℕ = concat (clip p.before start.chars end.chars) in
      let two : List ℕ =
      slice_range p.here (start.chars - length (concat p.before))
      (end.chars - length (concat p.before)) in
      omega (
        arith,
        ap length cut_text,
        length-append one two,
        length-slice_range (concat p.before ++ p.here) start.chars end.chars,
        length-append (concat p.before) p.here,
        s.some,
      )

  pub bytes_upto : byte_len (concat (clip p.before start.chars end.chars)) + byte_len
      (slice_range p.here (start.chars - length (concat p.before))
      (end.chars - length (concat p.before)))
      ≡ min (byte_len (concat p.before) + byte_len p.here) end.bytes - start.bytes
  bytes_upto =
      let m = measured t.breaks (text t) start end s in
      let one : List ℕ = concat (clip p.before start.chars end.chars) in
      let two : List ℕ =
      slice_range p.here (start.chars - length (concat p.before))
      (end.chars - length (concat p.before)) in
      let x : List ℕ = concat p.before ++ p.here in
      let long = length-append (concat p.before) p.here in
      let size = sym (IsMeasure-byte_len.joined one two) ∙ ap byte_len cut_text
      ∙ size_of_part byte_len IsMeasure-byte_len x start.chars end.chars in
      let from : byte_len (take start.chars x) ≡ start.bytes =
      sym (m.start_bytes ∙ ap byte_len (ap (take start.chars) (text_is p t e)
      ∙ take-append-le start.chars x (concat p.after) (omega (arith, chars_are)))) in
      let both = IsMeasure-byte_len.joined (concat p.before) p.here in
      let all : byte_len (take (length x) (text t)) ≡ byte_len x =
      ap byte_len (ap (take (length x)) (text_is p t e)
      ∙ take_at x (concat p.after) (length x) refl) in
      elim (cases_lt (length x) end.chars) [
        | inl past ↦
            let whole = ap byte_len (take_all end.chars x (omega arith)) in
            omega (
              arith,
              size,
              from,
              both,
              whole,
              all,
              m.end_bytes,
              size_le byte_len IsMeasure-byte_len (text t) (length x) end.chars (omega arith),
            )
        | inr inside ↦
            let cut : byte_len (take end.chars x) ≡ end.bytes =
            sym (m.end_bytes ∙ ap byte_len (ap (take end.chars) (text_is p t e)
            ∙ take-append-le end.chars x (concat p.after) inside)) in
            omega (
              arith,
              size,
              from,
              both,
              cut,
              size_le_all byte_len IsMeasure-byte_len x
                  end.chars,
            )
      ]

-- the leaf that holds a byte or a character of the excerpt, or at its end the last one
module _ (t : Tree) (start end : TextInfo) (s : IsExcerpt t.breaks (text t) start end)
    (idx place : ℕ) where
  m : Measured t.breaks (text t) start end
  m = measured t.breaks (text t) start end s

  pub some_in : (unit : Unit) → IsItem unit → count_of unit start < count_of unit end
  some_in Byte i = m.some_bytes
  some_in Char i = m.some
  some_in CodeUnit i = absurd i
  some_in LineBreak i = absurd i

  pub fits_in : (unit : Unit) → IsItem unit
      → idx ≤ size_in unit (slice_range (text t) start.chars end.chars) → byte_len (text t) < 2 ^ 63
      → count_of unit start + idx < 2 ^ 64
  fits_in Byte i l fits = omega (arith, l, fits, m.bytes, m.all_bytes)
  fits_in Char i l fits = omega (arith, l, fits, m.chars, m.within, m.few_chars)
  fits_in CodeUnit i l fits = absurd i
  fits_in LineBreak i l fits = absurd i

  pub place_in : (unit : Unit) → IsItem unit
      → place ≡ min (count_of unit start + idx) (count_of unit end - 1)
      → place < count_of unit (info_of t.breaks (text t))
  place_in Byte i e = omega (arith, e, m.some_bytes, m.all_bytes)
  place_in Char i e = omega (arith, e, m.some, m.within)
  place_in CodeUnit i e = absurd i
  place_in LineBreak i e = absurd i

  module _ (p : Place) (info : TextInfo) (e : leaves p ≡ t.leaves) where
    pub meets_in : (unit : Unit) → IsItem unit
        → place ≡ min (count_of unit start + idx) (count_of unit end - 1)
        → HoldsPlace unit t.breaks place p.before p.here info
        → (info.chars < end.chars) × (start.chars < info.chars + length p.here)
    meets_in Byte i at h =
        let meets =
        meets_byte place t start end p.here info s (found_at Byte place t p info e h)
        (omega (arith, at, m.some_bytes)) (omega (arith, at, m.some_bytes)) in
        (meets.starts, meets.ends)
    meets_in Char i at h =
        let meets =
        meets_char place t start end p.here info (found_at Char place t p info e h)
        (omega (arith, at, m.some)) (omega (arith, at, m.some)) in
        (meets.starts, meets.ends)
    meets_in CodeUnit i at h = absurd i
    meets_in LineBreak i at h = absurd i

    -- the part of the excerpt in it
    module _ (front : List (List ℕ)) (here : List ℕ)
        (bytes_before : byte_len (concat front) ≡ info.bytes - start.bytes)
        (chars_before : length (concat front) ≡ info.chars - start.chars)
        (chars : length (concat front) + length here
        ≡ min (length (concat p.before) + length p.here) end.chars - start.chars)
        (bytes : byte_len (concat front) + byte_len here
        ≡ min (byte_len (concat p.before) + byte_len p.here) end.bytes - start.bytes) where
      pub starts_in : (unit : Unit) → IsItem unit
          → place ≡ min (count_of unit start + idx) (count_of unit end - 1)
          → HoldsPlace unit t.breaks place p.before p.here info → size_in unit (concat front) ≤ idx
      starts_in Byte i at h = omega (arith, at, h.not_past, bytes_before)
      starts_in Char i at h = omega (arith, at, h.not_past, chars_before)
      starts_in CodeUnit i at h = absurd i
      starts_in LineBreak i at h = absurd i

      pub within_in : (unit : Unit) → IsItem unit
          → place ≡ min (count_of unit start + idx) (count_of unit end - 1)
          → HoldsPlace unit t.breaks place p.before p.here info
          → idx ≤ size_in unit (slice_range (text t) start.chars end.chars)
          → idx ≤ size_in unit (concat front) + size_in unit here
      within_in Byte i at h l =
          omega (
            arith,
            at,
            h.past,
            l,
            bytes,
            m.bytes,
            m.some_bytes,
            IsMeasure-byte_len.joined (concat p.before) p.here,
          )
      within_in Char i at h l =
          omega (
            arith,
            at,
            h.past,
            l,
            chars,
            m.chars,
            m.some,
            length-append (concat p.before) p.here,
          )
      within_in CodeUnit i at h l = absurd i
      within_in LineBreak i at h l = absurd i

      pub inside_in : (unit : Unit) → IsItem unit
          → place ≡ min (count_of unit start + idx) (count_of unit end - 1)
          → HoldsPlace unit t.breaks place p.before p.here info
          → idx < size_in unit (slice_range (text t) start.chars end.chars)
          → idx < size_in unit (concat front) + size_in unit here
      inside_in Byte i at h l =
          omega (
            arith,
            at,
            h.past,
            l,
            bytes,
            m.bytes,
            m.some_bytes,
            IsMeasure-byte_len.joined (concat p.before) p.here,
          )
      inside_in Char i at h l =
          omega (
            arith,
            at,
            h.past,
            l,
            chars,
            m.chars,
            m.some,
            length-append (concat p.before) p.here,
          )
      inside_in CodeUnit i at h l = absurd i
      inside_in LineBreak i at h l = absurd i

-- the result of a search for a byte or a character of the excerpt
module _ (t : Tree) (start end : TextInfo) (tree : IsTree t)
    (s : IsExcerpt t.breaks (text t) start end) (idx place : ℕ) (unit : Unit) (i : IsItem unit)
    (at : place ≡ min (count_of unit start + idx) (count_of unit end - 1)) (p : Place)
    (info : TextInfo) (e : leaves p ≡ t.leaves)
    (h : HoldsPlace unit t.breaks place p.before p.here info) where
  meets : (info.chars < end.chars) × (start.chars < info.chars + length p.here)
  meets = meets_in t start end s idx place p info e unit i at h

  pub span_here : IsSpanFrom p start.bytes end.bytes
  span_here = is_span t start end p info tree s e h.info_is meets.0 meets.1

  pub holds_here : idx ≤ size_in unit (slice_range (text t) start.chars end.chars)
      → IsHolding unit idx (record {
        text = slice_range (text t) start.chars end.chars;
        chunks = clip t.leaves start.chars end.chars;
        breaks = t.breaks;
      }) (clipped_at p start.bytes end.bytes)
      (info.bytes - start.bytes) (info.chars - start.chars) (info.break_count - start.break_count)
  holds_here l =
      let q : Place = clipped_place p start.chars end.chars in
      let a = are_before t start end p info tree s e h.info_is meets.0 meets.1 in
      let chunks = chunks_are t start end p info tree s e h.info_is meets.0 meets.1 in
      let chars = chars_upto t start end p info tree s e h.info_is meets.0 meets.1 in
      let bytes = bytes_upto t start end p info tree s e h.info_is meets.0 meets.1 in
      subst (λ (r : Place). IsHolding unit idx
      (record {
        text = slice_range (text t) start.chars end.chars;
        chunks = clip t.leaves start.chars end.chars;
        breaks = t.breaks;
      }) r (info.bytes - start.bytes) (info.chars - start.chars)
      (info.break_count - start.break_count))
      (sym (clipped_is t start end p info tree s e h.info_is meets.0 meets.1))
      (record {
        text = ap concat chunks ∙ concat-clip t.leaves start.chars end.chars;
        chunks = λ _. chunks;
        before = a;
        starts = starts_in t start end s idx place p info e q.before q.here (sym a.bytes_are)
            (sym a.chars_are) chars bytes unit i at h;
        within = within_in t start end s idx place p info e q.before q.here (sym a.bytes_are)
            (sym a.chars_are) chars bytes unit i at h l;
        inside = inside_in t start end s idx place p info e q.before q.here (sym a.bytes_are)
            (sym a.chars_are) chars bytes unit i at h;
      })

size_none : (unit : Unit) → size_in unit [] ≡ 0
size_none Byte = refl
size_none Char = refl
size_none CodeUnit = refl
size_none LineBreak = refl

-- a plain text is its only chunk
pub holds_alone : (breaks : LineBreaks) (own : List ℕ) (idx : ℕ) (unit : Unit) → IsItem unit
    → idx ≤ size_in unit own
    → IsHolding unit idx (record { text = own; chunks = single_chunk own; breaks = breaks })
    (alone own) 0 0 0
holds_alone breaks own idx unit i l = record {
  text = append-nil own;
  chunks = λ some. sym (cons_some own [] some);
  before = record {
    bytes_are = refl;
    chars_are = refl;
    count_is = sym (char_to_line_start breaks own);
  };
  starts = omega (arith, size_none unit);
  within = omega (arith, size_none unit, l);
  inside = λ less. omega (arith, size_none unit, less);
}
