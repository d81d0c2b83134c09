-- The conversions of an excerpt are those of the text, from its start on.
use Rattle.std.proofs.Common.{◌≡◌, ℕ, ◌+◌, ◌<◌, ◌≤◌, min, List, ◌++◌, length, take, drop, sym, ap, ◌∙◌, arith, inl, inr, slice_get, Some, true}
use Rattle.std.specs.List.{slice_range}
use Rattle.std.specs.Str.{encode_utf8_all}
use Rattle.std.proofs.lemmas.Bool.{cases_lt}
use Rattle.std.proofs.lemmas.List.{length-append, get_or-append-add, get_or_append_left}
use Rattle.std.proofs.lemmas.Option.{slice_get-get_or}
use Rattle.std.proofs.lemmas.Str.{encodes-append}
use Rattle.rope_text.specs.declared.line_breaks.LineBreaks.{LineBreaks}
use Rattle.rope_text.specs.declared.text_info.TextInfo.{TextInfo}
use Rattle.rope_text.specs.Text.{byte_len, utf16_len}
use Rattle.rope_text.specs.Lines.{line_start}
use Rattle.rope_text.specs.Conversions.{byte_to_char, utf16_to_char, char_to_byte, char_to_utf16, char_to_line, byte_to_line, line_to_byte, line_to_char}
use Rattle.rope_text.specs.TextInfo.{info_of}
use Rattle.rope_text.proofs.Measures.{IsMeasure-byte_len, IsMeasure-utf16_len, size_le, size_le_all}
use Rattle.rope_text.proofs.ConversionLaws.{byte_to_char-le-length, utf16_to_char-le-length, byte_to_line-byte_to_char, char_to_line-less}
use Rattle.rope_text.proofs.LineLaws.{line_start-le-length}
use Rattle.rope_leaf.specs.declared.search.Unit.{Unit}
use Rattle.rope_leaf.specs.declared.search.Unit.TheVariants.{Byte, Char, CodeUnit, LineBreak}
use Rattle.rope_leaf.specs.Search.{count_of}
use Rattle.rope_tree.specs.Conversions.{end_index, first_sought, are_converted, converted}
use Rattle.rope_tree.proofs.ConvertedLaws.{converted_end}
use Rattle.rope_slice.specs.Edge.{IsExcerpt}
use Rattle.rope_slice.proofs.Measured.{measured}
use Rattle.rope_slice.proofs.Excerpts.{around_part, byte_to_char_part, utf16_to_char_part, size_of_front, char_to_line_part, byte_to_line_part, line_start_part}

-- an element of the second of three joined lists
within_middle : (xs ys zs : List ℕ) (i : ℕ) → i < length ys
    → slice_get (xs ++ (ys ++ zs)) (length xs + i) ≡ slice_get ys i
within_middle xs ys zs i lt =
    slice_get-get_or (xs ++ (ys ++ zs)) (length xs + i) 0
    (omega (arith, length-append xs (ys ++ zs), length-append ys zs))
    ∙ ap (λ x. Some x) (get_or-append-add xs (ys ++ zs) i 0 ∙ get_or_append_left ys zs 0 i lt)
    ∙ sym (slice_get-get_or ys i 0 lt)

-- the bytes up to the earlier of two indices are fewer
bytes_of_min : (text : List ℕ) (i j : ℕ)
    → byte_len (take (min i j) text) ≡ min (byte_len (take i text)) (byte_len (take j text))
bytes_of_min text i j = elim (cases_lt i j) [
  | inl less ↦ let same : min i j ≡ i = omega arith in
      rw same (omega (arith, size_le byte_len IsMeasure-byte_len text i j (omega arith)))
  | inr more ↦ let same : min i j ≡ j = omega arith in
      rw same (omega (arith, size_le byte_len IsMeasure-byte_len text j i more))
]

module _ (breaks : LineBreaks) (text : List ℕ) (start end : TextInfo)
    (s : IsExcerpt breaks text start end) where
  pub excerpt_byte_to_char : (n : ℕ) → n ≤ byte_len (slice_range text start.chars end.chars)
      → byte_to_char text (start.bytes + n) ≡ start.chars + byte_to_char
      (slice_range text start.chars end.chars) n
  excerpt_byte_to_char n fits =
      let m = measured breaks text start end s in
      ap (λ k. byte_to_char text (k + n)) m.start_bytes
      ∙ byte_to_char_part text start.chars end.chars n (omega arith) m.within fits

  pub excerpt_utf16_to_char : (n : ℕ) → n ≤ utf16_len (slice_range text start.chars end.chars)
      → utf16_to_char text ((start.chars + start.utf16_surrogates) + n)
      ≡ start.chars + utf16_to_char (slice_range text start.chars end.chars) n
  excerpt_utf16_to_char n fits =
      let m = measured breaks text start end s in
      ap (λ k. utf16_to_char text (k + n)) m.start_units
      ∙ utf16_to_char_part text start.chars end.chars n (omega arith) m.within fits

  pub excerpt_char_to_byte : (i : ℕ) → i ≤ length (slice_range text start.chars end.chars)
      → char_to_byte text (start.chars + i) ≡ start.bytes + char_to_byte
      (slice_range text start.chars end.chars) i
  excerpt_char_to_byte i fits =
      let m = measured breaks text start end s in
      size_of_front byte_len IsMeasure-byte_len text start.chars end.chars i (omega arith)
      ∙ ap (λ k. k + byte_len (take i (slice_range text start.chars end.chars))) (sym m.start_bytes)

  pub excerpt_char_to_utf16 : (i : ℕ) → i ≤ length (slice_range text start.chars end.chars)
      → char_to_utf16 text (start.chars + i) ≡ (start.chars + start.utf16_surrogates)
      + char_to_utf16 (slice_range text start.chars end.chars) i
  excerpt_char_to_utf16 i fits =
      let m = measured breaks text start end s in
      size_of_front utf16_len IsMeasure-utf16_len text start.chars end.chars i (omega arith)
      ∙ ap (λ k. k + utf16_len (take i (slice_range text start.chars end.chars)))
      (sym m.start_units)

  pub excerpt_char_to_line : (i : ℕ) → start.chars + i < end.chars
      → char_to_line breaks text (start.chars + i)
      ≡ start.break_count + char_to_line breaks (slice_range text start.chars end.chars) i
  excerpt_char_to_line i less =
      let m = measured breaks text start end s in
      char_to_line_part breaks text start.chars end.chars m.some m.within i (omega arith)
      ∙ ap (λ k. k + char_to_line breaks (slice_range text start.chars end.chars) i)
      (sym m.start_breaks)

  pub excerpt_byte_to_line : (n : ℕ) → start.bytes + n < end.bytes
      → byte_to_line breaks text (start.bytes + n)
      ≡ start.break_count + byte_to_line breaks (slice_range text start.chars end.chars) n
  excerpt_byte_to_line n less =
      let m = measured breaks text start end s in
      ap (λ k. byte_to_line breaks text (k + n)) m.start_bytes
      ∙ byte_to_line_part breaks text start.chars end.chars m.some m.within n (omega arith)
      ∙ ap (λ k. k + byte_to_line breaks (slice_range text start.chars end.chars) n)
      (sym m.start_breaks)

  pub excerpt_line_to_char : (l : ℕ) → 0 < l
      → min (line_to_char breaks text (start.break_count + l)) end.chars
      ≡ start.chars + line_to_char breaks (slice_range text start.chars end.chars) l
  excerpt_line_to_char l later =
      let m = measured breaks text start end s in
      ap (λ k. min (line_start breaks text (k + l)) end.chars) m.start_breaks
      ∙ sym (line_start_part breaks text start.chars end.chars m.some m.within l later)

  pub excerpt_line_to_byte : (l : ℕ) → 0 < l
      → min (line_to_byte breaks text (start.break_count + l)) end.bytes
      ≡ start.bytes + line_to_byte breaks (slice_range text start.chars end.chars) l
  excerpt_line_to_byte l later =
      let m = measured breaks text start end s in
      let place : ℕ = line_start breaks text (start.break_count + l) in
      let here : ℕ = line_start breaks (slice_range text start.chars end.chars) l in
      let short = line_start-le-length breaks (slice_range text start.chars end.chars) l in
      ap (min (byte_len (take place text))) m.end_bytes ∙ sym (bytes_of_min text place end.chars)
      ∙ ap (λ k. byte_len (take k text)) (excerpt_line_to_char l later)
      ∙ excerpt_char_to_byte here short

  -- each count before the end is that before the start, and that of the part
  pub excerpt_count : (unit : Unit) → count_of unit end
      ≡ count_of unit start + count_of unit
      (info_of breaks (slice_range text start.chars end.chars))
  excerpt_count Byte = (measured breaks text start end s).bytes
  excerpt_count Char = (measured breaks text start end s).chars
  excerpt_count CodeUnit = let m = measured breaks text start end s in omega arith
  excerpt_count LineBreak = (measured breaks text start end s).count

  -- no index of the slice is past the end of the text, and none before its end is past the end of
  -- the slice
  pub place_within : (unit : Unit) (idx : ℕ)
      → idx ≤ end_index unit breaks (slice_range text start.chars end.chars)
      → count_of unit start + idx ≤ end_index unit breaks text
  place_within Byte idx within = let m = measured breaks text start end s in omega arith
  place_within Char idx within = let m = measured breaks text start end s in omega arith
  place_within CodeUnit idx within = let m = measured breaks text start end s in omega arith
  place_within LineBreak idx within = let m = measured breaks text start end s in omega arith

  pub place_before_end : (unit : Unit) (idx : ℕ)
      → idx ≤ end_index unit breaks (slice_range text start.chars end.chars)
      → count_of unit start + idx ≤ count_of unit end + first_sought unit
  place_before_end Byte idx within = let m = measured breaks text start end s in omega arith
  place_before_end Char idx within = let m = measured breaks text start end s in omega arith
  place_before_end CodeUnit idx within = let m = measured breaks text start end s in omega arith
  place_before_end LineBreak idx within = let m = measured breaks text start end s in omega arith

  pub excerpt_converted_end : (from to : Unit) (idx : ℕ) → are_converted from to ≡ true
      → count_of from start + idx ≡ count_of from end + first_sought from
      → count_of to end ≡ count_of to start + converted from to breaks
      (slice_range text start.chars end.chars) idx
  excerpt_converted_end from to idx pair e =
      omega (
        arith,
        excerpt_count to,
        converted_end from to breaks
            (slice_range text start.chars end.chars) idx pair (omega (arith, excerpt_count from)),
      )

  pub excerpt_converted : (from to : Unit) (idx : ℕ) → are_converted from to ≡ true
      → first_sought from ≤ idx → count_of from start + idx < count_of from end + first_sought from
      → min (converted from to breaks text (count_of from start + idx)) (count_of to end)
      ≡ count_of to start + converted from to breaks (slice_range text start.chars end.chars) idx
  excerpt_converted Byte Char idx pair first less = let m = measured breaks text start end s in
      omega (
        arith,
        excerpt_byte_to_char idx (omega arith),
        byte_to_char-le-length (slice_range text start.chars end.chars) idx,
      )
  excerpt_converted Byte LineBreak idx pair first less =
      let m = measured breaks text start end s in
      let part : List ℕ = slice_range text start.chars end.chars in
      omega (
        arith,
        excerpt_byte_to_line idx (omega arith),
        byte_to_line-byte_to_char breaks part idx,
        char_to_line-less breaks part (byte_to_char part idx),
      )
  excerpt_converted Char Byte idx pair first less = let m = measured breaks text start end s in
      omega (
        arith,
        excerpt_char_to_byte idx (omega arith),
        size_le_all byte_len IsMeasure-byte_len (slice_range text start.chars end.chars) idx,
      )
  excerpt_converted Char CodeUnit idx pair first less = let m = measured breaks text start end s in
      omega (
        arith,
        excerpt_char_to_utf16 idx (omega arith),
        size_le_all utf16_len IsMeasure-utf16_len (slice_range text start.chars end.chars) idx,
      )
  excerpt_converted Char LineBreak idx pair first less = let m = measured breaks text start end s in
      omega (
        arith,
        excerpt_char_to_line idx (omega arith),
        char_to_line-less breaks (slice_range text start.chars end.chars) idx,
      )
  excerpt_converted CodeUnit Char idx pair first less = let m = measured breaks text start end s in
      omega (
        arith,
        excerpt_utf16_to_char idx (omega arith),
        utf16_to_char-le-length (slice_range text start.chars end.chars) idx,
      )
  excerpt_converted LineBreak Byte idx pair first less = excerpt_line_to_byte idx first
  excerpt_converted LineBreak Char idx pair first less = excerpt_line_to_char idx first
  excerpt_converted _ _ idx pair first less = absurd (cc)

  pub excerpt_byte : (n : ℕ) → n < byte_len (slice_range text start.chars end.chars)
      → slice_get (encode_utf8_all text) (start.bytes + n)
      ≡ slice_get (encode_utf8_all (slice_range text start.chars end.chars)) n
  excerpt_byte n less =
      let m = measured breaks text start end s in
      let before : List ℕ = take start.chars text in
      let rest : List ℕ = drop end.chars text in
      ap (λ k. slice_get (encode_utf8_all text) (k + n)) m.start_bytes
      ∙ ap (λ bs. slice_get bs (byte_len before + n))
      (ap encode_utf8_all (around_part text start.chars end.chars (omega arith))
      ∙ encodes-append before (slice_range text start.chars end.chars ++ rest)
      ∙ ap (λ bs. encode_utf8_all before ++ bs)
      (encodes-append (slice_range text start.chars end.chars) rest))
      ∙ within_middle (encode_utf8_all before)
      (encode_utf8_all (slice_range text start.chars end.chars)) (encode_utf8_all rest) n less
