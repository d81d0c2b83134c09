-- The last line of a prefix of a text, found by a backward scan over the bytes.
use Rattle.std.proofs.Common.{◌≡◌, ℕ, zero, suc, ◌+◌, ◌-◌, ◌≤◌, ◌<◌, true, false, List, [], ◌∷◌, length, take, drop, get_or, count_by, refl, sym, ap, ◌∙◌, arith}
use Rattle.std.proofs.lemmas.List.{take_all, take-take, take-append-drop, length-take-le}
use Rattle.std.specs.Str.{chars, IsUtf8}
use Rattle.rope_text.specs.declared.back.Back.{Back}
use Rattle.rope_text.specs.declared.line_breaks.LineBreaks.{LineBreaks}
use Rattle.rope_text.specs.declared.text_info.TextInfo.{TextInfo}
use Rattle.rope_text.specs.Breaks.{break_count}
use Rattle.rope_text.specs.ByteBreaks.{byte_break_count, breaks_at, char_width}
use Rattle.rope_text.specs.Bytes.{begins_char, begins_pair}
use Rattle.rope_text.specs.Conversions.{byte_to_char, char_to_line}
use Rattle.rope_text.specs.Cutting.{parts_crlf}
use Rattle.rope_text.specs.LineParts.{last_start, before_byte, after_byte, IsBetween}
use Rattle.rope_text.specs.Lines.{line_start}
use Rattle.rope_text.specs.Scan.{IsBreakBack, GoesBack, back_from}
use Rattle.rope_text.specs.Text.{byte_len, surrogate_count}
use Rattle.rope_text.specs.TextInfo.{info_of, info_sum}
use Rattle.rope_text.proofs.Blocks.{count_by-front}
use Rattle.rope_text.proofs.ConversionLaws.{byte_to_char-le-length}
use Rattle.rope_text.proofs.Fronts.{begins_before, pairs_before, line_place}
use Rattle.rope_text.proofs.InfoLaws.{same_info, info_of-append_apart}
use Rattle.rope_text.proofs.LineLaws.{line_start_before, line_start_mono}
use Rattle.rope_text.proofs.LineSeams.{line_start_apart, last_start_none}
use Rattle.rope_text.proofs.Measures.{IsMeasure-byte_len, size_le}
use Rattle.rope_text.proofs.Scans.{line_front}
use Rattle.rope_text.proofs.SliceLaws.{breaks_apart, line_start-take}
use Rattle.rope_text.proofs.Walks.{byte_len-chars}

breaks_after : (breaks : LineBreaks) (bytes : List ℕ) (n : ℕ)
    → byte_break_count breaks (drop n bytes) ≤ byte_break_count breaks bytes
breaks_after breaks [] zero = omega arith
breaks_after breaks [] (suc n) = omega arith
breaks_after breaks (x ∷ bytes) zero = omega arith
breaks_after breaks (x ∷ bytes) (suc n) = omega (arith, breaks_after breaks bytes n)

module _ (breaks : LineBreaks) (bs : List ℕ) (end skip : ℕ) (u : IsUtf8 bs)
    (between : IsBetween (chars bs) end)
    (apart : parts_crlf (before_byte (chars bs) end) (after_byte (chars bs) end) ≡ false) where
  abbrev pub text : List ℕ
  text = chars bs

  abbrev pub place : ℕ
  place = byte_to_char text end

  abbrev pub front : List ℕ
  front = take place text

  within : place ≤ length text
  within = byte_to_char-le-length text end

  front_chars : count_by begins_char bs ≡ place + count_by begins_char (drop end bs)
  front_chars =
      omega (
        arith,
        begins_before bs place u within,
        ap (λ k. count_by begins_char (take k bs)) between,
        count_by-front begins_char bs end,
      )

  front_pairs : count_by begins_pair bs ≡ surrogate_count front + count_by begins_pair (drop end bs)
  front_pairs =
      omega (
        arith,
        pairs_before bs place u,
        ap (λ k. count_by begins_pair (take k bs)) between,
        count_by-front begins_pair bs end,
      )

  lines : char_to_line breaks text place ≡ break_count breaks front
  lines = breaks_apart breaks text place within apart

  front_breaks : byte_break_count breaks bs
      ≡ break_count breaks front + byte_break_count breaks (drop end bs)
  front_breaks =
      omega (
        arith,
        line_place breaks bs place u,
        ap (λ k. byte_break_count breaks (drop k bs)) between,
        lines,
      )

  pub end_in : end ≤ length bs
  end_in = omega (
    arith,
    between,
    byte_len-chars bs u,
    size_le byte_len IsMeasure-byte_len text place (length text) within,
    ap byte_len (take_all (length text) text (omega arith)),
  )

  -- the counts of the last lines of a prefix, by those of the text before them
  rest_info : (l : ℕ) (first info : TextInfo) → l ≤ place → first ≡ info_of breaks (take l text)
      → parts_crlf (take l front) (drop l front) ≡ false
      → end ≡ first.bytes + info.bytes → place ≡ first.chars + info.chars
      → surrogate_count front ≡ first.utf16_surrogates + info.utf16_surrogates
      → break_count breaks front ≡ first.break_count + info.break_count
      → info ≡ info_of breaks (drop l front)
  rest_info l first info less known seam bytes in_chars pairs count =
      let sum : info_of breaks front ≡ info_sum (info_of breaks (take l front))
      (info_of breaks (drop l front)) = ap (info_of breaks) (sym (take-append-drop l front))
      ∙ info_of-append_apart breaks (take l front) (drop l front) seam in
      let same : first ≡ info_of breaks (take l front) = known
      ∙ ap (info_of breaks) (sym (take-take l place text less)) in
      let size = length-take-le place text within in
      same_info info (info_of breaks (drop l front))
      (omega (arith, bytes, between, ap (λ i. i.bytes) sum, ap (λ i. i.bytes) same))
      (omega (arith, in_chars, size, ap (λ i. i.chars) sum, ap (λ i. i.chars) same))
      (omega (arith, pairs, ap (λ i. i.utf16_surrogates) sum, ap (λ i. i.utf16_surrogates) same))
      (omega (arith, count, ap (λ i. i.break_count) sum, ap (λ i. i.break_count) same))

  -- where the break was found, it ends before the line
  module _ (back : Back) (start : ℕ) (goes : GoesBack breaks bs (back_from end skip) back true)
      (start_is : start ≡ back.at + char_width (get_or bs back.at 0)) where
    found : IsBreakBack breaks bs (back_from end skip) back
    found = goes.found refl

    found_all : back.left ≡ 0
    found_all = let h = found in h.all

    found_before : back.at < end
    found_before = let h = found in h.before

    found_begins : breaks_at breaks bs back.at ≡ true
    found_begins = let h = found in h.begins

    abbrev pub lines_before : ℕ
    lines_before = break_count breaks front - (skip + 1)

    enough : lines_before + (skip + 1) ≡ break_count breaks front
    enough = omega (arith, goes.passed, found_all, front_breaks, breaks_after breaks bs back.at)

    abbrev pub line : ℕ
    line = line_start breaks text (suc lines_before)

    abbrev pub before : TextInfo
    before = record {
      bytes = start;
      chars = (count_by begins_char bs - count_by begins_char (drop back.at bs)) + 1;
      utf16_surrogates = count_by begins_pair bs - count_by begins_pair (drop back.at bs);
      break_count = suc lines_before;
    }

    inside : back.at < length bs
    inside = omega (arith, found_before, end_in)

    before_is : before ≡ info_of breaks (take line text)
    before_is =
        let at = back.at in
        line_front breaks bs lines_before at
        (count_by begins_char bs - count_by begins_char (drop at bs))
        (count_by begins_pair bs - count_by begins_pair (drop at bs)) before u inside
        (omega (arith, goes.passed, found_all, front_breaks, enough)) found_begins
        (omega (arith, count_by-front begins_char bs at))
        (omega (arith, count_by-front begins_pair bs at)) start_is refl refl refl

    line_in : line ≤ place
    line_in =
        omega (
          arith,
          line_start_before breaks text place within,
          line_start_mono breaks text (suc lines_before) (char_to_line breaks text place)
              (omega (arith, lines, enough)),
        )

    same_line : last_start breaks front skip ≡ line
    same_line =
        ap (line_start breaks front) (let l : break_count breaks front - skip ≡ suc lines_before =
        omega (arith, enough) in l)
        ∙ omega (arith, line_start-take breaks text place (suc lines_before) within, line_in)

    pub found_start : start ≡ byte_len (take (last_start breaks front skip) front)
    found_start = ap (λ i. i.bytes) before_is
        ∙ ap byte_len (sym (take-take line place text line_in))
        ∙ ap (λ k. byte_len (take k front)) (sym same_line)

    pub start_in : start ≤ end
    start_in =
        omega (
          arith,
          ap (λ i. i.bytes) before_is,
          between,
          size_le byte_len IsMeasure-byte_len text line place line_in,
        )

    pub some_char : 1 ≤ back.chars
    some_char =
        omega (
          arith,
          goes.chars,
          front_chars,
          count_by-front begins_char bs back.at,
          ap (λ i. i.chars) before_is,
          line_in,
          length-take-le line text (let l : line ≤ length text = omega (arith, line_in, within) in
              l),
        )

    pub found_info : (info : TextInfo) → start + info.bytes ≡ end → info.chars + 1 ≡ back.chars
        → info.utf16_surrogates ≡ back.pairs → info.break_count + back.left ≡ skip
        → info ≡ info_of breaks (drop (last_start breaks front skip) front)
    found_info info bytes in_chars pairs count =
        let seam : parts_crlf (take line front) (drop line front) ≡ false =
        ap (λ k. parts_crlf (take k front) (drop k front)) (sym same_line)
        ∙ line_start_apart breaks front (break_count breaks front - skip) in
        rest_info line before info line_in before_is seam (omega (arith, bytes))
        (omega (arith, in_chars, goes.chars, front_chars, count_by-front begins_char bs back.at))
        (omega (arith, pairs, goes.pairs, front_pairs, count_by-front begins_pair bs back.at))
        (omega (arith, count, found_all, enough))
        ∙ ap (λ k. info_of breaks (drop k front)) (sym same_line)

  -- where it wasn't, the line begins with the text
  module _ (back : Back) (goes : GoesBack breaks bs (back_from end skip) back false)
      (at_start : back.at ≡ 0) where
    pub left_in : back.left ≤ skip
    left_in =
        omega (
          arith,
          goes.passed,
          front_breaks,
          ap (λ k. byte_break_count breaks (drop k bs)) at_start,
        )

    few : break_count breaks front ≤ skip
    few = omega (
      arith,
      goes.passed,
      front_breaks,
      ap (λ k. byte_break_count breaks (drop k bs)) at_start,
    )

    pub first_start : 0 ≡ byte_len (take (last_start breaks front skip) front)
    first_start = ap (λ k. byte_len (take k front)) (sym (last_start_none breaks front skip few))

    pub first_info : (info : TextInfo) → info.bytes ≡ end → info.chars ≡ back.chars
        → info.utf16_surrogates ≡ back.pairs → info.break_count + back.left ≡ skip
        → info ≡ info_of breaks (drop (last_start breaks front skip) front)
    first_info info bytes in_chars pairs count =
        same_info info (info_of breaks front)
        (omega (arith, bytes, between))
        (omega (
          arith,
          in_chars,
          goes.chars,
          front_chars,
          ap (λ k. count_by begins_char (drop k bs)) at_start,
          length-take-le place text within,
        ))
        (omega (
          arith,
          pairs,
          goes.pairs,
          front_pairs,
          ap (λ k. count_by begins_pair (drop k bs)) at_start,
        ))
        (omega (
          arith,
          count,
          goes.passed,
          front_breaks,
          ap (λ k. byte_break_count breaks (drop k bs)) at_start,
        ))
        ∙ ap (λ k. info_of breaks (drop k front)) (sym (last_start_none breaks front skip few))
