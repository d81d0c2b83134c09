-- A position outside of CR LF leads back to its character, in any text that begins as its own.
use Rattle.std.proofs.Common.{◌≡◌, ℕ, zero, suc, ◌+◌, ◌-◌, ◌<◌, ◌≤◌, min, Bool, true, false, cond, ◌&&◌, eqb, inl, inr, List, length, take, drop, get_or, refl, ap, sym, ◌∙◌, arith}
use Rattle.std.specs.Prelude.{nat_le}
use Rattle.std.specs.List.{slice_range}
use Rattle.std.proofs.lemmas.Bool.{and_parts, cases_Bool, cases_lt, lt-leb}
use Rattle.std.proofs.lemmas.List.{drop-take, get_or-take, get_or-drop, length-drop, length-take, length-take-le, take-take, take_rest}
use Rattle.rope_text.specs.declared.line_breaks.LineBreaks.{LineBreaks}
use Rattle.rope_text.specs.Breaks.{is_break_char, is_break_end, ends_in_cr, break_count}
use Rattle.rope_text.specs.Conversions.{char_to_line, byte_to_char, utf16_to_char}
use Rattle.rope_text.specs.LastBreak.{ends_in_break, ends_in_crlf, last_break_len, without_break}
use Rattle.rope_text.specs.Lines.{line, line_count, line_start}
use Rattle.rope_text.specs.Text.{byte_len, utf16_len}
use Rattle.rope_text.proofs.ConversionLaws.{byte_to_char-char_to_byte, utf16_to_char-char_to_utf16, char_to_line-less, char_to_line-line_start, char_to_line_more, char_to_line_end}
use Rattle.rope_text.proofs.LineLaws.{line_start-le-length, line_start_before, line_start_after}
use Rattle.rope_text.proofs.LinesJoin.{line_start_end}
use Rattle.rope_text.proofs.LineSeams.{never}
use Rattle.rope_text.proofs.Measures.{IsMeasure-byte_len, IsMeasure-utf16_len, size_le_all}
use Rattle.rope_text.proofs.SliceLaws.{breaks_apart, break_count-drop, line_start-take}
use Rattle.rope_position.specs.declared.encoding.Encoding.{Encoding}
use Rattle.rope_position.specs.declared.encoding.Encoding.TheVariants.{Utf8, Utf16, Utf32}
use Rattle.rope_position.specs.declared.position.Position.{Position}
use Rattle.rope_position.specs.Encodings.{unit_len, clamped_column, clamped_char, position_in}
use Rattle.rope_documents.specs.Sent.{is_inside_crlf}
use Rattle.rope_documents.proofs.Insides.{ends_last, inside_is, is_10, is_13}

-- the position of the end of a text
abbrev end_position : Encoding → LineBreaks → List ℕ → Position
end_position encoding breaks text =
    record {
      line = break_count breaks text;
      column = unit_len encoding (drop (line_start breaks text (break_count breaks text)) text);
    }

-- a column is read back
column_returns : (encoding : Encoding) (text : List ℕ) (i : ℕ) → i ≤ length text
    → clamped_column encoding text (unit_len encoding (take i text)) ≡ i
column_returns Utf8 text i within =
    let least : min (byte_len (take i text)) (byte_len text) ≡ byte_len (take i text) =
    omega (arith, size_le_all byte_len IsMeasure-byte_len text i) in
    ap (byte_to_char text) least ∙ byte_to_char-char_to_byte text i within
column_returns Utf16 text i within =
    let least : min (utf16_len (take i text)) (utf16_len text) ≡ utf16_len (take i text) =
    omega (arith, size_le_all utf16_len IsMeasure-utf16_len text i) in
    ap (utf16_to_char text) least ∙ utf16_to_char-char_to_utf16 text i within
column_returns Utf32 text i within = omega (arith, length-take-le i text within)

-- a text that ends in a break has one
some_break : (breaks : LineBreaks) (text : List ℕ) → ends_in_break breaks text ≡ true
    → 1 ≤ break_count breaks text
some_break breaks text ends = go (length text) refl
  where
    go : (n : ℕ) → length text ≡ n → 1 ≤ break_count breaks text
    go zero e =
        let none : false ≡ true = ap (is_break_end breaks text) (sym e) ∙ ends in absurd (cc)
    go (suc k) e =
        let more = char_to_line_more breaks text k (omega arith) in
        let on : is_break_end breaks text (suc k) ≡ true =
        ap (is_break_end breaks text) (sym e) ∙ ends in
        let one = ap (λ b. cond {A = ℕ} b 1 0) on in
        omega (
          arith,
          more,
          one,
          char_to_line_end breaks text,
          ap (char_to_line breaks text) e,
        )

module _ (breaks : LineBreaks) (text : List ℕ) (i : ℕ) (within : i ≤ length text) where
  abbrev l : ℕ
  l = char_to_line breaks text i

  abbrev start : ℕ
  start = line_start breaks text l

  abbrev end : ℕ
  end = line_start breaks text (l + 1)

  abbrev here : List ℕ
  here = line breaks text l

  before : start ≤ i
  before = line_start_before breaks text i within

  after : i ≤ end
  after = line_start_after breaks text i within

  inside : end ≤ length text
  inside = line_start-le-length breaks text (l + 1)

  size : length here ≡ end - start
  size = omega (arith, length-take (end - start) (drop start text), length-drop start text, inside)

  -- a character of the line
  at_line : (k : ℕ) → k < end - start → get_or here k 0 ≡ get_or text (start + k) 0
  at_line k less =
      get_or-take (end - start) (drop start text) k 0 less ∙ get_or-drop start text k 0

  -- the last line doesn't end in a break
  last_ends : l + 1 ≡ line_count breaks text → ends_in_break breaks here ≡ true → ⊥
  last_ends last ends =
      let all : end ≡ length text = ap (line_start breaks text) last ∙ line_start_end breaks text in
      let rest : here ≡ drop start text =
      ap (λ n. take (n - start) (drop start text)) all ∙ take_rest text start in
      let none = break_count-drop breaks text start (omega (arith, before, within)) in
      let first = char_to_line-line_start breaks text l (char_to_line-less breaks text i) in
      omega (arith, some_break breaks here ends, ap (break_count breaks) rest, none, first, last)

  -- a line that ends in a break ends after each of its characters
  break_after : ends_in_break breaks here ≡ true → i < end
  break_after ends = elim (cases_lt (l + 1) (line_count breaks text)) [
    | inl less ↦
        let next = char_to_line-line_start breaks text (l + 1) less in
        let other : i ≡ end → ⊥ = λ e. omega (arith, next, ap (char_to_line breaks text) e) in
        omega (arith, after, other)
    | inr past ↦
        absurd (last_ends (omega (arith, past, char_to_line-less breaks text i)) ends)
  ]

  module _ (apart : is_inside_crlf text i ≡ false) where
    not_crlf : (n : ℕ) → i - start ≡ n → i + 1 ≡ end → ends_in_cr (take n here) ≡ true
        → eqb (get_or here n 0) 10 ≡ true → ⊥
    not_crlf zero at last cr lf = absurd (cc)
    not_crlf (suc m) at last cr lf =
        let more : m + 1 ≡ suc m = omega arith in
        let first : get_or text (start + m) 0 ≡ 13 =
        sym (at_line m (omega (arith, before)))
        ∙ is_13 (get_or here m 0) (sym (ends_last here m (omega (arith, size, before)))
        ∙ ap (λ k. ends_in_cr (take k here)) more ∙ cr) in
        let second : get_or text (start + m + 1) 0 ≡ 10 =
        ap (λ k. get_or text k 0) (let e : start + m + 1 ≡ start + suc m = omega arith in e)
        ∙ sym (at_line (suc m) (omega (arith, before))) ∙ is_10 (get_or here (suc m) 0) lf in
        let place : start + m + 1 ≡ i = omega (arith, before) in
        let yes = inside_is text (start + m) (omega (arith, inside, before)) first second in
        let both : false ≡ true = sym apart ∙ ap (is_inside_crlf text) (sym place) ∙ yes in
        absurd (cc)

    -- a line that ends in CR LF ends after the character before its LF
    crlf_after : ends_in_break breaks here ≡ true → ends_in_crlf here ≡ true → i + 1 < end
    crlf_after ends crlf = elim (cases_lt (i + 1) end) [
      | inl less ↦ less
      | inr past ↦
          let last : i + 1 ≡ end = omega (arith, past, break_after ends) in
          let long : length here - 1 ≡ i - start = omega (arith, size, last) in
          let both = and_parts (ends_in_cr (take (length here - 1) here))
          (eqb (get_or here (length here - 1) 0) 10) crlf in
          absurd (not_crlf (i - start) refl last
          (ap (λ n. ends_in_cr (take n here)) (sym long) ∙ both.0)
          (ap (λ n. eqb (get_or here n 0) 10) (sym long) ∙ both.1))
    ]

    one_or_two : (b : Bool) → cond {A = ℕ} b 2 1 ≤ 2
    one_or_two true = omega arith
    one_or_two false = omega arith

    -- the index lies before the line's break
    break_fits : i + last_break_len breaks here ≤ end
    break_fits =
        let pair : Bool = is_break_char breaks 13 && ends_in_crlf here in
        elim (cases_Bool (ends_in_break breaks here)) [
          | inr off ↦
              let none : last_break_len breaks here ≡ 0 =
              ap (λ (b : Bool). cond {A = ℕ} b (cond {A = ℕ} pair 2 1) 0) off in
              omega (arith, none, after)
          | inl on ↦
              let some : last_break_len breaks here ≡ cond {A = ℕ} pair 2 1 =
              ap (λ (b : Bool). cond {A = ℕ} b (cond {A = ℕ} pair 2 1) 0) on in
              elim (cases_Bool (ends_in_crlf here)) [
                | inl crlf ↦ omega (arith, some, one_or_two pair, crlf_after on crlf)
                | inr lone ↦
                    let none : pair ≡ false =
                    ap (λ b. is_break_char breaks 13 && b) lone ∙ never (is_break_char breaks 13) in
                    let one : cond {A = ℕ} pair 2 1 ≡ 1 =
                    ap (λ (b : Bool). cond {A = ℕ} b 2 1) none in
                    omega (arith, some, one, break_after on)
              ]
        ]

    module _ (encoding : Encoding) where
      abbrev whole : List ℕ
      whole = without_break breaks here

      part : slice_range text start i ≡ take (i - start) whole
      part =
          let fits = break_fits in
          let n : ℕ = length here - last_break_len breaks here in
          sym (take-take (i - start) (end - start) (drop start text) (omega (arith, after)))
          ∙ sym (take-take (i - start) n here (omega (arith, size, fits, before)))

      long : i - start ≤ length whole
      long =
          let fits = break_fits in
          omega (
            arith,
            size,
            fits,
            before,
            length-take (length here - last_break_len breaks here) here,
          )

      pub clamped_returns : clamped_char encoding breaks text
          (position_in encoding breaks text i) ≡ i
      clamped_returns =
          let less : nat_le (line_count breaks text) l ≡ false =
          lt-leb (line_count breaks text) l (char_to_line-less breaks text i) in
          let column : clamped_column encoding whole (unit_len encoding (slice_range text start i))
          ≡ i - start =
          ap (λ t. clamped_column encoding whole (unit_len encoding t)) part
          ∙ column_returns encoding whole (i - start) long in
          let sum : start + (i - start) ≡ i = omega (arith, before) in
          ap (λ (b : Bool). cond {A = ℕ} b (length text)
          (start + clamped_column encoding whole (unit_len encoding (slice_range text start i))))
          less
          ∙ ap (λ n. start + n) column ∙ sum

      -- it is the position of the end of the text before it
      abbrev front : List ℕ
      front = take i text

      position_front : position_in encoding breaks text i
          ≡ end_position encoding breaks front
      position_front =
          let line_is : l ≡ break_count breaks front = breaks_apart breaks text i within apart in
          let first : start ≡ line_start breaks front (break_count breaks front) =
          omega (arith, line_start-take breaks text i l within, before)
          ∙ ap (line_start breaks front) line_is in
          let sum : start + (i - start) ≡ i = omega (arith, before) in
          let rest : slice_range text start i ≡ drop start front =
          sym (drop-take start (i - start) text) ∙ ap (λ n. drop start (take n text)) sum in
          let columns : unit_len encoding (slice_range text start i)
          ≡ unit_len encoding (drop (line_start breaks front (break_count breaks front)) front) =
          ap (unit_len encoding) (rest ∙ ap (λ n. drop n front) first) in
          let at : ℕ → ℕ → Position = λ line column. record { line = line; column = column } in
          ap (λ n. at n (unit_len encoding (slice_range text start i))) line_is
          ∙ ap (at (break_count breaks front)) columns

-- texts that begin with the same characters have the same position there
pub position_same : (encoding : Encoding) (breaks : LineBreaks) (text new : List ℕ) (i : ℕ)
    → i ≤ length text → i ≤ length new → is_inside_crlf text i ≡ false
    → is_inside_crlf new i ≡ false → take i new ≡ take i text
    → position_in encoding breaks text i ≡ position_in encoding breaks new i
position_same encoding breaks text new i within long apart outside same =
    position_front breaks text i within apart encoding
    ∙ ap (end_position encoding breaks) (sym same)
    ∙ sym (position_front breaks new i long outside encoding)
