-- The counts of an excerpt's text, by the counts at its two ends.
use Rattle.std.proofs.Common.{◌≡◌, ℕ, ◌+◌, ◌*◌, ◌<◌, ◌≤◌, Bool, true, false, ◌&&◌, cond, List, [], length, take, drop, refl, sym, ap, ◌∙◌, arith, inl, inr}
use Rattle.std.specs.List.{slice_range}
use Rattle.std.proofs.lemmas.List.{take-append-drop, length-take-le, take_all}
use Rattle.std.proofs.lemmas.Str.{length-le-encodes}
use Rattle.rope_text.specs.declared.line_breaks.LineBreaks.{LineBreaks}
use Rattle.rope_text.specs.declared.text_info.TextInfo.{TextInfo}
use Rattle.rope_text.specs.Text.{byte_len, utf16_len, surrogate_count}
use Rattle.rope_text.specs.TextInfo.{info_of, info_sum}
use Rattle.rope_text.specs.Breaks.{is_break_char, begins_with_lf, ends_in_cr, ends_break, break_count}
use Rattle.rope_text.specs.Conversions.{char_to_line}
use Rattle.rope_text.proofs.Measures.{IsMeasure-byte_len, IsMeasure-utf16_len, size_le_all}
use Rattle.rope_text.proofs.ConversionLaws.{utf16_len-le, char_to_line_start}
use Rattle.rope_text.proofs.BreakLaws.{break_count-append, break_count-cons, break_ends-nil, joins_break}
use Rattle.rope_text.proofs.TextParts.{lf_first}
use Rattle.std.proofs.lemmas.Bool.{cases_Bool}
use Rattle.rope_text.specs.declared.line_breaks.LineBreaks.TheVariants.{Lf, CrLf, Unicode}
use Rattle.rope_text.proofs.InfoLaws.{surrogate_count-append, break_count-le-length, same_info}
use Rattle.rope_text.proofs.BitLaws.{one_at_most}
use Rattle.rope_text.proofs.LinesJoin.{take-slice_range}
use Rattle.rope_slice.specs.Edge.{start_info, end_info, IsExcerpt}
use Rattle.rope_slice.proofs.Excerpts.{length_part, size_part, break_count_part}

pub record Measured (breaks : LineBreaks) (text : List ℕ) (start end : TextInfo) : Type 0 where
  pub some : start.chars < end.chars
  pub within : end.chars ≤ length text
  pub chars : end.chars ≡ start.chars + length (slice_range text start.chars end.chars)
  pub start_bytes : start.bytes ≡ byte_len (take start.chars text)
  pub end_bytes : end.bytes ≡ byte_len (take end.chars text)
  pub bytes : end.bytes ≡ start.bytes + byte_len (slice_range text start.chars end.chars)
  pub some_bytes : start.bytes < end.bytes
  pub all_bytes : end.bytes ≤ byte_len text
  pub start_units : start.chars + start.utf16_surrogates ≡ utf16_len (take start.chars text)
  pub pairs : end.utf16_surrogates ≡ start.utf16_surrogates + surrogate_count
      (slice_range text start.chars end.chars)
  pub all_units : end.chars + end.utf16_surrogates ≤ utf16_len text
  pub start_breaks : start.break_count ≡ char_to_line breaks text start.chars
  pub count : end.break_count ≡ start.break_count + break_count breaks
      (slice_range text start.chars end.chars)
  pub all_breaks : end.break_count ≤ break_count breaks text
  pub few_chars : length text ≤ byte_len text
  pub few_units : utf16_len text ≤ 2 * byte_len text
  pub few_breaks : break_count breaks text ≤ length text

lf_ends : (breaks : LineBreaks) (rest : List ℕ) → ends_break breaks 10 rest ≡ true
lf_ends Lf rest = refl
lf_ends CrLf rest = refl
lf_ends Unicode rest = refl

never : (x y : Bool) → cond {A = ℕ} ((x && false) && y) 1 0 ≡ 0
never true y = refl
never false y = refl

-- the LF after a CR ends a break
shared_le : (breaks : LineBreaks) (s t : List ℕ)
    → cond {A = ℕ} (joins_break breaks s t) 1 0 ≤ break_count breaks t
shared_le breaks s t = elim (cases_Bool (begins_with_lf t)) [
  | inl lf ↦
      let one : break_count breaks t ≡ 1 + break_count breaks (drop 1 t) =
      ap (break_count breaks) (lf_first t lf) ∙ break_count-cons breaks 10 (drop 1 t)
      ∙ ap (λ (b : Bool). cond {A = ℕ} b 1 0 + break_count breaks (drop 1 t))
      (lf_ends breaks (drop 1 t)) in
      omega (arith, one_at_most (joins_break breaks s t))
  | inr other ↦
      let none : cond {A = ℕ} (joins_break breaks s t) 1 0 ≡ 0 =
      ap (λ (b : Bool). cond {A = ℕ} ((ends_in_cr s && b) && is_break_char breaks 13) 1 0) other
      ∙ never (ends_in_cr s) (is_break_char breaks 13) in
      omega arith
]

-- a front by itself has no more breaks than the text
pub break_count-front : (breaks : LineBreaks) (text : List ℕ) (i : ℕ)
    → break_count breaks (take i text) ≤ break_count breaks text
break_count-front breaks text i =
    omega (
      arith,
      break_count-append breaks (take i text) (drop i text),
      ap (break_count breaks) (take-append-drop i text),
      shared_le breaks (take i text) (drop i text),
    )

pub measured : (breaks : LineBreaks) (text : List ℕ) (start end : TextInfo)
    → IsExcerpt breaks text start end → Measured breaks text start end
measured breaks text start end s =
    let a : ℕ = start.chars in
    let b : ℕ = end.chars in
    let less : a < b = s.some in
    let within : b ≤ length text = s.within in
    let front = length-take-le a text (omega arith) in
    let all = length-take-le b text within in
    let start_bytes : start.bytes ≡ byte_len (take a text) = ap (λ x. x.bytes) s.start_is in
    let end_bytes : end.bytes ≡ byte_len (take b text) = ap (λ x. x.bytes) s.end_is in
    let start_pairs : start.utf16_surrogates ≡ surrogate_count (take a text) =
    ap (λ x. x.utf16_surrogates) s.start_is in
    let end_pairs : end.utf16_surrogates ≡ surrogate_count (take b text) =
    ap (λ x. x.utf16_surrogates) s.end_is in
    let start_breaks : start.break_count ≡ char_to_line breaks text a =
    ap (λ x. x.break_count) s.start_is in
    let end_breaks : end.break_count ≡ break_count breaks (take b text) =
    ap (λ x. x.break_count) s.end_is in
    record {
      some = less;
      within = within;
      chars = omega (arith, length_part text a b within);
      start_bytes = start_bytes;
      end_bytes = end_bytes;
      bytes = omega (arith, size_part byte_len IsMeasure-byte_len text a b (omega arith));
      some_bytes =
          omega (
            arith,
            size_part byte_len IsMeasure-byte_len text a b (omega arith),
            length_part text a b within,
            length-le-encodes (slice_range text a b),
          );
      all_bytes = omega (arith, size_le_all byte_len IsMeasure-byte_len text b);
      start_units = omega arith;
      pairs = omega (
        arith,
        ap surrogate_count (take-slice_range text a b (omega arith)),
        surrogate_count-append (take a text) (slice_range text a b),
      );
      all_units = omega (arith, size_le_all utf16_len IsMeasure-utf16_len text b);
      start_breaks = start_breaks;
      count = omega (arith, break_count_part breaks text a b less within);
      all_breaks = omega (arith, break_count-front breaks text b);
      few_chars = length-le-encodes text;
      few_units = utf16_len-le text;
      few_breaks = break_count-le-length breaks text;
    }

-- the counts of the text of an excerpt are the differences
pub info_part : (breaks : LineBreaks) (text : List ℕ) (start end info : TextInfo)
    → IsExcerpt breaks text start end → info_sum start info ≡ end
    → info ≡ info_of breaks (slice_range text start.chars end.chars)
info_part breaks text start end info s sum =
    let m = measured breaks text start end s in
    let bytes : info.bytes ≡ byte_len (slice_range text start.chars end.chars) =
    omega (arith, ap (λ x. x.bytes) sum) in
    let chars : info.chars ≡ length (slice_range text start.chars end.chars) =
    omega (arith, ap (λ x. x.chars) sum) in
    let pairs : info.utf16_surrogates ≡ surrogate_count (slice_range text start.chars end.chars) =
    omega (arith, ap (λ x. x.utf16_surrogates) sum) in
    let count : info.break_count ≡ break_count breaks (slice_range text start.chars end.chars) =
    omega (arith, ap (λ x. x.break_count) sum) in
    same_info info (info_of breaks (slice_range text start.chars end.chars)) bytes chars pairs count

-- a whole text as an excerpt
pub whole_excerpt : (breaks : LineBreaks) (text : List ℕ) (start end : TextInfo) → 0 < length text
    → start ≡ info_of breaks [] → end ≡ info_of breaks text → IsExcerpt breaks text start end
whole_excerpt breaks text start end some first last =
    let none : start.chars ≡ 0 = ap (λ x. x.chars) first in
    let all : end.chars ≡ length text = ap (λ x. x.chars) last in
    let no_break : break_count breaks [] ≡ char_to_line breaks text 0 =
    ap length (break_ends-nil breaks) ∙ sym (char_to_line_start breaks text) in
    record {
      some = omega arith;
      within = omega arith;
      start_is =
          first ∙ same_info (info_of breaks []) (start_info breaks text 0) refl refl refl no_break
          ∙ sym (ap (start_info breaks text) none);
      end_is = last ∙ sym (ap (end_info breaks text) all
          ∙ ap (info_of breaks) (take_all (length text) text (omega arith)));
    }
