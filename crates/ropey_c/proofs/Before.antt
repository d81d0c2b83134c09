-- What lies before a character, by what is left following it, and the parts of that.
use Rattle.std.proofs.Common.{◌≡◌, ℕ, ◌+◌, ◌-◌, ◌≤◌, ◌<◌, ◌^◌, nat_le, List, length, take, sym, ap, ◌∙◌, arith}
use Rattle.std.proofs.lemmas.List.{length-take-le}
use Rattle.std.proofs.lemmas.List.Sums.{count_by-le-length}
use Rattle.std.proofs.lemmas.Str.{length-le-encodes}
use Rattle.std.specs.List.{slice_range}
use Rattle.rope_text.specs.declared.line_breaks.LineBreaks.{LineBreaks}
use Rattle.rope_text.specs.declared.text_info.TextInfo.{TextInfo}
use Rattle.rope_text.specs.Conversions.{line_to_char}
use Rattle.rope_text.specs.Lines.{line_start}
use Rattle.rope_text.specs.Text.{byte_len, surrogate_count}
use Rattle.rope_text.specs.Content.{Content}
use Rattle.rope_text.specs.Cutting.{clip}
use Rattle.rope_text.specs.LineParts.{part_between}
use Rattle.rope_text.proofs.Measures.{IsMeasure-byte_len, size_parts}
use Rattle.rope_text.proofs.ClipLaws.{slice_range-slice_range, clip-clip}
use Rattle.rope_text.proofs.LineLaws.{line_start-le-length}
use Rattle.rope_text.proofs.LineSeams.{line_start_apart}
use Rattle.rope_text.proofs.SliceLaws.{breaks_apart}
use Rattle.rope_slice.specs.Edge.{line_info}
use Rattle.rope_slice.specs.Sliced.{IsSlice}
use Rattle.rope_slice.proofs.PartsBetween.{same_content}
use Rattle.ropey_c.specs.Before.{IsBefore}

-- a slice is the part between its bounds
pub slice_is : (whole part : Content) (a b : ℕ) → IsSlice whole a b part
    → part ≡ part_between whole a b
slice_is whole part a b s = same_content _ _ s.text s.chunks s.breaks

-- the first characters of what is left from a on are those up to b
pub part_of_rest : (whole part : Content) (a b len : ℕ) → a ≤ b → b ≤ len
    → IsSlice (part_between whole a len) 0 (b - a) part → part ≡ part_between whole a b
part_of_rest whole part a b len ordered within s =
    let inside : b - a ≤ len - a = omega arith in
    let start : a + 0 ≡ a = omega arith in
    let end : a + (b - a) ≡ b = omega arith in
    slice_is whole part a b (record {
      text = s.text ∙ slice_range-slice_range whole.text a len 0 (b - a) inside
          ∙ ap (λ n. slice_range whole.text n (a + (b - a))) start
          ∙ ap (λ n. slice_range whole.text a n) end;
      chunks = s.chunks ∙ clip-clip whole.chunks a len 0 (b - a) inside
          ∙ ap (λ n. clip whole.chunks n (a + (b - a))) start ∙ ap (λ n. clip whole.chunks a n) end;
      breaks = s.breaks;
    })

pub before_line : (breaks : LineBreaks) (text : List ℕ) (l : ℕ) (info : TextInfo)
    → info ≡ line_info breaks text l
    → IsBefore breaks text (line_to_char breaks text l)
    (record {
      bytes = info.bytes;
      chars = info.chars;
      utf16 = info.chars + info.utf16_surrogates;
      line_breaks = info.break_count;
    })
before_line breaks text l info same =
    let fits = line_start-le-length breaks text l in record {
      bytes = ap (λ x. x.bytes) same;
      chars = ap (λ x. x.chars) same ∙ length-take-le (line_start breaks text l) text fits;
      utf16 = ap (λ x. x.chars + x.utf16_surrogates) same;
      line_breaks = ap (λ x. x.break_count) same
          ∙ sym (breaks_apart breaks text (line_start breaks text l) fits
          (line_start_apart breaks text l));
    }

-- so many characters and pairs are counted
pub units_fit : (breaks : LineBreaks) (text : List ℕ) (l : ℕ) (info : TextInfo)
    → info ≡ line_info breaks text l → byte_len text < 2 ^ 63
    → info.chars + info.utf16_surrogates < 2 ^ 64
units_fit breaks text l info same fits =
    let front = take (line_start breaks text l) text in
    let bytes : length front ≤ byte_len front = length-le-encodes front in
    let pairs : surrogate_count front ≤ length front =
    count_by-le-length (λ c. nat_le 65536 c) front in
    omega (
      arith,
      ap (λ x. x.chars) same,
      ap (λ x. x.utf16_surrogates) same,
      bytes,
      pairs,
      size_parts byte_len IsMeasure-byte_len text (line_start breaks text l),
      fits,
    )
