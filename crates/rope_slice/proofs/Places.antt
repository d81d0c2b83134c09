-- An index of an excerpt's text, as one of the tree's.
use Rattle.std.proofs.Common.{◌≡◌, ℕ, ◌+◌, ◌^◌, ◌<◌, ◌≤◌, List, length, take, ap, arith}
use Rattle.std.specs.List.{slice_range}
use Rattle.std.proofs.lemmas.List.{length-take-le}
use Rattle.rope_text.specs.declared.line_breaks.LineBreaks.{LineBreaks}
use Rattle.rope_text.specs.declared.text_info.TextInfo.{TextInfo}
use Rattle.rope_text.specs.Text.{byte_len}
use Rattle.rope_text.specs.TextInfo.{info_of}
use Rattle.rope_text.specs.Breaks.{is_break_end}
use Rattle.rope_text.proofs.Measures.{IsMeasure-byte_len, size_le_all}
use Rattle.rope_text.proofs.ConversionLaws.{char_to_line_upto}
use Rattle.rope_text.proofs.Places.{length-upto_le}
use Rattle.rope_leaf.specs.declared.search.Unit.{Unit}
use Rattle.rope_leaf.specs.declared.search.Unit.TheVariants.{Byte, Char, CodeUnit, LineBreak}
use Rattle.rope_leaf.specs.Search.{count_of, IsSmall}
use Rattle.rope_leaf.proofs.Infos.{small_info}
use Rattle.rope_slice.specs.Edge.{IsExcerpt}
use Rattle.rope_slice.proofs.Measured.{measured}

module _ (breaks : LineBreaks) (text : List ℕ) (start end : TextInfo)
    (s : IsExcerpt breaks text start end) (fits : byte_len text < 2 ^ 63) where
  -- the counts before it are in the bounds that those of a rope's text keep
  pub small_start : IsSmall start
  small_start =
      let m = measured breaks text start end s in
      let front : List ℕ = take start.chars text in
      let small =
      small_info breaks front (omega
      (arith, size_le_all byte_len IsMeasure-byte_len text start.chars)) in
      let len : length front ≡ start.chars = length-take-le start.chars text (omega arith) in
      record {
        bytes = omega (arith, small.bytes);
        chars = omega (arith, small.chars);
        pairs = omega (arith, small.pairs, ap (λ x. x.utf16_surrogates) s.start_is);
        breaks = omega (
          arith,
          m.start_breaks,
          char_to_line_upto breaks text start.chars
              (omega arith),
          length-upto_le (is_break_end breaks text) start.chars,
        );
      }

  pub small_end : IsSmall end
  small_end =
      rw s.end_is (small_info breaks (take end.chars text)
      (omega (arith, size_le_all byte_len IsMeasure-byte_len text end.chars)))

  pub place_fits : (unit : Unit) (idx : ℕ)
      → idx ≤ count_of unit (info_of breaks (slice_range text start.chars end.chars)) + 1
      → count_of unit start + idx < 2 ^ 64
  place_fits Byte idx within = let m = measured breaks text start end s in omega arith
  place_fits Char idx within = let m = measured breaks text start end s in omega arith
  place_fits CodeUnit idx within = let m = measured breaks text start end s in omega arith
  place_fits LineBreak idx within = let m = measured breaks text start end s in omega arith
