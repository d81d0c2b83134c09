-- The counts of an excerpt's text up to an index of the tree's text, and up to a line.
use Rattle.std.proofs.Common.{◌≡◌, ℕ, ◌+◌, ◌-◌, ◌<◌, ◌≤◌, min, List, length, take, drop, sym, ap, ◌∙◌, arith, inl, inr}
use Rattle.std.specs.List.{slice_range}
use Rattle.std.proofs.lemmas.Bool.{cases_lt}
use Rattle.std.proofs.lemmas.List.{length-take-le, take-take, take_all}
use Rattle.rope_text.specs.declared.line_breaks.LineBreaks.{LineBreaks}
use Rattle.rope_text.specs.declared.text_info.TextInfo.{TextInfo}
use Rattle.rope_text.specs.TextInfo.{info_of, info_sum}
use Rattle.rope_text.specs.Lines.{line_start}
use Rattle.rope_text.specs.Conversions.{char_to_line}
use Rattle.rope_text.proofs.LineLaws.{line_start-le-length, char_to_line_late}
use Rattle.rope_slice.specs.Edge.{end_info, IsExcerpt}
use Rattle.rope_slice.proofs.Measured.{measured, info_part}
use Rattle.rope_slice.proofs.ExcerptLaws.{excerpt_line_to_char}

module _ (breaks : LineBreaks) (text : List ℕ) (start end place : TextInfo)
    (s : IsExcerpt breaks text start end) where
  -- the slice up to an index before its end
  pub up_to : start.chars < place.chars → place ≡ end_info breaks text place.chars
      → place.chars < end.chars → IsExcerpt breaks text start place
  up_to later counts less = record {
    some = later;
    within = omega (arith, s.within);
    start_is = s.start_is;
    end_is = counts;
  }

  pub counts_up_to : (info : TextInfo) → start.chars < place.chars
      → place ≡ end_info breaks text place.chars → place.chars < end.chars
      → info_sum start info ≡ place
      → info ≡ info_of breaks (take (place.chars - start.chars)
      (slice_range text start.chars end.chars))
  counts_up_to info later counts less sum =
      info_part breaks text start place info (up_to later counts less) sum
      ∙ ap (info_of breaks) (sym
      (take-take (place.chars - start.chars) (end.chars - start.chars) (drop start.chars text)
      (omega arith)))

  pub counts_of_all : end.chars ≤ place.chars
      → info_of breaks (slice_range text start.chars end.chars)
      ≡ info_of breaks (take (place.chars - start.chars) (slice_range text start.chars end.chars))
  counts_of_all past =
      let m = measured breaks text start end s in
      ap (info_of breaks) (sym
      (take_all (place.chars - start.chars) (slice_range text start.chars end.chars)
      (omega (arith, m.chars))))

  -- a start of a line in the tree, after the excerpt's own start
  module _ (l line : ℕ) (later : 0 < l) (line_is : line ≡ start.break_count + l)
      (counts : place ≡ info_of breaks (take (line_start breaks text line) text)) where
    place_is : place ≡ info_of breaks (take (line_start breaks text (start.break_count + l)) text)
    place_is = counts ∙ ap (λ n. info_of breaks (take (line_start breaks text n) text)) line_is

    place_chars : place.chars ≡ line_start breaks text (start.break_count + l)
    place_chars = ap (λ x. x.chars) place_is
        ∙ length-take-le (line_start breaks text (start.break_count + l)) text
        (line_start-le-length breaks text (start.break_count + l))

    own_place : min place.chars end.chars ≡ start.chars + line_start breaks
        (slice_range text start.chars end.chars) l
    own_place = ap (λ n. min n end.chars) place_chars
        ∙ excerpt_line_to_char breaks text start end s l later

    pub line_later : start.chars < place.chars
    line_later =
        let m = measured breaks text start end s in
        elim (cases_lt start.chars place.chars) [
          | inl lt ↦ lt
          | inr not ↦ absurd (
              let same : line_start breaks text (start.break_count + l) ≡ start.chars =
              omega (arith, own_place, place_chars, m.some) in
              let inside : line_start breaks text (start.break_count + l) < length text =
              omega (arith, m.some, m.within) in
              omega (
                arith,
                char_to_line_late breaks text (start.break_count + l) inside,
                ap (char_to_line breaks text) same,
                m.start_breaks,
              ))
        ]

    pub line_place_within : place.chars ≤ length text
    line_place_within =
        omega (arith, place_chars, line_start-le-length breaks text (start.break_count + l))

    pub line_counts : place ≡ end_info breaks text place.chars
    line_counts = place_is ∙ ap (λ n. info_of breaks (take n text)) (sym place_chars)

    pub own_line : info_of breaks
        (take (place.chars - start.chars) (slice_range text start.chars end.chars))
        ≡ info_of breaks (take (line_start breaks (slice_range text start.chars end.chars) l)
        (slice_range text start.chars end.chars))
    own_line = elim (cases_lt place.chars end.chars) [
      | inl less ↦
          let here : place.chars - start.chars ≡ line_start breaks
          (slice_range text start.chars end.chars) l = omega (arith, own_place) in
          ap (λ n. info_of breaks (take n (slice_range text start.chars end.chars))) here
      | inr past ↦
          let m = measured breaks text start end s in
          let part = slice_range text start.chars end.chars in
          sym (counts_of_all past)
          ∙ ap (info_of breaks) (sym
          (take_all (line_start breaks part l) part (omega (arith, own_place, m.chars))))
    ]
