-- The counts at the two ends of a part of a part.
use Rattle.std.proofs.Common.{◌≡◌, ℕ, ◌+◌, ◌-◌, ◌^◌, ◌<◌, ◌≤◌, false, List, length, take, drop, refl, sym, ap, ◌∙◌, arith}
use Rattle.std.specs.List.{slice_range}
use Rattle.std.proofs.lemmas.List.{length-take-le}
use Rattle.rope_text.specs.declared.line_breaks.LineBreaks.{LineBreaks}
use Rattle.rope_text.specs.declared.text_info.TextInfo.{TextInfo}
use Rattle.rope_text.specs.Content.{Content}
use Rattle.rope_text.specs.Text.{byte_len, surrogate_count}
use Rattle.rope_text.specs.TextInfo.{info_of, info_sum, HasSum}
use Rattle.rope_text.specs.Breaks.{break_count}
use Rattle.rope_text.specs.Conversions.{byte_to_char}
use Rattle.rope_text.specs.Cutting.{parts_crlf}
use Rattle.rope_text.proofs.ConversionLaws.{byte_to_char-char_to_byte}
use Rattle.rope_text.proofs.Measures.{IsMeasure-byte_len}
use Rattle.rope_text.proofs.InfoLaws.{surrogate_count-append, info_of-append_apart}
use Rattle.rope_text.proofs.LineSeams.{parts_crlf-take}
use Rattle.rope_text.proofs.SliceLaws.{breaks_apart}
use Rattle.rope_slice.specs.Edge.{start_info, end_info, IsExcerpt}
use Rattle.rope_slice.proofs.Measured.{measured}
use Rattle.rope_text.proofs.InfoLaws.{same_info}
use Rattle.rope_slice.proofs.Excerpts.{length_part, break_count_part, char_to_line_part, size_part}
use Rattle.rope_slice.proofs.Clips.{part_of_part}
use Rattle.rope_text.specs.Lines.{line_start, line_count}
use Rattle.rope_text.specs.LineParts.{part_between, line_of}
use Rattle.rope_text.proofs.LineLaws.{line_start-le-length, line_start_mono}
use Rattle.rope_text.proofs.LineSeams.{line_start_apart}
use Rattle.rope_text.proofs.LinesJoin.{take-slice_range}

-- the character that starts at a byte
pub char_at_byte : (text : List ℕ) (b i : ℕ) → i ≤ length text → b ≡ byte_len (take i text)
    → byte_to_char text b ≡ i
char_at_byte text b i within place = ap (byte_to_char text) place
    ∙ byte_to_char-char_to_byte text i within

pub byte_of_char : (text : List ℕ) (b i : ℕ) → i ≤ length text → b ≡ byte_len (take i text)
    → byte_len (take (byte_to_char text b) text) ≡ b
byte_of_char text b i within place =
    ap (λ k. byte_len (take k text)) (char_at_byte text b i within place) ∙ sym place

-- the counts up to a later index are those up to an earlier one plus those between
pub between_sum : (breaks : LineBreaks) (text : List ℕ) (from to : TextInfo)
    → from ≡ info_of breaks (take from.chars text) → to ≡ info_of breaks (take to.chars text)
    → from.chars ≤ to.chars
    → parts_crlf (take from.chars text) (drop from.chars text) ≡ false
    → to ≡ info_sum from (info_of breaks (slice_range text from.chars to.chars))
between_sum breaks text from to first last l apart =
    let i : ℕ = from.chars in
    let part : List ℕ = slice_range text i to.chars in
    last ∙ ap (info_of breaks) (sym (take-slice_range text i to.chars l))
    ∙ info_of-append_apart breaks (take i text) part
    (parts_crlf-take (take i text) (drop i text) (to.chars - i) apart)
    ∙ ap (λ x. info_sum x (info_of breaks part)) (sym first)

-- the counts of a tree's text up to the ends of a part of a part
module _ (breaks : LineBreaks) (text : List ℕ) (start end : TextInfo)
    (s : IsExcerpt breaks text start end) where
  front_of_own : (i : ℕ) → i ≤ end.chars - start.chars
      → take i (slice_range text start.chars end.chars)
      ≡ slice_range text start.chars (start.chars + i)
  front_of_own i l =
      let whole : i - 0 ≡ i = omega arith in
      ap (λ n. take n (slice_range text start.chars end.chars)) (sym whole)
      ∙ sym (part_of_part text start.chars end.chars 0 i start.chars (start.chars + i) l
      (omega arith) refl)

  start_between : (from : TextInfo) → from
      ≡ info_of breaks (take from.chars (slice_range text start.chars end.chars))
      → from.chars < end.chars - start.chars
      → parts_crlf (take from.chars (slice_range text start.chars end.chars))
      (drop from.chars (slice_range text start.chars end.chars)) ≡ false
      → info_sum start from ≡ start_info breaks text (start.chars + from.chars)
  start_between from first less apart =
      let m = measured breaks text start end s in
      let a : ℕ = start.chars in
      let i : ℕ = from.chars in
      let own : List ℕ = slice_range text a end.chars in
      let same = front_of_own i (omega arith) in
      let bytes = size_part byte_len IsMeasure-byte_len text a (a + i) (omega arith) in
      let pairs = ap surrogate_count (take-slice_range text a (a + i) (omega arith)) in
      let sum = surrogate_count-append (take a text) (slice_range text a (a + i)) in
      let count = char_to_line_part breaks text a end.chars s.some s.within i less in
      let own_breaks =
      breaks_apart breaks own i (omega (arith, length_part text a end.chars s.within)) apart in
      same_info (info_sum start from) (start_info breaks text (a + i))
      (omega (arith, m.start_bytes, ap (λ x. x.bytes) first, ap byte_len same))
      refl
      (omega (
        arith,
        ap (λ x. x.utf16_surrogates) s.start_is,
        ap (λ x. x.utf16_surrogates) first,
        ap surrogate_count same,
      ))
      (omega (arith, m.start_breaks, ap (λ x. x.break_count) first))

  end_between : (to : TextInfo)
      → to ≡ info_of breaks (take to.chars (slice_range text start.chars end.chars)) → 0 < to.chars
      → to.chars ≤ end.chars - start.chars
      → info_sum start to ≡ end_info breaks text (start.chars + to.chars)
  end_between to last some l =
      let m = measured breaks text start end s in
      let a : ℕ = start.chars in
      let j : ℕ = to.chars in
      let same = front_of_own j l in
      let bytes = size_part byte_len IsMeasure-byte_len text a (a + j) (omega arith) in
      let pairs = ap surrogate_count (take-slice_range text a (a + j) (omega arith)) in
      let sum = surrogate_count-append (take a text) (slice_range text a (a + j)) in
      let count = break_count_part breaks text a (a + j) (omega arith) (omega (arith, m.within)) in
      same_info (info_sum start to) (end_info breaks text (a + j))
      (omega (arith, m.start_bytes, ap (λ x. x.bytes) last, ap byte_len same))
      (sym (length-take-le (a + j) text (omega (arith, m.within))))
      (omega (
        arith,
        ap (λ x. x.utf16_surrogates) s.start_is,
        ap (λ x. x.utf16_surrogates) last,
        ap surrogate_count same,
      ))
      (omega (arith, m.start_breaks, ap (λ x. x.break_count) last, ap (break_count breaks) same))

  pub excerpt_between : (from to : TextInfo)
      → from ≡ info_of breaks (take from.chars (slice_range text start.chars end.chars))
      → to ≡ info_of breaks (take to.chars (slice_range text start.chars end.chars))
      → from.chars < to.chars → to.chars ≤ length (slice_range text start.chars end.chars)
      → parts_crlf (take from.chars (slice_range text start.chars end.chars))
      (drop from.chars (slice_range text start.chars end.chars)) ≡ false
      → IsExcerpt breaks text (info_sum start from) (info_sum start to)
  excerpt_between from to first last some within apart =
      let long = length_part text start.chars end.chars s.within in
      record {
        some = omega arith;
        within = omega (arith, s.within);
        start_is = start_between from first (omega arith) apart;
        end_is = end_between to last (omega arith) (omega arith);
      }

-- the sums of the counts before a slice and within it
pub sums_between : (breaks : LineBreaks) (text : List ℕ) (base from to : TextInfo)
    → IsExcerpt breaks text (info_sum base from) (info_sum base to) → byte_len text < 2 ^ 63
    → HasSum base from × HasSum base to
sums_between breaks text base from to s fits =
    let m = measured breaks text (info_sum base from) (info_sum base to) s in (
      record {
        bytes = omega arith;
        chars = omega arith;
        pairs = omega arith;
        breaks = omega arith;
      },
      record {
        bytes = omega arith;
        chars = omega arith;
        pairs = omega arith;
        breaks = omega arith;
      },
    )

-- equal contents
pub same_content : (c d : Content) → c.text ≡ d.text → c.chunks ≡ d.chunks → c.breaks ≡ d.breaks
    → c ≡ d
same_content c d text chunks breaks = rw (text, chunks, breaks) refl

-- the counts up to an index, given by their own number of characters
pub counts_at : (breaks : LineBreaks) (text : List ℕ) (n : ℕ) (info : TextInfo) → n ≤ length text
    → info ≡ info_of breaks (take n text) → (info.chars ≡ n)
    × (info ≡ info_of breaks (take info.chars text))
counts_at breaks text n info within e =
    let chars : info.chars ≡ n = ap (λ x. x.chars) e ∙ length-take-le n text within in
    (chars, e ∙ ap (λ k. info_of breaks (take k text)) (sym chars))

-- from one line's start to the next
module _ (c : Content) (l : ℕ) (within : l < line_count c.breaks c.text) (from to : TextInfo)
    (from_is : from ≡ info_of c.breaks (take (line_start c.breaks c.text l) c.text))
    (to_is : to ≡ info_of c.breaks (take (line_start c.breaks c.text (l + 1)) c.text)) where
  start_chars : from.chars ≡ line_start c.breaks c.text l
  start_chars =
      (counts_at c.breaks c.text (line_start c.breaks c.text l) from
      (line_start-le-length c.breaks c.text l) from_is).0

  end_chars : to.chars ≡ line_start c.breaks c.text (l + 1)
  end_chars =
      (counts_at c.breaks c.text (line_start c.breaks c.text (l + 1)) to
      (line_start-le-length c.breaks c.text (l + 1)) to_is).0

  pub line_from : from ≡ info_of c.breaks (take from.chars c.text)
  line_from =
      (counts_at c.breaks c.text (line_start c.breaks c.text l) from
      (line_start-le-length c.breaks c.text l) from_is).1

  pub line_to : to ≡ info_of c.breaks (take to.chars c.text)
  line_to =
      (counts_at c.breaks c.text (line_start c.breaks c.text (l + 1)) to
      (line_start-le-length c.breaks c.text (l + 1)) to_is).1

  pub line_ordered : from.chars ≤ to.chars
  line_ordered =
      omega (arith, start_chars, end_chars, line_start_mono c.breaks c.text l (l + 1) (omega arith))

  pub line_within : to.chars ≤ length c.text
  line_within = omega (arith, end_chars, line_start-le-length c.breaks c.text (l + 1))

  pub line_apart : parts_crlf (take from.chars c.text) (drop from.chars c.text) ≡ false
  line_apart = ap (λ n. parts_crlf (take n c.text) (drop n c.text)) start_chars
      ∙ line_start_apart c.breaks c.text l

  pub line_is : part_between c from.chars to.chars ≡ line_of c l
  line_is = ap (λ n. part_between c n to.chars) start_chars
      ∙ ap (part_between c (line_start c.breaks c.text l)) end_chars
