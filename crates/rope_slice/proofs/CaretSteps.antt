-- A position between two characters: its start, and a step over a line.
use Rattle.std.proofs.Common.{◌≡◌, ℕ, ◌+◌, ◌^◌, ◌<◌, ◌≤◌, false, List, [], ◌∷◌, ◌++◌, length, take, drop, refl, sym, ap, subst, ◌∙◌, arith, append_assoc, inl, inr}
use Rattle.std.specs.List.{concat}
use Rattle.std.proofs.lemmas.Bool.{cases_lt}
use Rattle.std.proofs.lemmas.List.{take-append-le, drop-append-le, take-append-drop, drop-drop, length-drop, length-append, length-take-le, nil_from_length}
use Rattle.std.proofs.Math.Seq.{take-append-add, drop-append-add, take-add}
use Rattle.rope_text.specs.declared.line_breaks.LineBreaks.{LineBreaks}
use Rattle.rope_text.specs.declared.text_info.TextInfo.{TextInfo}
use Rattle.rope_text.specs.Content.{Content}
use Rattle.rope_text.specs.Text.{byte_len}
use Rattle.rope_text.specs.TextInfo.{info_of, info_sum}
use Rattle.rope_text.specs.Lines.{line_start}
use Rattle.rope_text.specs.Conversions.{byte_to_char}
use Rattle.rope_text.specs.Cutting.{parts_crlf, KeepsCrlf}
use Rattle.rope_text.specs.LineParts.{first_line}
use Rattle.rope_text.proofs.ConversionLaws.{byte_to_char-le-length, byte_to_char-char_to_byte}
use Rattle.rope_text.proofs.InfoLaws.{info_of-append_apart}
use Rattle.rope_text.proofs.CuttingLaws.{concat-append, apart_back}
use Rattle.rope_text.proofs.LineLaws.{line_start-le-length}
use Rattle.rope_text.proofs.LineSeams.{parts_crlf-take, first_line-left, first_line-right, first_line-all, no_break_at_all}
use Rattle.rope_slice.specs.Kept.{IsPart}
use Rattle.rope_slice.specs.Path.{Place, leaves}
use Rattle.rope_slice.proofs.InChunks.{in_chunk}
use Rattle.rope_text.specs.LineParts.{after_byte}
use Rattle.rope_slice.specs.Caret.{halves_at, HoldsAhead, IsCaret, PassesLine}
use Rattle.rope_leaf.specs.Search.{IsSmall}
use Rattle.rope_slice.proofs.Carets.{some_break, here_apart, whole_text, size_two, size_front, small_of}

-- chunks of no text
nothing_kept : (chunks : List (List ℕ)) → concat chunks ≡ [] → KeepsCrlf chunks
nothing_kept [] e = tt
nothing_kept ([] ∷ chunks) e = (refl, nothing_kept chunks e)
nothing_kept ((c ∷ chunk) ∷ chunks) e = absurd (let some = ap length e in omega arith)

-- the position before a character of a slice
module _ (c : Content) (p : Place) (at i b : ℕ) (kept : IsPart c)
    (text_is : concat (leaves p) ≡ c.text) (chunks_are : 0 < length c.text → leaves p ≡ c.chunks)
    (place : length (concat p.before) + at ≡ i) (within : at ≤ length p.here)
    (bytes : b ≡ byte_len (take at p.here)) where
  char_is : byte_to_char p.here b ≡ at
  char_is = ap (byte_to_char p.here) bytes ∙ byte_to_char-char_to_byte p.here at within

  parts : c.text ≡ concat p.before ++ (p.here ++ concat p.after)
  parts = sym text_is ∙ concat-append p.before (p.here ∷ p.after)

  pub caret_at : IsCaret p b
  caret_at = record {
    between = ap (λ j. byte_len (take j p.here)) char_is ∙ sym bytes;
    chunks = record {
      kept = elim (cases_lt 0 (length c.text)) [
        | inl some ↦ subst KeepsCrlf (sym (chunks_are some)) kept.whole
        | inr none ↦ nothing_kept (leaves p) (text_is ∙ nil_from_length c.text (omega arith))
      ];
      fits = rw text_is kept.fits;
    };
  }

  pub front_at : (halves_at p b).front ≡ take i c.text
  front_at =
      ap (λ j. concat p.before ++ take j p.here) char_is
      ∙ ap (λ t. concat p.before ++ t) (sym (take-append-le at p.here (concat p.after) within))
      ∙ sym (take-append-add (concat p.before) (p.here ++ concat p.after) at)
      ∙ ap (λ n. take n (concat p.before ++ (p.here ++ concat p.after))) place
      ∙ ap (take i) (sym parts)

  pub back_at : (halves_at p b).back ≡ drop i c.text
  back_at =
      ap (λ j. drop j p.here ++ concat p.after) char_is
      ∙ sym (drop-append-le at p.here (concat p.after) within)
      ∙ sym (drop-append-add (concat p.before) (p.here ++ concat p.after) at)
      ∙ ap (λ n. drop n (concat p.before ++ (p.here ++ concat p.after))) place
      ∙ ap (drop i) (sym parts)

-- a step over a line from a position
module _ (breaks : LineBreaks) (p : Place) (b : ℕ) (g : IsCaret p b) (info : TextInfo)
    (e : info ≡ info_of breaks (first_line breaks (drop (byte_to_char p.here b) p.here))) where
  rest_apart : parts_crlf (drop (byte_to_char p.here b) p.here) (concat p.after) ≡ false
  rest_apart =
      let j : ℕ = byte_to_char p.here b in
      apart_back (take j p.here) (drop j p.here) (concat p.after)
      (ap (λ t. parts_crlf t (concat p.after)) (take-append-drop j p.here) ∙ here_apart p g.chunks)

  parts_fit : byte_len (take (byte_to_char p.here b) p.here)
      + (byte_len (drop (byte_to_char p.here b) p.here) + byte_len (concat p.after)) < 2 ^ 63
  parts_fit =
      let j : ℕ = byte_to_char p.here b in
      omega (
        arith,
        g.chunks.fits,
        ap byte_len (whole_text p),
        size_two (concat p.before ++ p.here) (concat p.after),
        size_two (concat p.before) p.here,
        ap byte_len (take-append-drop j p.here),
        size_two (take j p.here) (drop j p.here),
      )

  pub info_small : IsSmall info
  info_small =
      let j : ℕ = byte_to_char p.here b in
      small_of breaks (first_line breaks (drop j p.here)) info e
      (omega (arith, parts_fit, size_front (line_start breaks (drop j p.here) 1) (drop j p.here)))

  pub place_fits : b + info.bytes < 2 ^ 63
  place_fits =
      let j : ℕ = byte_to_char p.here b in
      omega (
        arith,
        parts_fit,
        g.between,
        ap (λ x. x.bytes) e,
        size_front (line_start breaks (drop j p.here) 1) (drop j p.here),
      )

  pub pass_inside : 0 < info.break_count
      → PassesLine breaks (halves_at p b).front (halves_at p b).back p (b + info.bytes) info
  pass_inside some =
      let j : ℕ = byte_to_char p.here b in
      let back : List ℕ = drop j p.here in
      let r : List ℕ = concat p.after in
      let before : List ℕ = concat p.before in
      let k : ℕ = line_start breaks back 1 in
      let low = byte_to_char-le-length p.here b in
      let within : j + k ≤ length p.here =
      omega (arith, line_start-le-length breaks back 1, length-drop j p.here) in
      let size = ap byte_len (take-add j k p.here) ∙ size_two (take j p.here) (take k back) in
      let bytes : b + info.bytes ≡ byte_len (take (j + k) p.here) =
      omega (arith, size, g.between, ap (λ x. x.bytes) e) in
      let place : byte_to_char p.here (b + info.bytes) ≡ j + k = ap (byte_to_char p.here) bytes
      ∙ byte_to_char-char_to_byte p.here (j + k) within in
      let line : first_line breaks (back ++ r) ≡ take k back =
      first_line-left breaks back r rest_apart (some_break breaks back info e some) in
      record {
        caret = record {
          between = ap (λ m. byte_len (take m p.here)) place ∙ sym bytes;
          chunks = g.chunks;
        };
        front_is = ap (λ m. before ++ take m p.here) place
            ∙ ap (λ t. before ++ t) (take-add j k p.here)
            ∙ sym (append_assoc before (take j p.here) (take k back))
            ∙ ap (λ t. (before ++ take j p.here) ++ t) (sym line);
        back_is = ap (λ t. t ++ r) (sym (take-append-drop k back))
            ∙ append_assoc (take k back) (drop k back) r
            ∙ ap (λ t. t ++ (drop k back ++ r)) (sym line)
            ∙ ap (λ t. first_line breaks (back ++ r) ++ (t ++ r)) (drop-drop k j p.here)
            ∙ ap (λ m. first_line breaks (back ++ r) ++ (drop m p.here ++ r)) (sym place);
        counts = e ∙ ap (info_of breaks) (sym line);
      }

  module _ (q : Place) (d : ℕ) (more : TextInfo) (few : info.break_count ≤ 0)
      (h : PassesLine breaks (concat p.before ++ p.here) (concat p.after) q d more) where
    pub more_small : IsSmall more
    more_small =
        small_of breaks (first_line breaks (concat p.after)) more h.counts
        (omega (
          arith,
          parts_fit,
          size_front (line_start breaks (concat p.after) 1)
              (concat p.after),
        ))

    pub pass_over : (sum : TextInfo) → sum ≡ info_sum info more
        → PassesLine breaks (halves_at p b).front (halves_at p b).back q d sum
    pass_over sum sum_is =
        let j : ℕ = byte_to_char p.here b in
        let back : List ℕ = drop j p.here in
        let r : List ℕ = concat p.after in
        let before : List ℕ = concat p.before in
        let none = no_break_at_all breaks back (let lines = ap (λ x. x.break_count) e in
        omega arith) in
        let all = first_line-all breaks back none in
        let line : first_line breaks (back ++ r) ≡ back ++ first_line breaks r =
        first_line-right breaks back r rest_apart none in
        let apart = parts_crlf-take back r (line_start breaks r 1) rest_apart in
        record {
          caret = h.caret;
          front_is =
              h.front_is ∙ ap (λ t. t ++ first_line breaks r)
              (ap (λ t. before ++ t) (sym (take-append-drop j p.here))
              ∙ sym (append_assoc before (take j p.here) back))
              ∙ append_assoc (before ++ take j p.here) back (first_line breaks r)
              ∙ ap (λ t. (before ++ take j p.here) ++ t) (sym line);
          back_is = ap (λ t. back ++ t) h.back_is
              ∙ sym (append_assoc back (first_line breaks r) (halves_at q d).back)
              ∙ ap (λ t. t ++ (halves_at q d).back) (sym line);
          counts = sum_is ∙ ap (λ x. info_sum x more) (e ∙ ap (info_of breaks) all)
              ∙ ap (λ x. info_sum (info_of breaks back) x) h.counts
              ∙ sym (info_of-append_apart breaks back (first_line breaks r) apart)
              ∙ ap (info_of breaks) (sym line);
        }

-- the rest of the chunk here from a position on
pub holds_ahead : (p : Place) (b : ℕ) (held : List ℕ) → held ≡ after_byte p.here b
    → HoldsAhead (halves_at p b) held
holds_ahead p b held same =
    let k : ℕ = byte_to_char p.here b in
    let within = byte_to_char-le-length p.here b in
    let before : List ℕ = concat p.before in
    let whole : concat (leaves p) ≡ (halves_at p b).front ++ (halves_at p b).back =
    concat-append p.before (p.here ∷ p.after)
    ∙ ap (λ t. before ++ (t ++ concat p.after)) (sym (take-append-drop k p.here))
    ∙ ap (λ t. before ++ t) (append_assoc (take k p.here) (drop k p.here) (concat p.after))
    ∙ sym (append_assoc before (take k p.here) (drop k p.here ++ concat p.after)) in
    let size : length before + k ≡ length (halves_at p b).front =
    omega (arith, length-append before (take k p.here), length-take-le k p.here within) in
    let it = in_chunk p.before p.here p.after k within in
    rw same (rw (whole, size) at it)
