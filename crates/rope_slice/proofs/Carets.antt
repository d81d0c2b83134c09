-- Lines over several chunks.
use Rattle.std.proofs.Common.{◌≡◌, ℕ, ◌+◌, ◌^◌, ◌<◌, ◌≤◌, false, List, [], ◌∷◌, ◌++◌, length, take, drop, refl, sym, ap, subst, ◌∙◌, arith, append_assoc, inl, inr}
use Rattle.std.specs.List.{concat}
use Rattle.std.specs.Str.{chars, IsUtf8}
use Rattle.std.proofs.lemmas.Bool.{cases_lt}
use Rattle.std.proofs.lemmas.List.{append-nil, take_at, take-append-drop}
use Rattle.rope_text.specs.declared.line_breaks.LineBreaks.{LineBreaks}
use Rattle.rope_text.specs.declared.text_info.TextInfo.{TextInfo}
use Rattle.rope_text.specs.Text.{byte_len}
use Rattle.rope_text.specs.TextInfo.{info_of}
use Rattle.rope_text.specs.Breaks.{break_count}
use Rattle.rope_text.specs.Lines.{line_start}
use Rattle.rope_text.specs.Conversions.{byte_to_char}
use Rattle.rope_text.specs.Cutting.{parts_crlf, KeepsCrlf}
use Rattle.rope_text.specs.LineParts.{first_line}
use Rattle.rope_text.proofs.TextParts.{chars_back}
use Rattle.rope_text.proofs.Measures.{IsMeasure-byte_len}
use Rattle.rope_text.proofs.ConversionLaws.{byte_to_char-char_to_byte}
use Rattle.rope_text.proofs.CuttingLaws.{concat-append, parts_crlf-append}
use Rattle.rope_text.proofs.ChunkLaws.{KeepsCrlf-right}
use Rattle.rope_text.proofs.LineLaws.{line_start-le-length}
use Rattle.rope_text.proofs.LineSeams.{parts_crlf-take, first_line-left, first_line-all}
use Rattle.rope_slice.specs.Path.{Place, IsNext, leaves}
use Rattle.rope_text.specs.LineParts.{after_byte, IsBetween}
use Rattle.rope_slice.specs.Caret.{AreChunks, IsCaret, PassesLine}
use Rattle.rope_leaf.specs.Search.{IsSmall}
use Rattle.rope_leaf.proofs.Infos.{small_info}
use Rattle.rope_slice.proofs.Spans.{leaves_next}

-- no CR meets LF after joined texts, or before a prefix of a text
pub apart_joined : (x y r : List ℕ) → parts_crlf x (y ++ r) ≡ false → parts_crlf y r ≡ false
    → parts_crlf (x ++ y) r ≡ false
apart_joined x [] r a b = ap (λ s. parts_crlf s r) (append-nil x) ∙ a
apart_joined x (c ∷ y) r a b = parts_crlf-append x c y r ∙ b

pub apart_front : (x y r : List ℕ) → parts_crlf x (y ++ r) ≡ false → parts_crlf x y ≡ false
apart_front x y r a = ap (parts_crlf x) (sym (take_at y r (length y) refl))
    ∙ parts_crlf-take x (y ++ r) (length y) a

-- the chunk here meets the text after it
pub here_apart : (p : Place) → AreChunks p → parts_crlf p.here (concat p.after) ≡ false
here_apart p h = (KeepsCrlf-right p.before (p.here ∷ p.after) h.kept).0

pub chunks_next : (p q : Place) → IsNext p q → AreChunks p → AreChunks q
chunks_next p q n h = record {
  kept = subst KeepsCrlf (sym (leaves_next p q n)) h.kept;
  fits = rw (leaves_next p q n) h.fits;
}

-- the counts of a small text
pub small_of : (breaks : LineBreaks) (text : List ℕ) (info : TextInfo) → info ≡ info_of breaks text
    → byte_len text < 2 ^ 63 → IsSmall info
small_of breaks text info e fits = rw e (small_info breaks text fits)

-- the size of a text within the chunks
pub whole_text : (p : Place) → concat (leaves p) ≡ (concat p.before ++ p.here) ++ concat p.after
whole_text p = concat-append p.before (p.here ∷ p.after)
    ∙ sym (append_assoc (concat p.before) p.here (concat p.after))

pub size_two : (s t : List ℕ) → byte_len (s ++ t) ≡ byte_len s + byte_len t
size_two s t = IsMeasure-byte_len.joined s t

pub size_front : (n : ℕ) (t : List ℕ) → byte_len (take n t) ≤ byte_len t
size_front n t = omega (arith, ap byte_len (take-append-drop n t), size_two (take n t) (drop n t))

-- at a character boundary bytes may be cut, and the rest is the text from there on
pub between_after : (bytes rest : List ℕ) (b : ℕ) → IsUtf8 bytes → IsBetween (chars bytes) b
    → rest ≡ drop b bytes → chars rest ≡ after_byte (chars bytes) b
between_after bytes rest b utf8 between cut =
    chars_back bytes rest (chars bytes) (byte_to_char (chars bytes) b) b utf8 refl (sym between) cut

-- a first line with a break is of a text with one
pub some_break : (breaks : LineBreaks) (text : List ℕ) (info : TextInfo)
    → info ≡ info_of breaks (first_line breaks text) → 0 < info.break_count
    → 0 < break_count breaks text
some_break breaks text info e some = elim (cases_lt 0 (break_count breaks text)) [
  | inl less ↦ less
  | inr none ↦ absurd (let all =
      ap (break_count breaks) (first_line-all breaks text (omega arith)) in
      let lines = ap (λ x. x.break_count) e in omega arith)
]

-- a line that ends in the next chunk
pub line_in_next : (breaks : LineBreaks) (p q : Place) (more : TextInfo) → AreChunks p → IsNext p q
    → more ≡ info_of breaks (first_line breaks q.here) → 0 < more.break_count
    → PassesLine breaks (concat p.before ++ p.here) (concat p.after) q more.bytes more
line_in_next breaks p q more h n e some =
    let k : ℕ = line_start breaks q.here 1 in
    let within = line_start-le-length breaks q.here 1 in
    let place : byte_to_char q.here more.bytes ≡ k = ap (byte_to_char q.here) (ap (λ x. x.bytes) e)
    ∙ byte_to_char-char_to_byte q.here k within in
    let ahead : concat p.after ≡ q.here ++ concat q.after = ap concat n.after in
    let front : concat q.before ≡ concat p.before ++ p.here =
    ap concat n.before ∙ concat-append p.before (p.here ∷ [])
    ∙ ap (λ t. concat p.before ++ t) (append-nil p.here) in
    let line : first_line breaks (concat p.after) ≡ take k q.here =
    ap (first_line breaks) ahead
    ∙ first_line-left breaks q.here (concat q.after) (here_apart q (chunks_next p q n h))
    (some_break breaks q.here more e some) in
    record {
      caret = record {
        between = ap (λ j. byte_len (take j q.here)) place ∙ sym (ap (λ x. x.bytes) e);
        chunks = chunks_next p q n h;
      };
      front_is = ap (λ j. concat q.before ++ take j q.here) place
          ∙ ap (λ t. t ++ take k q.here) front
          ∙ ap (λ t. (concat p.before ++ p.here) ++ t) (sym line);
      back_is = ahead ∙ ap (λ t. t ++ concat q.after) (sym (take-append-drop k q.here))
          ∙ append_assoc (take k q.here) (drop k q.here) (concat q.after)
          ∙ ap (λ t. t ++ (drop k q.here ++ concat q.after)) (sym line)
          ∙ ap (λ j. first_line breaks (concat p.after) ++ (drop j q.here ++ concat q.after))
          (sym place);
      counts = e ∙ ap (info_of breaks) (sym line);
    }

-- the start of the chunk here
pub start_of_chunk : (p : Place) → AreChunks p → IsCaret p 0
start_of_chunk p h =
    record {
      between =
          ap (λ j. byte_len (take j p.here)) (byte_to_char-char_to_byte p.here 0 (omega arith));
      chunks = h;
    }
