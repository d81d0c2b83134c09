-- The counts and the conversions of characters within a text, by those of the text.
use Rattle.std.proofs.Common.{◌≡◌, ℕ, ◌+◌, ◌-◌, ◌<◌, ◌≤◌, min, List, ◌++◌, length, take, drop, refl, sym, ap, ◌∙◌, arith, inl, inr, append_assoc, length-append}
use Rattle.std.specs.List.{slice_range}
use Rattle.std.specs.Str.{encode_utf8_all}
use Rattle.std.proofs.lemmas.Bool.{cases_lt}
use Rattle.std.proofs.lemmas.List.{take-append-drop, length-take-le, length-drop, take_all, drop-take, take_at, drop_at, take-take}
use Rattle.std.proofs.lemmas.Str.{encodes-append}
use Rattle.std.proofs.Math.Seq.{take-add}
use Rattle.rope_text.specs.declared.line_breaks.LineBreaks.{LineBreaks}
use Rattle.rope_text.specs.Text.{byte_len, utf16_len}
use Rattle.rope_text.specs.Breaks.{break_count}
use Rattle.rope_text.specs.Lines.{line_start}
use Rattle.rope_text.specs.Conversions.{byte_to_char, utf16_to_char, char_to_line, byte_to_line}
use Rattle.rope_text.proofs.Measures.{IsMeasure, IsMeasure-byte_len, IsMeasure-utf16_len, front, front_exact, front_fits}
use Rattle.rope_text.proofs.JoinLaws.{front-append_left, front-append_right}
use Rattle.rope_text.proofs.SliceLaws.{char_to_line-drop, char_to_line-take, break_count-drop, line_start-drop, line_start-take}
use Rattle.rope_text.proofs.ConversionLaws.{byte_to_line-byte_to_char}
use Rattle.rope_text.proofs.LinesJoin.{take-slice_range}

-- a slice is the text before its end without the text before its start
pub part_of_front : (text : List ℕ) (a b : ℕ) → a ≤ b → slice_range text a b ≡ drop a (take b text)
part_of_front text a b l =
    let same : b ≡ a + (b - a) = omega arith in
    sym (ap (λ n. drop a (take n text)) same ∙ drop-take a (b - a) text)

pub around_part : (text : List ℕ) (a b : ℕ) → a ≤ b
    → text ≡ take a text ++ (slice_range text a b ++ drop b text)
around_part text a b l =
    sym (take-append-drop b text) ∙ ap (λ s. s ++ drop b text) (sym (take-slice_range text a b l))
    ∙ append_assoc (take a text) (slice_range text a b) (drop b text)

pub length_part : (text : List ℕ) (a b : ℕ) → b ≤ length text
    → length (slice_range text a b) ≡ b - a
length_part text a b within =
    length-take-le (b - a) (drop a text) (omega (arith, length-drop a text))

-- a size that adds up
pub size_part : (size : List ℕ → ℕ) → IsMeasure size → (text : List ℕ) (a b : ℕ) → a ≤ b
    → size (take b text) ≡ size (take a text) + size (slice_range text a b)
size_part size m text a b l = ap size (sym (take-slice_range text a b l))
    ∙ m.joined (take a text) (slice_range text a b)

-- the bytes of a part of a text are a part of its bytes
pub bytes_of_part : (text : List ℕ) (a b at n : ℕ) → a ≤ b → at ≡ byte_len (take a text)
    → n ≡ byte_len (slice_range text a b) → take n (drop at (encode_utf8_all text))
    ≡ encode_utf8_all (slice_range text a b)
bytes_of_part text a b at n l from size =
    let front : List ℕ = take a text in
    let part : List ℕ = slice_range text a b in
    let rest : List ℕ = drop b text in
    let whole = ap encode_utf8_all (around_part text a b l) ∙ encodes-append front (part ++ rest)
    ∙ ap (λ bs. encode_utf8_all front ++ bs) (encodes-append part rest) in
    ap (λ bs. take n (drop at bs)) whole
    ∙ ap (take n) (drop_at (encode_utf8_all front) (encode_utf8_all part ++ encode_utf8_all rest) at
    (sym from))
    ∙ take_at (encode_utf8_all part) (encode_utf8_all rest) n (sym size)

-- the greatest front of a part of size at most n
front_part : (size : List ℕ → ℕ) (m : IsMeasure size) (text : List ℕ) (a b n : ℕ) → a ≤ b
    → b ≤ length text → n ≤ size (slice_range text a b)
    → front size m text (size (take a text) + n) ≡ a + front size m (slice_range text a b) n
front_part size m text a b n l within fits =
    let part : List ℕ = slice_range text a b in
    let rest : List ℕ = drop b text in
    let before = length-take-le a text (omega arith) in
    let back : (size (take a text) + n) - size (take a text) ≡ n = omega arith in
    let inner : front size m (part ++ rest) n ≡ front size m part n =
    elim (cases_lt n (size part)) [
      | inl less ↦ front-append_left size m part rest n less
      | inr all ↦
          let whole : n ≡ size part = omega arith in
          let front_is = ap size (take_at part rest (length part) refl) in
          let alone = ap size (take_all (length part) part (omega arith)) in
          let long : length part ≤ length (part ++ rest) = omega (arith, length-append part rest) in
          ap (front size m (part ++ rest)) (whole ∙ sym front_is)
          ∙ front_exact size m (part ++ rest) (length part) long
          ∙ sym (ap (front size m part) (whole ∙ sym alone)
          ∙ front_exact size m part (length part) (omega arith))
    ] in
    ap (λ t. front size m t (size (take a text) + n)) (around_part text a b l)
    ∙ front-append_right size m (take a text) (part ++ rest) (size (take a text) + n) (omega arith)
    ∙ ap (λ k. length (take a text) + front size m (part ++ rest) k) back
    ∙ ap (λ k. length (take a text) + k) inner ∙ ap (λ k. k + front size m part n) before

pub byte_to_char_part : (text : List ℕ) (a b n : ℕ) → a ≤ b → b ≤ length text
    → n ≤ byte_len (slice_range text a b)
    → byte_to_char text (byte_len (take a text) + n) ≡ a + byte_to_char (slice_range text a b) n
unfolding byte_to_char
byte_to_char_part text a b n l within fits =
    front_part byte_len IsMeasure-byte_len text a b n l within fits

pub utf16_to_char_part : (text : List ℕ) (a b n : ℕ) → a ≤ b → b ≤ length text
    → n ≤ utf16_len (slice_range text a b)
    → utf16_to_char text (utf16_len (take a text) + n) ≡ a + utf16_to_char (slice_range text a b) n
unfolding utf16_to_char
utf16_to_char_part text a b n l within fits =
    front_part utf16_len IsMeasure-utf16_len text a b n l within fits

-- the character that contains a byte of a text is before the end
pub byte_to_char-less : (text : List ℕ) (n : ℕ) → n < byte_len text
    → byte_to_char text n < length text
unfolding byte_to_char
byte_to_char-less text n less = elim (cases_lt (byte_to_char text n) (length text)) [
  | inl inside ↦ inside
  | inr end ↦ absurd (omega (
    arith,
    front_fits byte_len IsMeasure-byte_len text n,
    ap byte_len (take_all (byte_to_char text n) text end),
  ))
]

-- the first characters of a slice, after the text before it
pub front_of_part : (text : List ℕ) (a b i : ℕ) → i ≤ b - a
    → take (a + i) text ≡ take a text ++ take i (slice_range text a b)
front_of_part text a b i l = take-add a i text
    ∙ ap (λ s. take a text ++ s) (sym (take-take i (b - a) (drop a text) l))

pub size_of_front : (size : List ℕ → ℕ) → IsMeasure size → (text : List ℕ) (a b i : ℕ) → i ≤ b - a
    → size (take (a + i) text) ≡ size (take a text) + size (take i (slice_range text a b))
size_of_front size m text a b i l = ap size (front_of_part text a b i l)
    ∙ m.joined (take a text) (take i (slice_range text a b))

-- the breaks of a slice with at least one character: those of the text before its end, except those
-- that end at its start or before
module _ (breaks : LineBreaks) (text : List ℕ) (a b : ℕ) (some : a < b) (within : b ≤ length text)
  where
    inside : a ≤ length (take b text)
    inside = omega (arith, length-take-le b text within)

    pub break_count_part : break_count breaks (take b text)
        ≡ char_to_line breaks text a + break_count breaks (slice_range text a b)
    break_count_part =
        let whole =
        rw (← part_of_front text a b (omega arith)) at
        (break_count-drop breaks (take b text) a inside) in
        omega (arith, char_to_line-take breaks text b a some)

    pub char_to_line_part : (i : ℕ) → i < b - a
        → char_to_line breaks text (a + i) ≡ char_to_line breaks text a + char_to_line breaks
        (slice_range text a b) i
    char_to_line_part i less =
        let whole =
        rw (← part_of_front text a b (omega arith)) at
        (char_to_line-drop breaks (take b text) a i inside) in
        omega (
          arith,
          char_to_line-take breaks text b a some,
          char_to_line-take breaks text b (a + i) (omega arith),
        )

    pub byte_to_line_part : (n : ℕ) → n < byte_len (slice_range text a b)
        → byte_to_line breaks text (byte_len (take a text) + n)
        ≡ char_to_line breaks text a + byte_to_line breaks (slice_range text a b) n
    byte_to_line_part n less =
        let part : List ℕ = slice_range text a b in
        let short : byte_to_char part n < b - a =
        omega (arith, byte_to_char-less part n less, length_part text a b within) in
        byte_to_line-byte_to_char breaks text (byte_len (take a text) + n)
        ∙ ap (char_to_line breaks text)
        (byte_to_char_part text a b n (omega arith) within (omega arith))
        ∙ char_to_line_part (byte_to_char part n) short
        ∙ ap (λ k. char_to_line breaks text a + k) (sym (byte_to_line-byte_to_char breaks part n))

    -- the lines after the first start where those of the text do, or at the end
    pub line_start_part : (l : ℕ) → 0 < l → a + line_start breaks (slice_range text a b) l
        ≡ min (line_start breaks text (char_to_line breaks text a + l)) b
    line_start_part l later =
        let whole =
        rw (← part_of_front text a b (omega arith)) at
        (line_start-drop breaks (take b text) a l inside later) in
        whole ∙ ap (λ n. line_start breaks (take b text) (n + l))
        (char_to_line-take breaks text b a some)
        ∙ line_start-take breaks text b (char_to_line breaks text a + l) within
