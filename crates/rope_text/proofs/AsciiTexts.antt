-- ASCII texts, with one byte a character: an index is the same number in every unit.
use Rattle.std.proofs.Common.{◌≡◌, ℕ, suc, ◌<◌, ◌≤◌, min, List, [], ◌∷◌, length, take, drop, nat_le, refl, ap, sym, ◌∙◌, arith, inl, inr}
use Rattle.std.proofs.lemmas.Bool.{le-leb, lt-leb, cases_lt}
use Rattle.std.proofs.lemmas.Bool.Decides.{nat_tests}
use Rattle.std.proofs.lemmas.List.{append-nil, take-append-drop, length-take, length-drop}
use Rattle.std.proofs.lemmas.Str.{length-encode, length-le-encodes}
use Rattle.std.specs.Char.{len_utf8}
use Rattle.rope_text.specs.declared.line_breaks.LineBreaks.{LineBreaks}
use Rattle.rope_text.specs.Text.{byte_len, utf16_len, surrogate_count}
use Rattle.rope_text.specs.Conversions.{byte_to_char, utf16_to_char, char_to_line, byte_to_line}
use Rattle.rope_text.proofs.Blocks.{count_by-front}
use Rattle.rope_text.proofs.Measures.{IsMeasure-byte_len, IsMeasure-utf16_len}
use Rattle.rope_text.proofs.ConversionLaws.{byte_to_char_is, utf16_to_char_is, char_to_line_past, byte_to_line-byte_to_char}

four_bytes : (c : ℕ) → 65536 ≤ c → len_utf8 c ≡ 4
four_bytes c most = grind (arith, nat_tests)

one_unit : (c : ℕ) → c < 65536 → utf16_len (c ∷ []) ≡ 1
one_unit c less = rw (lt-leb 65536 c less) refl

two_units : (c : ℕ) → 65536 ≤ c → utf16_len (c ∷ []) ≡ 2
two_units c most = rw (le-leb 65536 c most) refl

units_in_bytes : (c : ℕ) → utf16_len (c ∷ []) ≤ byte_len (c ∷ [])
units_in_bytes c =
    let one : byte_len (c ∷ []) ≡ len_utf8 c = rw append-nil (length-encode c) in
    elim (cases_lt c 65536) [
      | inl less ↦ omega (arith, one_unit c less, IsMeasure-byte_len.one c)
      | inr most ↦ omega (arith, two_units c most, one, four_bytes c most)
    ]

-- a text takes no more code units than bytes
pub utf16_len-le-bytes : (text : List ℕ) → utf16_len text ≤ byte_len text
utf16_len-le-bytes [] = omega arith
utf16_len-le-bytes (c ∷ cs) =
    omega (
      arith,
      utf16_len-le-bytes cs,
      units_in_bytes c,
      IsMeasure-byte_len.joined (c ∷ []) cs,
      IsMeasure-utf16_len.joined (c ∷ []) cs,
    )

module _ (text : List ℕ) (single : surrogate_count text ≡ 0) where
  single_units : (i : ℕ) → utf16_len (take i text) ≡ min i (length text)
  single_units i =
      omega (arith, single, length-take i text, count_by-front (λ c. nat_le 0x1_0000 c) text i)

  -- where each character takes one code unit, the index of a character is that of its code unit
  pub single_utf16_to_char : (u : ℕ) → utf16_to_char text u ≡ min u (length text)
  single_utf16_to_char u =
      utf16_to_char_is text u (min u (length text)) (omega arith)
      (omega (arith, single_units (min u (length text))))
      (λ less. omega (arith, single_units (suc (min u (length text)))))

module _ (text : List ℕ) (ascii : byte_len text ≡ length text) where
  pub ascii_front : (i : ℕ) → byte_len (take i text) ≡ min i (length text)
  ascii_front i =
      omega (
        arith,
        length-le-encodes (take i text),
        length-le-encodes (drop i text),
        IsMeasure-byte_len.joined (take i text) (drop i text),
        ap byte_len (take-append-drop i text),
        length-take i text,
        length-drop i text,
      )

  pub ascii_units : (i : ℕ) → utf16_len (take i text) ≡ min i (length text)
  ascii_units i = omega (arith, ascii_front i, utf16_len-le-bytes (take i text), length-take i text)

  pub ascii_byte_to_char : (b : ℕ) → byte_to_char text b ≡ min b (length text)
  ascii_byte_to_char b =
      byte_to_char_is text b (min b (length text)) (omega arith)
      (omega (arith, ascii_front (min b (length text))))
      (λ less. omega (arith, ascii_front (suc (min b (length text)))))

  pub ascii_utf16_to_char : (u : ℕ) → utf16_to_char text u ≡ min u (length text)
  ascii_utf16_to_char = single_utf16_to_char text (omega (arith, ascii, utf16_len-le-bytes text))

  pub ascii_char_to_line : (breaks : LineBreaks) (i : ℕ)
      → byte_to_line breaks text i ≡ char_to_line breaks text i
  ascii_char_to_line breaks i =
      byte_to_line-byte_to_char breaks text i ∙ ap (char_to_line breaks text) (ascii_byte_to_char i)
      ∙ elim (cases_lt i (length text)) [
        | inl less ↦ ap (char_to_line breaks text) (let e : min i (length text) ≡ i = omega arith in
            e)
        | inr most ↦ ap (char_to_line breaks text) (let e : min i (length text) ≡ length text =
            omega arith in e) ∙ char_to_line_past breaks text (length text) (omega arith)
            ∙ sym (char_to_line_past breaks text i most)
      ]
