-- A conversion of a tree's text: by the leaf that contains the position, at the ends, and its
-- bound.
use Rattle.std.proofs.Common.{◌≡◌, ℕ, ◌+◌, ◌-◌, ◌*◌, ◌≤◌, ◌<◌, List, length, min, refl, true, ap, ◌∙◌, arith}
use Rattle.std.proofs.lemmas.Str.{length-le-encodes}
use Rattle.rope_text.specs.declared.line_breaks.LineBreaks.{LineBreaks}
use Rattle.rope_text.specs.declared.text_info.TextInfo.{TextInfo}
use Rattle.rope_text.specs.Text.{byte_len, utf16_len}
use Rattle.rope_text.specs.TextInfo.{info_of}
use Rattle.rope_text.specs.Lines.{line_start}
use Rattle.rope_text.specs.Conversions.{char_to_byte}
use Rattle.rope_text.proofs.Measures.{IsMeasure-byte_len, IsMeasure-utf16_len, size_le_all}
use Rattle.rope_text.proofs.ConversionLaws.{byte_to_char-byte_len, byte_to_char-le-length, utf16_to_char-le-length, char_to_line_end, utf16_len-le}
use Rattle.rope_text.proofs.LineLaws.{line_start-le-length, line_start_first, line_start_past}
use Rattle.rope_text.proofs.AsciiTexts.{ascii_front, ascii_units, ascii_byte_to_char, ascii_utf16_to_char}
use Rattle.rope_leaf.specs.declared.search.Unit.{Unit}
use Rattle.rope_leaf.specs.declared.search.Unit.TheVariants.{Byte, Char, CodeUnit, LineBreak}
use Rattle.rope_leaf.specs.Search.{count_of}
use Rattle.rope_tree.specs.Conversions.{first_sought, are_converted, converted}
use Rattle.rope_leaf.specs.Tree.{Tree, text, IsTree}
use Rattle.rope_leaf.specs.Found.{IsFound}
use Rattle.rope_tree.proofs.FoundLaws.{utf16_to_char_end, char_to_byte_end, char_to_utf16_end, byte_to_line_end, found_byte_to_char, found_utf16_to_char, found_char_to_line, found_byte_to_line, found_char_to_byte, found_char_to_utf16, found_line_start, found_line_to_byte, char_to_line-le, byte_to_line-le}

-- a conversion is that of the leaf, after the text before it
pub found_converted : (from to : Unit) (idx at : ℕ) (t : Tree) (leaf : List ℕ) (front : TextInfo)
    → are_converted from to ≡ true → idx ≡ at + first_sought from → IsTree t
    → IsFound from at t leaf front
    → converted from to t.breaks (text t) idx
    ≡ count_of to front + converted from to t.breaks leaf (idx - count_of from front)
found_converted Byte Char idx at t leaf front pair e i f = let same : idx ≡ at = omega arith in
    rw same (found_byte_to_char at t leaf front i f)
found_converted Byte LineBreak idx at t leaf front pair e i f = let same : idx ≡ at = omega arith in
    rw same (found_byte_to_line at t leaf front i f)
found_converted Char Byte idx at t leaf front pair e i f = let same : idx ≡ at = omega arith in
    rw same (found_char_to_byte at t leaf front i f)
found_converted Char CodeUnit idx at t leaf front pair e i f = let same : idx ≡ at = omega arith in
    rw same (found_char_to_utf16 at t leaf front i f)
found_converted Char LineBreak idx at t leaf front pair e i f = let same : idx ≡ at = omega arith in
    rw same (found_char_to_line at t leaf front i f)
found_converted CodeUnit Char idx at t leaf front pair e i f = let same : idx ≡ at = omega arith in
    rw same (found_utf16_to_char at t leaf front i f)
found_converted LineBreak Byte idx at t leaf front pair e i f =
    found_line_to_byte at idx t leaf front i f e
found_converted LineBreak Char idx at t leaf front pair e i f =
    found_line_start at idx t leaf front i f e
found_converted _ _ idx at t leaf front pair e i f = absurd (cc)

-- the end of the text is its end in each unit
pub converted_end : (from to : Unit) (breaks : LineBreaks) (text : List ℕ) (idx : ℕ)
    → are_converted from to ≡ true → idx ≡ count_of from (info_of breaks text) + first_sought from
    → converted from to breaks text idx ≡ count_of to (info_of breaks text)
converted_end Byte Char breaks text idx pair e = let at : idx ≡ byte_len text = omega arith in
    rw at (byte_to_char-byte_len text)
converted_end Byte LineBreak breaks text idx pair e = let at : idx ≡ byte_len text = omega arith in
    rw at (byte_to_line_end breaks text)
converted_end Char Byte breaks text idx pair e = let at : idx ≡ length text = omega arith in
    rw at (char_to_byte_end text)
converted_end Char CodeUnit breaks text idx pair e = let at : idx ≡ length text = omega arith in
    rw at (char_to_utf16_end text)
converted_end Char LineBreak breaks text idx pair e = let at : idx ≡ length text = omega arith in
    rw at (char_to_line_end breaks text)
converted_end CodeUnit Char breaks text idx pair e = let at : idx ≡ utf16_len text = omega arith in
    rw at (utf16_to_char_end text)
converted_end LineBreak Byte breaks text idx pair e =
    ap (char_to_byte text) (line_start_past breaks text idx (omega arith)) ∙ char_to_byte_end text
converted_end LineBreak Char breaks text idx pair e = line_start_past breaks text idx (omega arith)
converted_end _ _ breaks text idx pair e = absurd (cc)

-- the first line starts the text
pub converted_first : (from to : Unit) (breaks : LineBreaks) (text : List ℕ) (idx : ℕ)
    → are_converted from to ≡ true → idx < first_sought from → converted from to breaks text idx ≡ 0
converted_first LineBreak Byte breaks text idx pair less = let at : idx ≡ 0 = omega arith in
    rw at (ap (char_to_byte text) (line_start_first breaks text))
converted_first LineBreak Char breaks text idx pair less = let at : idx ≡ 0 = omega arith in
    rw at (line_start_first breaks text)
converted_first LineBreak _ breaks text idx pair less = absurd (cc)
converted_first _ _ breaks text idx pair less = absurd (omega arith)

-- no result of a conversion exceeds twice the number of bytes
pub converted-le : (from to : Unit) (breaks : LineBreaks) (text : List ℕ) (idx : ℕ)
    → are_converted from to ≡ true → converted from to breaks text idx ≤ 2 * byte_len text
converted-le Byte Char breaks text idx pair =
    omega (arith, byte_to_char-le-length text idx, length-le-encodes text)
converted-le Byte LineBreak breaks text idx pair =
    omega (arith, byte_to_line-le breaks text idx, length-le-encodes text)
converted-le Char Byte breaks text idx pair =
    omega (arith, size_le_all byte_len IsMeasure-byte_len text idx)
converted-le Char CodeUnit breaks text idx pair =
    omega (arith, size_le_all utf16_len IsMeasure-utf16_len text idx, utf16_len-le text)
converted-le Char LineBreak breaks text idx pair =
    omega (arith, char_to_line-le breaks text idx, length-le-encodes text)
converted-le CodeUnit Char breaks text idx pair =
    omega (arith, utf16_to_char-le-length text idx, length-le-encodes text)
converted-le LineBreak Byte breaks text idx pair =
    omega (arith, size_le_all byte_len IsMeasure-byte_len text (line_start breaks text idx))
converted-le LineBreak Char breaks text idx pair =
    omega (arith, line_start-le-length breaks text idx, length-le-encodes text)
converted-le _ _ breaks text idx pair = absurd (cc)

-- in a text with as many bytes as characters, all indices but the line are equal
pub ascii_converted : (from to : Unit) (breaks : LineBreaks) (text : List ℕ) (idx : ℕ)
    → are_converted from to ≡ true → byte_len text ≡ length text → (from ≡ LineBreak → ⊥)
    → (to ≡ LineBreak → from ≡ CodeUnit) → converted from to breaks text idx ≡ min idx (length text)
ascii_converted Byte Char breaks text idx pair ascii from_other to_other =
    ascii_byte_to_char text ascii idx
ascii_converted Byte LineBreak breaks text idx pair ascii from_other to_other =
    let e : Byte ≡ CodeUnit = to_other refl in absurd (cc)
ascii_converted Char Byte breaks text idx pair ascii from_other to_other =
    ascii_front text ascii idx
ascii_converted Char CodeUnit breaks text idx pair ascii from_other to_other =
    ascii_units text ascii idx
ascii_converted Char LineBreak breaks text idx pair ascii from_other to_other =
    let e : Char ≡ CodeUnit = to_other refl in absurd (cc)
ascii_converted CodeUnit Char breaks text idx pair ascii from_other to_other =
    ascii_utf16_to_char text ascii idx
ascii_converted LineBreak _ breaks text idx pair ascii from_other to_other =
    absurd (from_other refl)
ascii_converted _ _ breaks text idx pair ascii from_other to_other = absurd (cc)
