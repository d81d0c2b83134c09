-- Lines and columns, by counts of prefixes of the text.
use Rattle.std.proofs.Common.{◌≡◌, ℕ, ◌+◌, ◌-◌, ◌≤◌, List, Option, Some, None, Result, Ok, length, take, drop, ap, sym, ◌∙◌, arith}
use Rattle.std.specs.List.{slice_range}
use Rattle.std.proofs.Math.Seq.{take-add}
use Rattle.std.proofs.lemmas.List.{take-take, length-take, length-drop, length-append}
use Rattle.std.proofs.lemmas.Bool.{le-leb}
use Rattle.std.proofs.lemmas.Bool.Decides.{nat_tests}
use Rattle.rope_text.specs.declared.error.Error.{Error}
use Rattle.rope_text.specs.declared.line_breaks.LineBreaks.{LineBreaks}
use Rattle.rope_text.specs.Conversions.{char_to_line, utf16_to_char}
use Rattle.rope_text.specs.Edit.{char_index_error}
use Rattle.rope_text.specs.Lines.{line_start, line}
use Rattle.rope_text.specs.Position.{char_to_column, position_to_char}
use Rattle.rope_text.specs.Text.{byte_len, utf16_len}
use Rattle.rope_text.proofs.ConversionLaws.{char_to_line-less}
use Rattle.rope_text.proofs.LineLaws.{line_start-le-length, line_start_before, line_start_after}
use Rattle.rope_text.proofs.Measures.{IsMeasure-byte_len, IsMeasure-utf16_len, size_le_all, front-le-length}
use Rattle.rope_text.proofs.PositionLaws.{position_to_char-char_to_position}
use Rattle.rope_position.specs.declared.position.Position.{Position}
use Rattle.rope_text.specs.Answer.{checked}
use Rattle.rope_position.specs.declared.encoding.Encoding.{Encoding}
use Rattle.rope_position.specs.declared.encoding.Encoding.TheVariants.{Utf8, Utf16, Utf32}
use Rattle.rope_position.specs.Encodings.{unit_len, position_in}
use Rattle.rope_position.specs.Positions.{position_at, PositionsReturn}

-- the code units before an index are those before an earlier one and those between
units_between : (text : List ℕ) (a i : ℕ) → a ≤ i
    → utf16_len (take i text) ≡ utf16_len (take a text) + utf16_len (slice_range text a i)
units_between text a i l =
    let whole : a + (i - a) ≡ i = omega arith in
    ap (λ k. utf16_len (take k text)) (sym whole) ∙ ap utf16_len (take-add a (i - a) text)
    ∙ IsMeasure-utf16_len.joined (take a text) (take (i - a) (drop a text))

-- a column is the difference of the code units before the index and before the line
pub column_is : (breaks : LineBreaks) (text : List ℕ) (i : ℕ) → i ≤ length text
    → utf16_len (take i text)
    ≡ utf16_len (take (line_start breaks text (char_to_line breaks text i)) text) + char_to_column
    breaks text i
column_is breaks text i l =
    units_between text (line_start breaks text (char_to_line breaks text i)) i
    (line_start_before breaks text i l)

-- the column of a character is at most its line's code units
column-le : (breaks : LineBreaks) (text : List ℕ) (i : ℕ) → i ≤ length text
    → char_to_column breaks text i ≤ utf16_len (line breaks text (char_to_line breaks text i))
column-le breaks text i l =
    let n = char_to_line breaks text i in
    let start = line_start breaks text n in
    let end = line_start breaks text (n + 1) in
    let before : start ≤ i = line_start_before breaks text i l in
    let after : i ≤ end = line_start_after breaks text i l in
    let front : take (i - start) (line breaks text n) ≡ slice_range text start i =
    take-take (i - start) (end - start) (drop start text) (omega arith) in
    rw (← front) (size_le_all utf16_len IsMeasure-utf16_len (line breaks text n) (i - start))

-- a character of a line is in the text
pub in_text : (breaks : LineBreaks) (text : List ℕ) (l c : ℕ)
    → position_to_char breaks text l c ≤ length text
unfolding utf16_to_char
in_text breaks text l c =
    let inside = front-le-length utf16_len IsMeasure-utf16_len (line breaks text l) c in
    let start = line_start-le-length breaks text l in
    omega (
      arith,
      length-take (line_start breaks text (l + 1) - line_start breaks text l)
          (drop (line_start breaks text l) text),
      length-drop (line_start breaks text l) text,
    )

pub positions_are_fine : PositionsReturn
positions_are_fine breaks text i l =
    let line_is = char_to_line-less breaks text i in
    let column = column-le breaks text i l in
    (grind (arith, nat_tests), position_to_char-char_to_position breaks text i l)

same_position : (l m c d : ℕ) → l ≡ m → c ≡ d
    → ◌≡◌ {A = Position} (record { line = l; column = c }) (record { line = m; column = d })
same_position l m c d e f =
    let at : ℕ → ℕ → Position = λ line column. record { line = line; column = column } in
    ap (λ line. at line c) e ∙ ap (at m) f

-- a position found by the code units before its line and before its index
pub position_by : (breaks : LineBreaks) (text : List ℕ) (i line start before all : ℕ)
    → i ≤ length text → line ≡ char_to_line breaks text i → start ≡ line_start breaks text line
    → before ≡ utf16_len (take start text) → all ≡ utf16_len (take i text)
    → (before ≤ all) × ◌≡◌ {A = Position} (record { line = line; column = all - before })
    (position_at breaks text i)
position_by breaks text i line start before all l line_is start_is before_is all_is =
    let column = column_is breaks text i l in
    let place : start ≡ line_start breaks text (char_to_line breaks text i) = start_is
    ∙ ap (line_start breaks text) line_is in
    let units : before ≡ utf16_len
    (take (line_start breaks text (char_to_line breaks text i)) text) = before_is
    ∙ ap (λ k. utf16_len (take k text)) place in (
      omega arith,
      same_position line (char_to_line breaks text i) (all - before)
          (char_to_column breaks text i) line_is (omega arith),
    )

-- an index that isn't refused has its position
pub position_fine : (i len : ℕ) (p q : Position) → i ≤ len → p ≡ q
    → ◌≡◌ {A = Result Position Error} (Ok p) (checked (char_index_error i len) q)
position_fine i len p q l e = rw (le-leb i len l) (ap Ok e)

-- without an error the result is the value
pub value_is : (error : Option Error) (value found : ℕ)
    → ◌≡◌ {A = Result ℕ Error} (Ok found) (checked error value) → found ≡ value
value_is None value found e = cc
value_is (Some error) value found e = absurd (cc)

-- the code units before an index are those before an earlier one and those between, in any encoding
encoded_between : (encoding : Encoding) (text : List ℕ) (a i : ℕ) → a ≤ i → unit_len encoding
    (take i text) ≡ unit_len encoding (take a text) + unit_len encoding (slice_range text a i)
encoded_between Utf8 text a i l =
    let whole : a + (i - a) ≡ i = omega arith in
    ap (λ k. byte_len (take k text)) (sym whole) ∙ ap byte_len (take-add a (i - a) text) ∙
    IsMeasure-byte_len.joined (take a text) (take (i - a) (drop a text))
encoded_between Utf16 text a i l = units_between text a i l
encoded_between Utf32 text a i l =
    let whole : a + (i - a) ≡ i = omega arith in
    ap (λ k. length (take k text)) (sym whole) ∙ ap length (take-add a (i - a) text) ∙ length-append
    (take a text) (take (i - a) (drop a text))

-- a position in an encoding found by the code units before its line and before its index
pub encoded_by : (encoding : Encoding) (breaks : LineBreaks) (text : List ℕ)
    (i line start before all : ℕ) → i ≤ length text → line ≡ char_to_line breaks text i → start ≡
    line_start breaks text line
    → before ≡ unit_len encoding (take start text) → all ≡ unit_len encoding (take i text)
    → (before ≤ all) × ◌≡◌ {A = Position} (record { line = line; column = all - before })
    (position_in encoding breaks text i)
encoded_by encoding breaks text i line start before all l line_is start_is before_is all_is =
    let first : ℕ = line_start breaks text (char_to_line breaks text i) in
    let sum = encoded_between encoding text first i (line_start_before breaks text i l) in
    let place : start ≡ first = start_is ∙ ap (line_start breaks text) line_is in
    let units : before ≡ unit_len encoding (take first text) = before_is ∙ ap
    (λ k. unit_len encoding (take k text)) place in (
      omega arith,
      same_position line (char_to_line breaks text i) (all - before)
          (unit_len encoding (slice_range text first i)) line_is (omega arith),
    )

-- a prefix of a line is in the text
pub line_within : (breaks : LineBreaks) (text part : List ℕ) (l n : ℕ) → length part ≡ length
    (slice_range (line breaks text l) 0 n) → line_start breaks text l + length part ≤ length text
line_within breaks text part l n long =
    omega (
      arith,
      long,
      length-take (n - 0) (drop 0 (line breaks text l)),
      length-drop 0 (line breaks text l),
      length-take (line_start breaks text (l + 1) - line_start breaks text l)
          (drop (line_start breaks text l) text),
      length-drop (line_start breaks text l) text,
      line_start-le-length breaks text l,
    )
