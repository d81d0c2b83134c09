-- Positions whose columns count in one of the encodings of the Language Server Protocol.
use Rattle.std.specs.Prelude.{ℕ, ◌+◌, List, length, nat_le, min, if◌then◌else◌}
use Rattle.std.specs.List.{slice_range}
use Rattle.rope_text.specs.declared.line_breaks.LineBreaks.{LineBreaks}
use Rattle.rope_text.specs.Text.{byte_len, utf16_len}
use Rattle.rope_text.specs.LastBreak.{without_break}
use Rattle.rope_text.specs.Lines.{line_start, line, line_count}
use Rattle.rope_text.specs.Conversions.{char_to_line, byte_to_char, utf16_to_char}
use Rattle.rope_position.specs.declared.position.Position.{Position}
use Rattle.rope_position.specs.declared.encoding.Encoding.{Encoding}
use Rattle.rope_position.specs.declared.encoding.Encoding.TheVariants.{Utf8, Utf16, Utf32}

-- the length of a text in code units
abbrev pub unit_len : Encoding → List ℕ → ℕ
unit_len Utf8 text = byte_len text
unit_len Utf16 text = utf16_len text
unit_len Utf32 text = length text

-- the last character of a text that begins at a code unit or before it
abbrev pub unit_to_char : Encoding → List ℕ → ℕ → ℕ
unit_to_char Utf8 text unit = byte_to_char text unit
unit_to_char Utf16 text unit = utf16_to_char text unit
unit_to_char Utf32 text unit = unit

-- the line of a character, and the code units from the line's start up to the character
abbrev pub position_in : Encoding → LineBreaks → List ℕ → ℕ → Position
position_in encoding breaks text i = record {
  line = char_to_line breaks text i;
  column = unit_len encoding
      (slice_range text (line_start breaks text (char_to_line breaks text i)) i);
}

-- the character at a column of a text, or its end if the column is past it
abbrev pub clamped_column : Encoding → List ℕ → ℕ → ℕ
clamped_column encoding text column =
    unit_to_char encoding text (min column (unit_len encoding text))

-- the character at a position: past the end of a line its end before its break, past the last line
-- the end of the text
abbrev pub clamped_char : Encoding → LineBreaks → List ℕ → Position → ℕ
clamped_char encoding breaks text p =
    if nat_le (line_count breaks text) p.line then length text
    else line_start breaks text p.line + clamped_column encoding
    (without_break breaks (line breaks text p.line)) p.column
