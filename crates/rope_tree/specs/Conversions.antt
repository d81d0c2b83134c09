-- Conversions of an index from one unit to another.
use Rattle.std.specs.Prelude.{ℕ, List, length, Bool, true, false}
use Rattle.rope_text.specs.declared.line_breaks.LineBreaks.{LineBreaks}
use Rattle.rope_text.specs.Text.{byte_len, utf16_len}
use Rattle.rope_text.specs.Lines.{line_count}
use Rattle.rope_text.specs.Conversions.{byte_to_char, byte_to_line, char_to_byte, char_to_line, char_to_utf16, line_to_byte, line_to_char, utf16_to_char}
use Rattle.rope_leaf.specs.declared.search.Unit.{Unit}
use Rattle.rope_leaf.specs.declared.search.Unit.TheVariants.{Byte, Char, CodeUnit, LineBreak}

-- the index of the end of a text; for lines it is one past the last
abbrev pub end_index : Unit → LineBreaks → List ℕ → ℕ
end_index Byte breaks text = byte_len text
end_index Char breaks text = length text
end_index CodeUnit breaks text = utf16_len text
end_index LineBreak breaks text = line_count breaks text

-- the first index for which a tree is searched: 1 for lines, since the first line starts at 0
abbrev pub first_sought : Unit → ℕ
first_sought LineBreak = 1
first_sought _ = 0

-- the pairs of units between which indices are converted
abbrev pub are_converted : Unit → Unit → Bool
are_converted Byte Char = true
are_converted Byte LineBreak = true
are_converted Char Byte = true
are_converted Char CodeUnit = true
are_converted Char LineBreak = true
are_converted CodeUnit Char = true
are_converted LineBreak Byte = true
are_converted LineBreak Char = true
are_converted _ _ = false

-- the index in the second unit of the position that an index in the first unit names
abbrev pub converted : Unit → Unit → LineBreaks → List ℕ → ℕ → ℕ
converted Byte Char breaks text idx = byte_to_char text idx
converted Byte LineBreak breaks text idx = byte_to_line breaks text idx
converted Char Byte breaks text idx = char_to_byte text idx
converted Char CodeUnit breaks text idx = char_to_utf16 text idx
converted Char LineBreak breaks text idx = char_to_line breaks text idx
converted CodeUnit Char breaks text idx = utf16_to_char text idx
converted LineBreak Byte breaks text idx = line_to_byte breaks text idx
converted LineBreak Char breaks text idx = line_to_char breaks text idx
converted _ _ breaks text idx = idx
