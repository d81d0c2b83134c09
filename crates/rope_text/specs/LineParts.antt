-- The lines of a content, as slices of it.
use Rattle.std.specs.Prelude.{◌≡◌, ℕ, ◌+◌, ◌-◌, List, map, take, drop}
use Rattle.std.specs.List.{range_with_len, slice_range}
use Rattle.rope_text.specs.declared.line_breaks.LineBreaks.{LineBreaks}
use Rattle.rope_text.specs.declared.text_info.TextInfo.{TextInfo}
use Rattle.rope_text.specs.Breaks.{break_count}
use Rattle.rope_text.specs.Conversions.{byte_to_char}
use Rattle.rope_text.specs.Lines.{line_start, line_count}
use Rattle.rope_text.specs.Cutting.{clip}
use Rattle.rope_text.specs.Content.{Content}
use Rattle.rope_text.specs.Text.{byte_len}
use Rattle.rope_text.specs.TextInfo.{info_of}

-- the slice from character a up to b: its text, and its chunks, clipped
abbrev pub part_between : Content → ℕ → ℕ → Content
part_between c a b = record {
  text = slice_range c.text a b;
  chunks = clip c.chunks a b;
  breaks = c.breaks;
}

-- line l with its break
abbrev pub line_of : Content → ℕ → Content
line_of c l = part_between c (line_start c.breaks c.text l) (line_start c.breaks c.text (l + 1))

-- all the lines, in order
unfoldable pub lines_of : Content → List Content
lines_of c = map (line_of c) (range_with_len 0 (line_count c.breaks c.text))

-- the text up to the end of its first line break, or all of it
abbrev pub first_line : LineBreaks → List ℕ → List ℕ
first_line breaks text = take (line_start breaks text 1) text

-- the start of the last line, or of the k-th before it: k line breaks end after it
abbrev pub last_start : LineBreaks → List ℕ → ℕ → ℕ
last_start breaks text k = line_start breaks text (break_count breaks text - k)

-- the text before the byte b, and from it on
abbrev pub before_byte : List ℕ → ℕ → List ℕ
before_byte text b = take (byte_to_char text b) text

abbrev pub after_byte : List ℕ → ℕ → List ℕ
after_byte text b = drop (byte_to_char text b) text

-- a character begins at the byte b, or the text ends there
abbrev pub IsBetween : List ℕ → ℕ → Type 0
IsBetween text b = byte_len (before_byte text b) ≡ b

-- the start of the last line of the text before the byte `end`, or of the line `skip` breaks
-- earlier: its byte, and the counts from there on
abbrev pub last_line_byte : LineBreaks → List ℕ → ℕ → ℕ → ℕ
last_line_byte breaks text end skip =
    byte_len (take (last_start breaks (before_byte text end) skip) (before_byte text end))

abbrev pub last_line_info : LineBreaks → List ℕ → ℕ → ℕ → TextInfo
last_line_info breaks text end skip =
    info_of breaks (drop (last_start breaks (before_byte text end) skip) (before_byte text end))
