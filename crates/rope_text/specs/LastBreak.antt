-- The line break at the end of a text.
use Rattle.std.specs.Prelude.{ℕ, ◌-◌, Bool, ◌&&◌, ◌==◌, List, length, take, slice_index, if◌then◌else◌}
use Rattle.rope_text.specs.declared.line_breaks.LineBreaks.{LineBreaks}
use Rattle.rope_text.specs.Breaks.{is_break_char, ends_in_cr, is_break_end}

-- whether the text ends with a line break
abbrev pub ends_in_break : LineBreaks → List ℕ → Bool
ends_in_break breaks text = is_break_end breaks text (length text)

-- whether the text ends with CR LF
abbrev pub ends_in_crlf : List ℕ → Bool
ends_in_crlf text =
    ends_in_cr (take (length text - 1) text) && slice_index text (length text - 1) == 10

-- the number of characters of the line break at the end: none, two for CR LF, or one
abbrev pub last_break_len : LineBreaks → List ℕ → ℕ
last_break_len breaks text =
    if ends_in_break breaks text then
    (if is_break_char breaks 13 && ends_in_crlf text then 2 else 1) else 0

-- the text without the line break at its end
abbrev pub without_break : LineBreaks → List ℕ → List ℕ
without_break breaks text = take (length text - last_break_len breaks text) text
