-- A cursor over lines, by the number of the line after it.
use Rattle.std.specs.Prelude.{◌≡◌, ℕ, ◌^◌, ◌<◌, ◌≤◌, Bool, length, take, drop}
use Rattle.rope_text.specs.declared.line_breaks.LineBreaks.{LineBreaks}
use Rattle.rope_text.specs.declared.text_info.TextInfo.{TextInfo}
use Rattle.rope_text.specs.Text.{byte_len}
use Rattle.rope_text.specs.TextInfo.{info_of}
use Rattle.rope_text.specs.Lines.{line_start, line_count}
use Rattle.rope_text.specs.Content.{Content}
use Rattle.rope_text.specs.LineParts.{lines_of}
use Rattle.rope_text.specs.Sides.{Sides}
use Rattle.rope_slice.specs.Caret.{Halves}

-- the lines before line l, and those from it on
abbrev pub at_line : Content → ℕ → Bool → Sides Content
at_line c l is_backward = record {
  left = take l (lines_of c);
  right = drop l (lines_of c);
  is_backward = is_backward;
}

-- a position at the start of line l, or at the end of all the lines, whose number is known; and the
-- counts before it
pub record IsLineStart (c : Content) (h : Halves) (before : TextInfo) (l total : ℕ) : Type 0 where
  pub within : l ≤ total
  pub total_is : total ≡ line_count c.breaks c.text
  pub front_is : h.front ≡ take (line_start c.breaks c.text l) c.text
  pub back_is : h.back ≡ drop (line_start c.breaks c.text l) c.text
  pub chunks_are : 0 < length c.text → h.chunks ≡ c.chunks
  pub before_is : before ≡ info_of c.breaks (take (line_start c.breaks c.text l) c.text)
  pub fits : byte_len c.text < 2 ^ 63

-- the start of a line, with a copy of the set of line breaks
pub record IsLineCursor (c : Content) (breaks : LineBreaks) (h : Halves) (before : TextInfo)
    (l total : ℕ) : Type 0 where
  pub start : IsLineStart c h before l total
  pub breaks_is : breaks ≡ c.breaks
