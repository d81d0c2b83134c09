-- Parts of a rope's text, as C sees them.
use Rattle.std.specs.Prelude.{◌≡◌, ℕ, ◌<◌, ◌≤◌, nat_le, if◌then◌else◌, List, [], length, take, drop, map, reverse, min, Option, Some, None}
use Rattle.std.specs.Str.{encode_utf8_all}
use Rattle.rope_text.specs.declared.error.Error.{Error}
use Rattle.rope_text.specs.Text.{byte_len, utf16_len}
use Rattle.rope_text.specs.Breaks.{break_count}
use Rattle.rope_text.specs.Content.{Content}
use Rattle.rope_text.specs.LineParts.{line_of, lines_of, part_between}
use Rattle.rope_text.specs.Lines.{line_count}
use Rattle.rope_text.specs.Edit.{char_range_error}
use Rattle.ropey.specs.View.{RopeView, content}
use Rattle.ropey_c.specs.Status.{status_of}
use Rattle.ropey_c.specs.declared.counts.Counts.{Counts}
use Rattle.ropey_c.specs.declared.status.TheConstants.{OK, NO_ROPE_HELD, LINE_INDEX_OUT_OF_BOUNDS}
use Rattle.ropey_c.specs.declared.slices.Slice.{Slice}

-- what C sees of a slice: the bytes that are lent, and the counts
pub record Shown : Type 0 where
  pub bytes : List ℕ
  pub counts : Counts

abbrev pub shown : Slice → Shown
shown slice = record { bytes = slice.text.now; counts = slice.counts }

-- what it is to see of a part: its bytes where one chunk has them all, and else none; and how much
-- it holds
abbrev pub shown_as : Content → Shown
shown_as part = record {
  bytes = if nat_le (length part.chunks) 1 then encode_utf8_all part.text else [];
  counts = record {
    bytes = byte_len part.text;
    chars = length part.text;
    utf16 = utf16_len part.text;
    line_breaks = break_count part.breaks part.text;
  };
}

-- the slice of a line is written, unless there is no such line
abbrev pub SliceOfLine : Option RopeView → ℕ → ℕ → Slice → Slice → Type 0
SliceOfLine None i status old new = (status ≡ NO_ROPE_HELD) × (new ≡ old)
SliceOfLine (Some rope) i status old new =
    (line_count rope.breaks rope.text ≤ i → (status ≡ LINE_INDEX_OUT_OF_BOUNDS) × (new ≡ old))
    × (i < line_count rope.breaks rope.text → (status ≡ OK)
    × (shown new ≡ shown_as (line_of (content rope) i)))

-- the slice of a range of characters is written, unless the range has a fault
abbrev pub SliceInRange : Option Error → Content → ℕ → Slice → Slice → Type 0
SliceInRange None part status old new = (status ≡ OK) × (shown new ≡ shown_as part)
SliceInRange (Some e) part status old new = (status ≡ status_of e) × (new ≡ old)

abbrev pub SliceOfChars : Option RopeView → ℕ → ℕ → ℕ → Slice → Slice → Type 0
SliceOfChars None start end status old new = (status ≡ NO_ROPE_HELD) × (new ≡ old)
SliceOfChars (Some rope) start end status old new =
    SliceInRange (char_range_error (Some start) (Some end) (length rope.text))
    (part_between (content rope) start end) status old new

-- as many of the parts as there is room for were written to the front, and the rest stayed
abbrev pub Shows : List Content → List Slice → List Slice → ℕ → Type 0
Shows parts old new count =
    (count ≡ min (length old) (length parts))
    × (map shown (take count new) ≡ map shown_as (take count parts))
    × (drop count new ≡ drop count old)

-- the lines from one on
abbrev pub ShowsLinesFrom : Option RopeView → ℕ → ℕ → List Slice → List Slice → ℕ → ℕ → Type 0
ShowsLinesFrom None i status old new count_old count = (status ≡ NO_ROPE_HELD) × (new ≡ old)
    × (count ≡ count_old)
ShowsLinesFrom (Some rope) i status old new count_old count =
    (line_count rope.breaks rope.text < i → (status ≡ LINE_INDEX_OUT_OF_BOUNDS) × (new ≡ old)
    × (count ≡ count_old))
    × (i ≤ line_count rope.breaks rope.text → (status ≡ OK)
    × Shows (drop i (lines_of (content rope))) old new count)

-- the lines before one, the nearest first
abbrev pub ShowsLinesBefore : Option RopeView → ℕ → ℕ → List Slice → List Slice → ℕ → ℕ → Type 0
ShowsLinesBefore None i status old new count_old count = (status ≡ NO_ROPE_HELD) × (new ≡ old)
    × (count ≡ count_old)
ShowsLinesBefore (Some rope) i status old new count_old count =
    (line_count rope.breaks rope.text < i → (status ≡ LINE_INDEX_OUT_OF_BOUNDS) × (new ≡ old)
    × (count ≡ count_old))
    × (i ≤ line_count rope.breaks rope.text → (status ≡ OK)
    × Shows (reverse (take i (lines_of (content rope)))) old new count)
