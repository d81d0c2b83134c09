-- Parts of a rope's text with what lies before them, as C sees them.
use Rattle.std.specs.Prelude.{◌≡◌, ◌≢◌, ℕ, ◌<◌, ◌≤◌, List, length, take, Option, Some, None}
use Rattle.std.specs.List.{slice_range}
use Rattle.rope_text.specs.declared.error.Error.{Error}
use Rattle.rope_text.specs.declared.line_breaks.LineBreaks.{LineBreaks}
use Rattle.rope_text.specs.Text.{byte_len, utf16_len}
use Rattle.rope_text.specs.Content.{Content}
use Rattle.rope_text.specs.Conversions.{byte_to_char, char_to_line, line_to_char}
use Rattle.rope_text.specs.LineParts.{lines_of, part_between}
use Rattle.rope_text.specs.Edit.{char_range_error, byte_range_error}
use Rattle.ropey.specs.View.{RopeView, content}
use Rattle.ropey_c.specs.Status.{status_of}
use Rattle.ropey_c.specs.Counts.{IsCounts}
use Rattle.ropey_c.specs.Slices.{shown, shown_as, Shows, ShowsLinesFrom}
use Rattle.ropey_c.specs.declared.counts.Counts.{Counts}
use Rattle.ropey_c.specs.declared.slices.Slice.{Slice}
use Rattle.ropey_c.specs.declared.status.TheConstants.{OK, NO_ROPE_HELD, CHAR_INDEX_OUT_OF_BOUNDS}

-- how much of a text lies before a character; of the line breaks those that end there or before
pub record IsBefore (breaks : LineBreaks) (text : List ℕ) (i : ℕ) (counts : Counts) : Type 0 where
  pub bytes : counts.bytes ≡ byte_len (take i text)
  pub chars : counts.chars ≡ i
  pub utf16 : counts.utf16 ≡ utf16_len (take i text)
  pub line_breaks : counts.line_breaks ≡ char_to_line breaks text i

-- a part and what lies before it are written, unless the range has a fault
abbrev pub SliceAt : Option Error → RopeView → ℕ → Content → ℕ → Slice → Slice → Counts → Counts
    → Type 0
SliceAt None rope i part status old new before_old before =
    (status ≡ OK) × (shown new ≡ shown_as part) × IsBefore rope.breaks rope.text i before
SliceAt (Some e) rope i part status old new before_old before = (status ≡ status_of e) × (new ≡ old)
    × (before ≡ before_old)

abbrev pub SliceOfCharsAt : Option RopeView → ℕ → ℕ → ℕ → Slice → Slice → Counts → Counts → Type 0
SliceOfCharsAt None start end status old new before_old before = (status ≡ NO_ROPE_HELD)
    × (new ≡ old) × (before ≡ before_old)
SliceOfCharsAt (Some rope) start end status old new before_old before =
    SliceAt (char_range_error (Some start) (Some end) (length rope.text)) rope start
    (part_between (content rope) start end)
    status old new before_old before

-- what is said of a range that may have a fault, by a call that takes no memory
abbrev pub SaysOf : Option Error → ℕ → Type 0
SaysOf None status = status ≡ OK
SaysOf (Some e) status = status ≡ status_of e

-- the same of a range of bytes
abbrev pub SliceOfBytesAt : Option RopeView → ℕ → ℕ → ℕ → Slice → Slice → Counts → Counts → Type 0
SliceOfBytesAt None start end status old new before_old before = (status ≡ NO_ROPE_HELD)
    × (new ≡ old) × (before ≡ before_old)
SliceOfBytesAt (Some rope) start end status old new before_old before =
    let from = byte_to_char rope.text start in
    SliceAt (byte_range_error rope.text (Some start) (Some end)) rope from
    (part_between (content rope) from (byte_to_char rope.text end))
    status old new before_old before

-- the same of how much the part holds
abbrev pub CountsPartAt : Option Error → RopeView → ℕ → ℕ → ℕ → Counts → Counts → Counts → Counts
    → Type 0
CountsPartAt None rope start end status old new before_old before =
    (status ≡ OK) × IsCounts rope.breaks (slice_range rope.text start end) new
    × IsBefore rope.breaks rope.text start before
CountsPartAt (Some e) rope start end status old new before_old before = (status ≡ status_of e)
    × (new ≡ old) × (before ≡ before_old)

abbrev pub CountsInCharsAt : Option RopeView → ℕ → ℕ → ℕ → Counts → Counts → Counts → Counts
    → Type 0
CountsInCharsAt None start end status old new before_old before = (status ≡ NO_ROPE_HELD)
    × (new ≡ old) × (before ≡ before_old)
CountsInCharsAt (Some rope) start end status old new before_old before =
    CountsPartAt (char_range_error (Some start) (Some end) (length rope.text)) rope start end status
    old new before_old before

-- the lines of the text from a character on, and what lies before it
abbrev pub ShowsLinesAt : Option RopeView → ℕ → ℕ → List Slice → List Slice → ℕ → ℕ → Counts
    → Counts → Type 0
ShowsLinesAt None i status old new count_old count before_old before =
    (status ≡ NO_ROPE_HELD) × (new ≡ old) × (count ≡ count_old) × (before ≡ before_old)
ShowsLinesAt (Some rope) i status old new count_old count before_old before =
    (length rope.text < i → (status ≡ CHAR_INDEX_OUT_OF_BOUNDS) × (new ≡ old) × (count ≡ count_old)
    × (before ≡ before_old))
    × (i ≤ length rope.text → (status ≡ OK) × IsBefore rope.breaks rope.text i before
    × Shows (lines_of (part_between (content rope) i (length rope.text))) old new count)

-- the lines from one on, and what lies before the first of them, where it is OK
abbrev pub ShowsLinesFromAt : Option RopeView → ℕ → ℕ → List Slice → List Slice → ℕ → ℕ → Counts
    → Counts → Type 0
ShowsLinesFromAt None i status old new count_old count before_old before =
    ShowsLinesFrom None i status old new count_old count × (before ≡ before_old)
ShowsLinesFromAt (Some rope) i status old new count_old count before_old before =
    ShowsLinesFrom (Some rope) i status old new count_old count
    × (status ≢ OK → before ≡ before_old)
    × (status ≡ OK → IsBefore rope.breaks rope.text (line_to_char rope.breaks rope.text i) before)
