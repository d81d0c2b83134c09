-- What a call on a handle does. Without a rope it answers `NO_ROPE_HELD` and changes nothing.
use Rattle.std.specs.Prelude.{◌≡◌, ◌<◌, ◌≤◌, ◌+◌, ◌↔◌, ℕ, ℤ, pos, negsuc, Bool, IsTrue, List, ◌++◌, length, drop, Option, Some, None, Result, Ok, Err, IfSome, IsSomeAnd, MatchOption}
use Rattle.std.specs.List.{slice_range}
use Rattle.std.specs.Str.{IsUtf8, chars, encode_utf8_all}
use Rattle.std.specs.declared.cmp.Ordering.{Ordering}
use Rattle.std.specs.declared.cmp.Ordering.TheVariants.{Less, Equal, Greater}
use Rattle.rope_text.specs.declared.error.Error.{Error}
use Rattle.rope_text.specs.declared.line_breaks.LineBreaks.{LineBreaks}
use Rattle.rope_text.specs.Text.{byte_len}
use Rattle.rope_text.specs.Compare.{text_cmp}
use Rattle.rope_text.specs.Conversions.{line_to_char}
use Rattle.rope_text.specs.Lines.{line_count, line}
use Rattle.rope_text.specs.LastBreak.{last_break_len}
use Rattle.rope_text.specs.Lookup.{FoundChunk}
use Rattle.rope_text.specs.Edit.{char_range_error}
use Rattle.ropey.specs.View.{RopeView, IsBuilt, IsRope}
use Rattle.ropey_c.specs.Status.{status_of, IsStatus}
use Rattle.ropey_c.specs.declared.status.TheConstants.{OK, NO_ROPE_HELD, INVALID_UTF8, LINE_INDEX_OUT_OF_BOUNDS, BUFFER_TOO_SMALL}
use Rattle.ropey_c.specs.declared.lookups.Span.{Span}
use Rattle.ropey_c.specs.declared.chunks.Chunk.{Chunk}

-- a value is written where there is one; a refusal writes nothing
abbrev pub Answers : Result ℕ Error → ℕ → ℕ → ℕ → Type 0
Answers (Ok value) status old new = (status ≡ OK) × (new ≡ value)
Answers (Err e) status old new = (status ≡ status_of e) × (new ≡ old)

abbrev pub AnswersAt : Option RopeView → (RopeView → Result ℕ Error) → ℕ → ℕ → ℕ → Type 0
AnswersAt None found status old new = (status ≡ NO_ROPE_HELD) × (new ≡ old)
AnswersAt (Some rope) found status old new = Answers (found rope) status old new

-- the same, where what isn't there has one status
abbrev pub FindsAt : Option RopeView → (RopeView → Option ℕ) → ℕ → ℕ → ℕ → ℕ → Type 0
FindsAt None found missing status old new = (status ≡ NO_ROPE_HELD) × (new ≡ old)
FindsAt (Some rope) found missing status old new =
    MatchOption (found rope) ((status ≡ missing) × (new ≡ old)) (λ value. (status ≡ OK)
    × (new ≡ value))

-- a call that changes a rope: its status is one that `Status` allows, a refusal leaves the rope as
-- it was, and else `After`
-- holds of the rope before and after
abbrev pub Changes : Option RopeView → Option RopeView → ℕ → (RopeView → Type 0)
    → (RopeView → RopeView → Type 0) → Type 0
Changes None None status Status After = status ≡ NO_ROPE_HELD
Changes None (Some new) status Status After = ⊥
Changes (Some old) None status Status After = ⊥
Changes (Some old) (Some new) status Status After = Status old × (0 < status → new ≡ old)
    × (status ≡ OK → After old new)

-- a rope as it is built, with the set of line breaks that a number stands for
abbrev pub IsBuiltWith : Option LineBreaks → RopeView → Type 0
IsBuiltWith breaks rope = IsSomeAnd breaks (λ set. IsBuilt set rope)

-- a rope of a range of characters was made, unless the range has a fault; a refusal leaves what the
-- handle held
abbrev pub ClonesChars : Option RopeView → ℕ → ℕ → ℕ → Option RopeView → Option RopeView → Type 0
ClonesChars None start end status old new = (status ≡ NO_ROPE_HELD) × (new ≡ old)
ClonesChars (Some rope) start end status old new =
    IsStatus (char_range_error (Some start) (Some end) (length rope.text)) status
    × (0 < status → new ≡ old)
    × (status ≡ OK → IsSomeAnd new (λ made. (made.text ≡ slice_range rope.text start end)
    × (made.breaks ≡ rope.breaks) × IsRope made))

-- a call that has nothing to do: on a rope that `Empty` holds of it answers `OK` and leaves the
-- rope as it was
abbrev pub Keeps : Option RopeView → Option RopeView → ℕ → (RopeView → Type 0) → Type 0
Keeps old new status Empty = IfSome old (λ rope. Empty rope → (status ≡ OK) × (new ≡ old))

-- where a line lies, if there is such a line
abbrev pub FindsLine : Option RopeView → ℕ → ℕ → Span → Span → Type 0
FindsLine None i status old new = (status ≡ NO_ROPE_HELD) × (new ≡ old)
FindsLine (Some rope) i status old new =
    (line_count rope.breaks rope.text ≤ i → (status ≡ LINE_INDEX_OUT_OF_BOUNDS) × (new ≡ old))
    × (i < line_count rope.breaks rope.text → (status ≡ OK)
    × (new.start ≡ line_to_char rope.breaks rope.text i)
    × (new.end ≡ line_to_char rope.breaks rope.text (i + 1)))

-- how long the break is that a line ends in, if there is such a line
abbrev pub FindsLineBreak : Option RopeView → ℕ → ℕ → ℕ → ℕ → Type 0
FindsLineBreak None i status old new = (status ≡ NO_ROPE_HELD) × (new ≡ old)
FindsLineBreak (Some rope) i status old new =
    (line_count rope.breaks rope.text ≤ i → (status ≡ LINE_INDEX_OUT_OF_BOUNDS) × (new ≡ old))
    × (i < line_count rope.breaks rope.text
    → (status ≡ OK) × (new ≡ last_break_len rope.breaks (line rope.breaks rope.text i)))

-- a chunk as C sees it: the bytes that it lends are those of its text, and what lies before it
pub record IsChunk (text : List ℕ) (bytes chars breaks : ℕ) (chunk : Chunk) : Type 0 where
  pub shown : chunk.text.now ≡ encode_utf8_all text
  pub len : length chunk.text.now ≡ byte_len text
  pub bytes_before : chunk.bytes_before ≡ bytes
  pub chars_before : chunk.chars_before ≡ chars
  pub line_breaks_before : chunk.line_breaks_before ≡ breaks

-- the chunk that a look-up answers, for an index that is at most a length
abbrev pub FindsChunk : Option RopeView → (RopeView → ℕ) → ℕ → (RopeView → FoundChunk) → ℕ → ℕ
    → Chunk → Chunk → Type 0
FindsChunk None len i found missing status old new = (status ≡ NO_ROPE_HELD) × (new ≡ old)
FindsChunk (Some rope) len i found missing status old new =
    (len rope < i → (status ≡ missing) × (new ≡ old))
    × (i ≤ len rope → (status ≡ OK)
    × IsChunk (found rope).text (found rope).bytes (found rope).chars (found rope).break_count new)

-- an order as a number
abbrev pub sign_of : Ordering → ℤ
sign_of Less = negsuc 0
sign_of Equal = pos 0
sign_of Greater = pos 1

abbrev pub Compares : Option RopeView → Option RopeView → ℕ → ℤ → ℤ → Type 0
Compares None other status old new = (status ≡ NO_ROPE_HELD) × (new ≡ old)
Compares (Some rope) None status old new = (status ≡ NO_ROPE_HELD) × (new ≡ old)
Compares (Some rope) (Some other) status old new = (status ≡ OK)
    × (new ≡ sign_of (text_cmp rope.text other.text))

abbrev pub ComparesText : Option RopeView → List ℕ → ℕ → Bool → Bool → Type 0
ComparesText None bytes status old new = (status ≡ NO_ROPE_HELD) × (new ≡ old)
ComparesText (Some rope) bytes status old new =
    (¬ IsUtf8 bytes → (status ≡ INVALID_UTF8) × (new ≡ old))
    × (IsUtf8 bytes → (status ≡ OK) × (IsTrue new ↔ (rope.text ≡ chars bytes)))

-- the bytes are written to the front of a buffer that has room for them, and else nothing is; their
-- number is written either way
abbrev pub Copies : List ℕ → ℕ → List ℕ → List ℕ → ℕ → Type 0
Copies bytes status old new len =
    (len ≡ length bytes)
    × (length bytes ≤ length old → (status ≡ OK) × (new ≡ bytes ++ drop (length bytes) old))
    × (length old < length bytes → (status ≡ BUFFER_TOO_SMALL) × (new ≡ old))

abbrev pub CopiesOf : Option Error → List ℕ → ℕ → List ℕ → List ℕ → ℕ → ℕ → Type 0
CopiesOf None bytes status old new before len = Copies bytes status old new len
CopiesOf (Some e) bytes status old new before len = (status ≡ status_of e) × (new ≡ old)
    × (len ≡ before)

abbrev pub CopiesAt : Option RopeView → (RopeView → Option Error) → (RopeView → List ℕ) → ℕ → List ℕ
    → List ℕ → ℕ → ℕ → Type 0
CopiesAt None fault bytes status old new before len = (status ≡ NO_ROPE_HELD) × (new ≡ old)
    × (len ≡ before)
CopiesAt (Some rope) fault bytes status old new before len =
    CopiesOf (fault rope) (bytes rope) status old new before len
