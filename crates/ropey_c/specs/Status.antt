-- The numbers that stand for refusals and for sets of line breaks, and which of them a call
-- answers.
use Rattle.std.specs.Prelude.{◌≡◌, ◌⊎◌, ℕ, ◌==◌, List, Option, Some, None, if◌then◌else◌}
use Rattle.std.specs.Str.{IsUtf8}
use Rattle.std.specs.Char.{IsScalar}
use Rattle.rope_text.specs.declared.error.Error.{Error}
use Rattle.rope_text.specs.declared.error.Error.TheVariants.{ByteIndexOutOfBounds, CharIndexOutOfBounds, LineIndexOutOfBounds, Utf16IndexOutOfBounds, ByteIndexNotCharBoundary, CharRangeInvalid, CharRangeOutOfBounds, ByteRangeInvalid, ByteRangeOutOfBounds, ByteRangeNotCharBoundary, TooLong, OutOfMemory, LineBreaksDiffer}
use Rattle.rope_text.specs.declared.line_breaks.LineBreaks.{LineBreaks}
use Rattle.rope_text.specs.declared.line_breaks.LineBreaks.TheVariants.{Lf, CrLf, Unicode}
use Rattle.ropey_c.specs.declared.status.TheConstants.{OK, OUT_OF_MEMORY, INVALID_UTF8, NOT_A_CHARACTER, BYTE_INDEX_OUT_OF_BOUNDS, CHAR_INDEX_OUT_OF_BOUNDS, LINE_INDEX_OUT_OF_BOUNDS, UTF16_INDEX_OUT_OF_BOUNDS, CHAR_RANGE_INVALID, CHAR_RANGE_OUT_OF_BOUNDS, BYTE_RANGE_INVALID, BYTE_RANGE_OUT_OF_BOUNDS, BYTE_RANGE_NOT_CHAR_BOUNDARY, BYTE_INDEX_NOT_CHAR_BOUNDARY, TOO_LONG, BREAK_SETS_DIFFER, UNKNOWN_BREAK_SET, LF, LF_CR, UNICODE}

-- the status of an error
abbrev pub status_of : Error → ℕ
status_of (ByteIndexOutOfBounds i len) = BYTE_INDEX_OUT_OF_BOUNDS
status_of (CharIndexOutOfBounds i len) = CHAR_INDEX_OUT_OF_BOUNDS
status_of (LineIndexOutOfBounds i len) = LINE_INDEX_OUT_OF_BOUNDS
status_of (Utf16IndexOutOfBounds i len) = UTF16_INDEX_OUT_OF_BOUNDS
status_of (ByteIndexNotCharBoundary i) = BYTE_INDEX_NOT_CHAR_BOUNDARY
status_of (ByteRangeNotCharBoundary start end) = BYTE_RANGE_NOT_CHAR_BOUNDARY
status_of (ByteRangeInvalid start end) = BYTE_RANGE_INVALID
status_of (CharRangeInvalid start end) = CHAR_RANGE_INVALID
status_of (ByteRangeOutOfBounds start end len) = BYTE_RANGE_OUT_OF_BOUNDS
status_of (CharRangeOutOfBounds start end len) = CHAR_RANGE_OUT_OF_BOUNDS
status_of TooLong = TOO_LONG
status_of OutOfMemory = OUT_OF_MEMORY
status_of LineBreaksDiffer = BREAK_SETS_DIFFER

-- the set of line breaks that a number stands for, and the other way round
abbrev pub given_breaks : ℕ → Option LineBreaks
given_breaks number =
    if number == LF then Some Lf else if number == LF_CR then Some CrLf else if number ==
    UNICODE then Some Unicode else None

abbrev pub number_of : LineBreaks → ℕ
number_of Lf = LF
number_of CrLf = LF_CR
number_of Unicode = UNICODE

-- the status of a call that takes memory: that of the error of its arguments; without an error, OK
-- or OUT_OF_MEMORY
abbrev pub IsStatus : Option Error → ℕ → Type 0
IsStatus None status = (status ≡ OK) ⊎ (status ≡ OUT_OF_MEMORY)
IsStatus (Some e) status = status ≡ status_of e

-- bytes that are no text are refused before anything else
abbrev pub IsTextStatus : List ℕ → Option Error → ℕ → Type 0
IsTextStatus bytes e status = (¬ IsUtf8 bytes → status ≡ INVALID_UTF8)
    × (IsUtf8 bytes → IsStatus e status)

-- so is a number that is no character
abbrev pub IsCharStatus : ℕ → Option Error → ℕ → Type 0
IsCharStatus c e status = (¬ IsScalar c → status ≡ NOT_A_CHARACTER)
    × (IsScalar c → IsStatus e status)

-- a number that is no set of line breaks is refused before the text
abbrev pub IsMakerStatus : Option LineBreaks → List ℕ → ℕ → Type 0
IsMakerStatus None bytes status = status ≡ UNKNOWN_BREAK_SET
IsMakerStatus (Some breaks) bytes status = IsTextStatus bytes None status
