-- Files in an encoding: what a call makes of their bytes, and the bytes that it writes of a text.
use Rattle.std.specs.Prelude.{◌≡◌, ◌⊎◌, ℕ, ◌+◌, ◌-◌, ◌*◌, ◌^◌, ◌<◌, ◌≤◌, ◌==◌, min, false, if◌then◌else◌, List, [], ◌∷◌, ◌++◌, length, take, drop, nat_eq, Option, None, Some, Result, Ok, Err, ⊤, MatchOption, true}
use Rattle.std.specs.Char.{encode_utf8}
use Rattle.std.specs.Char.Escape.{encode_utf16}
use Rattle.std.specs.List.{flat_map, starts_with}
use Rattle.std.specs.Str.{all_scalars, IsUtf8}
use Rattle.std.specs.Str.Lossy.{utf8_valid_len}
use Rattle.rope_text.specs.declared.line_breaks.LineBreaks.{LineBreaks}
use Rattle.rope_text.specs.Text.{byte_len, utf16_len}
use Rattle.rope_files.specs.Encodings.{encode, mark_of, marked_encoding, layout_of, low_first, high_first}
use Rattle.rope_files.specs.Layouts.{IsUnpaired, EndsHalf, EndsUnpaired}
use Rattle.rope_files.specs.Writing.{unencodable}
use Rattle.rope_files.specs.declared.encoding.Encoding.{Encoding}
use Rattle.rope_files.specs.declared.encoding.Encoding.TheVariants.{Utf8, Utf8Bom, Utf16Le, Utf16LeBom, Utf16Be, Utf16BeBom, Latin1}
use Rattle.ropey.specs.View.{RopeView, IsBuilt}
use Rattle.ropey_c.specs.declared.encodings.Fault.{Fault}
use Rattle.ropey_c.specs.declared.encodings.Fault.TheVariants.{NoMark, InvalidUtf8, UnpairedSurrogate, HalfCodeUnit, TooLong, OutOfMemory}
use Rattle.ropey_c.specs.declared.status.TheConstants.{OK, NO_ROPE_HELD, UNKNOWN_BREAK_SET, UNKNOWN_ENCODING, NO_MARK, INVALID_UTF8, UNPAIRED_SURROGATE, HALF_CODE_UNIT, TOO_LONG, OUT_OF_MEMORY, BUFFER_TOO_SMALL, UNENCODABLE, FILE_UTF8, FILE_UTF8_BOM, FILE_UTF16_LE, FILE_UTF16_LE_BOM, FILE_UTF16_BE, FILE_UTF16_BE_BOM, FILE_LATIN1, FILE_BY_MARK}

-- the encoding that a number stands for, and the other direction
abbrev pub given_file_encoding : ℕ → Option Encoding
given_file_encoding number =
    if number == FILE_UTF8 then Some Utf8
    else if number == FILE_UTF8_BOM then Some Utf8Bom
    else if number == FILE_UTF16_LE then Some Utf16Le
    else if number == FILE_UTF16_LE_BOM then Some Utf16LeBom
    else if number == FILE_UTF16_BE then Some Utf16Be
    else if number == FILE_UTF16_BE_BOM then Some Utf16BeBom
    else if number == FILE_LATIN1 then Some Latin1
    else None

abbrev pub number_of_encoding : Encoding → ℕ
number_of_encoding Utf8 = FILE_UTF8
number_of_encoding Utf8Bom = FILE_UTF8_BOM
number_of_encoding Utf16Le = FILE_UTF16_LE
number_of_encoding Utf16LeBom = FILE_UTF16_LE_BOM
number_of_encoding Utf16Be = FILE_UTF16_BE
number_of_encoding Utf16BeBom = FILE_UTF16_BE_BOM
number_of_encoding Latin1 = FILE_LATIN1

-- the encoding in which bytes are read: the one that a number stands for, or that of their mark
abbrev pub encoding_of_bytes : ℕ → List ℕ → Option Encoding
encoding_of_bytes number bytes =
    if number == FILE_BY_MARK then Some (marked_encoding bytes) else given_file_encoding number

-- the status of a fault, and the offset that a call writes, where it wrote another before
abbrev pub status_of_fault : Fault → ℕ
status_of_fault NoMark = NO_MARK
status_of_fault (InvalidUtf8 at) = INVALID_UTF8
status_of_fault (UnpairedSurrogate at) = UNPAIRED_SURROGATE
status_of_fault (HalfCodeUnit at) = HALF_CODE_UNIT
status_of_fault TooLong = TOO_LONG
status_of_fault OutOfMemory = OUT_OF_MEMORY

abbrev pub offset_of_fault : Fault → ℕ → ℕ
offset_of_fault NoMark old = old
offset_of_fault (InvalidUtf8 at) old = at
offset_of_fault (UnpairedSurrogate at) old = at
offset_of_fault (HalfCodeUnit at) old = at
offset_of_fault TooLong old = old
offset_of_fault OutOfMemory old = old

-- the bytes before an offset are the file of a text
abbrev pub IsTextBefore : Encoding → List ℕ → ℕ → Type 0
IsTextBefore encoding bytes at =
    (text : List ℕ) × (all_scalars text ≡ true) × (take at bytes ≡ encode encoding text)

-- a fault of bytes in an encoding
abbrev pub IsFault : Encoding → List ℕ → Fault → Type 0
IsFault encoding bytes NoMark = starts_with nat_eq bytes (mark_of encoding) ≡ false
IsFault encoding bytes (InvalidUtf8 at) = (layout_of encoding ≡ None)
    × (starts_with nat_eq bytes (mark_of encoding) ≡ true)
    × (¬ IsUtf8 (drop (length (mark_of encoding)) bytes))
    × (at ≡ length (mark_of encoding)
    + utf8_valid_len (drop (length (mark_of encoding)) bytes))
IsFault encoding bytes (UnpairedSurrogate at) = IsTextBefore encoding bytes at
    × MatchOption (layout_of encoding) ⊥
    (λ layout. IsUnpaired layout (drop at bytes) ⊎ EndsUnpaired layout (drop at bytes))
IsFault encoding bytes (HalfCodeUnit at) = IsTextBefore encoding bytes at
    × MatchOption (layout_of encoding) ⊥ (λ layout. EndsHalf layout (drop at bytes))
IsFault encoding bytes TooLong = (at : ℕ) × (text : List ℕ) × (all_scalars text ≡ true)
    × (take at bytes ≡ encode encoding text) × (2 ^ 63 ≤ byte_len text)
IsFault encoding bytes OutOfMemory = ⊤

-- what bytes in an encoding are: the file of a rope's text, or none
abbrev pub IsRead : Encoding → LineBreaks → List ℕ → Result RopeView Fault → Type 0
IsRead encoding breaks bytes (Ok rope) = (bytes ≡ encode encoding rope.text) × IsBuilt breaks rope
IsRead encoding breaks bytes (Err fault) = IsFault encoding bytes fault

-- a rope is put into the handle and its encoding is written, or the offset of a fault is
abbrev pub ReportsRead : Encoding → Result RopeView Fault → ℕ → Option RopeView → Option RopeView
    → ℕ → ℕ → ℕ → ℕ → Type 0
ReportsRead encoding (Ok rope) status old new found_old found offset_old offset =
    (status ≡ OK) × (new ≡ Some rope) × (found ≡ number_of_encoding encoding)
    × (offset ≡ offset_old)
ReportsRead encoding (Err fault) status old new found_old found offset_old offset =
    (status ≡ status_of_fault fault) × (new ≡ old) × (found ≡ found_old)
    × (offset ≡ offset_of_fault fault offset_old)

-- what a call makes of bytes, if the numbers stand for a set of line breaks and an encoding
abbrev pub ReadsAs : Option LineBreaks → Option Encoding → List ℕ → ℕ → Option RopeView
    → Option RopeView → ℕ → ℕ → ℕ → ℕ → Type 0
ReadsAs None encoding bytes status old new found_old found offset_old offset =
    (status ≡ UNKNOWN_BREAK_SET) × (new ≡ old) × (found ≡ found_old) × (offset ≡ offset_old)
ReadsAs (Some breaks) None bytes status old new found_old found offset_old offset =
    (status ≡ UNKNOWN_ENCODING) × (new ≡ old) × (found ≡ found_old) × (offset ≡ offset_old)
ReadsAs (Some breaks) (Some encoding) bytes status old new found_old found offset_old offset =
    (read : Result RopeView Fault) × IsRead encoding breaks bytes read
    × ReportsRead encoding read status old new found_old found offset_old offset

-- the bytes of a character after the mark
abbrev pub spelled : Encoding → ℕ → List ℕ
spelled Utf8 c = encode_utf8 c
spelled Utf8Bom c = encode_utf8 c
spelled Utf16Le c = flat_map low_first (encode_utf16 c)
spelled Utf16LeBom c = flat_map low_first (encode_utf16 c)
spelled Utf16Be c = flat_map high_first (encode_utf16 c)
spelled Utf16BeBom c = flat_map high_first (encode_utf16 c)
spelled Latin1 c = c ∷ []

-- how many bytes a file has after its mark
abbrev pub body_len : Encoding → List ℕ → ℕ
body_len Utf8 text = byte_len text
body_len Utf8Bom text = byte_len text
body_len Utf16Le text = 2 * utf16_len text
body_len Utf16LeBom text = 2 * utf16_len text
body_len Utf16Be text = 2 * utf16_len text
body_len Utf16BeBom text = 2 * utf16_len text
body_len Latin1 text = length text

-- the file of a text is written to the front of a buffer that has room for it, unless the encoding
-- has no bytes for a character, whose index is written then. The number of bytes, which stops at
-- `usize::MAX`, is written either way
pub record WritesText (encoding : Encoding) (text : List ℕ) (status : ℕ) (old new : List ℕ)
    (len index_old index : ℕ) : Type 0 where
  pub len_is : len ≡ min (length (encode encoding text)) (2 ^ 64 - 1)
  pub small : length old < length (encode encoding text)
      → (status ≡ BUFFER_TOO_SMALL) × (new ≡ old) × (index ≡ index_old)
  pub fits : length (encode encoding text) ≤ length old → MatchOption (unencodable encoding text)
      ((status ≡ OK) × (new ≡ encode encoding text ++ drop (length (encode encoding text)) old)
      × (index ≡ index_old))
      (λ first. (status ≡ UNENCODABLE) × (new ≡ old) × (index ≡ first))

abbrev pub WritesAs : Option RopeView → Option Encoding → ℕ → List ℕ → List ℕ → ℕ → ℕ → ℕ → ℕ
    → Type 0
WritesAs None encoding status old new len_old len index_old index =
    (status ≡ NO_ROPE_HELD) × (new ≡ old) × (len ≡ len_old) × (index ≡ index_old)
WritesAs (Some rope) None status old new len_old len index_old index =
    (status ≡ UNKNOWN_ENCODING) × (new ≡ old) × (len ≡ len_old) × (index ≡ index_old)
WritesAs (Some rope) (Some encoding) status old new len_old len index_old index =
    WritesText encoding rope.text status old new len index_old index
