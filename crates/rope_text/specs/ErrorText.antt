-- The texts of errors.
use Rattle.std.specs.Prelude.{ℕ, List, [], ◌++◌, codes, None, Some, Option}
use Rattle.std.specs.Fmt.{decimal}
use Rattle.rope_text.specs.declared.error.Error.{Error}
use Rattle.rope_text.specs.declared.error.Error.TheVariants.{ByteIndexOutOfBounds, CharIndexOutOfBounds, LineIndexOutOfBounds, Utf16IndexOutOfBounds, ByteIndexNotCharBoundary, ByteRangeNotCharBoundary, ByteRangeInvalid, CharRangeInvalid, ByteRangeOutOfBounds, CharRangeOutOfBounds, TooLong, OutOfMemory, LineBreaksDiffer}

-- a bound as printed: empty if it is open
abbrev pub bound_text : Option ℕ → List ℕ
bound_text None = []
bound_text (Some n) = decimal n

-- a range as printed
abbrev pub range_text : Option ℕ → Option ℕ → List ℕ
range_text start end = bound_text start ++ (codes ".." ++ bound_text end)

-- the text that an error prints
abbrev pub error_text : Error → List ℕ
error_text (ByteIndexOutOfBounds i n) = codes "Byte index out of bounds: byte index "
    ++ (decimal i ++ (codes ", Rope/RopeSlice byte length " ++ decimal n))
error_text (CharIndexOutOfBounds i n) = codes "Char index out of bounds: char index "
    ++ (decimal i ++ (codes ", Rope/RopeSlice char length " ++ decimal n))
error_text (LineIndexOutOfBounds i n) = codes "Line index out of bounds: line index "
    ++ (decimal i ++ (codes ", Rope/RopeSlice line count " ++ decimal n))
error_text (Utf16IndexOutOfBounds i n) =
    codes "Utf16 code-unit index out of bounds: utf16 index "
    ++ (decimal i ++ (codes ", Rope/RopeSlice utf16 length " ++ decimal n))
error_text (ByteIndexNotCharBoundary i) =
    codes "Byte index is not a valid char boundary: byte index " ++ decimal i
error_text (ByteRangeNotCharBoundary a b) =
    codes "Byte range does not align with char boundaries: range " ++ range_text a b
error_text (ByteRangeInvalid a b) = codes "Invalid byte range "
    ++ (decimal a ++ (codes ".." ++ (decimal b ++ codes ": start must be <= end")))
error_text (CharRangeInvalid a b) = codes "Invalid char range "
    ++ (decimal a ++ (codes ".." ++ (decimal b ++ codes ": start must be <= end")))
error_text (ByteRangeOutOfBounds a b n) =
    codes "Byte range out of bounds: byte range "
    ++ (range_text a b ++ (codes ", Rope/RopeSlice byte length " ++ decimal n))
error_text (CharRangeOutOfBounds a b n) =
    codes "Char range out of bounds: char range "
    ++ (range_text a b ++ (codes ", Rope/RopeSlice char length " ++ decimal n))
error_text TooLong = codes "Text would be longer than isize::MAX bytes"
error_text OutOfMemory = codes "Out of memory"
error_text LineBreaksDiffer = codes "Ropes have different line breaks"
