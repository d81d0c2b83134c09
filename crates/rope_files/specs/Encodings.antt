-- The bytes of a text in each encoding.
use Rattle.std.specs.Prelude.{ℕ, ◌/◌, ◌%◌, List, [], ◌∷◌, ◌++◌, nat_eq, Option, None, Some, if◌then◌else◌}
use Rattle.std.specs.Char.Escape.{encode_utf16}
use Rattle.std.specs.List.{flat_map, starts_with}
use Rattle.std.specs.Str.{encode_utf8_all}
use Rattle.rope_files.specs.declared.encoding.Encoding.{Encoding}
use Rattle.rope_files.specs.declared.encoding.Encoding.TheVariants.{Utf8, Utf8Bom, Utf16Le, Utf16LeBom, Utf16Be, Utf16BeBom, Latin1}
use Rattle.rope_files.specs.declared.layout.ByteOrder.TheVariants.{Little, Big}
use Rattle.rope_files.specs.declared.layout.Layout.{Layout}
use Rattle.rope_files.specs.declared.layout.Layout.TheVariants.{Bytes, CodeUnits}

-- the two bytes of a code unit: the low one first, and the high one first
abbrev pub low_first : ℕ → List ℕ
low_first unit = unit % 0x100 ∷ unit / 0x100 ∷ []

abbrev pub high_first : ℕ → List ℕ
high_first unit = unit / 0x100 ∷ unit % 0x100 ∷ []

-- UTF-16: each character's one or two code units, and each code unit's two bytes
abbrev pub encode_utf16_le : List ℕ → List ℕ
encode_utf16_le text = flat_map (λ c. flat_map low_first (encode_utf16 c)) text

abbrev pub encode_utf16_be : List ℕ → List ℕ
encode_utf16_be text = flat_map (λ c. flat_map high_first (encode_utf16 c)) text

-- Latin-1: each character's number, as a byte
abbrev pub encode_latin1 : List ℕ → List ℕ
encode_latin1 text = flat_map (λ c. c ∷ []) text

-- the byte order mark that files in this encoding begin with
abbrev pub mark_of : Encoding → List ℕ
mark_of Utf8 = []
mark_of Utf8Bom = 0xEF ∷ 0xBB ∷ 0xBF ∷ []
mark_of Utf16Le = []
mark_of Utf16LeBom = 0xFF ∷ 0xFE ∷ []
mark_of Utf16Be = []
mark_of Utf16BeBom = 0xFE ∷ 0xFF ∷ []
mark_of Latin1 = []

-- the bytes of a text after the mark
abbrev pub encode_unmarked : Encoding → List ℕ → List ℕ
encode_unmarked Utf8 text = encode_utf8_all text
encode_unmarked Utf8Bom text = encode_utf8_all text
encode_unmarked Utf16Le text = encode_utf16_le text
encode_unmarked Utf16LeBom text = encode_utf16_le text
encode_unmarked Utf16Be text = encode_utf16_be text
encode_unmarked Utf16BeBom text = encode_utf16_be text
encode_unmarked Latin1 text = encode_latin1 text

-- the bytes of a file of this text
abbrev pub encode : Encoding → List ℕ → List ℕ
encode encoding text = mark_of encoding ++ encode_unmarked encoding text

-- the encoding whose mark the bytes begin with, or UTF-8
abbrev pub marked_encoding : List ℕ → Encoding
marked_encoding bytes =
    if starts_with nat_eq bytes (mark_of Utf8Bom) then Utf8Bom
    else if starts_with nat_eq bytes (mark_of Utf16LeBom) then Utf16LeBom
    else if starts_with nat_eq bytes (mark_of Utf16BeBom) then Utf16BeBom
    else Utf8

-- how the bytes of a character lie; UTF-8 is left to others
abbrev pub layout_of : Encoding → Option Layout
layout_of Utf8 = None
layout_of Utf8Bom = None
layout_of Utf16Le = Some (CodeUnits Little)
layout_of Utf16LeBom = Some (CodeUnits Little)
layout_of Utf16Be = Some (CodeUnits Big)
layout_of Utf16BeBom = Some (CodeUnits Big)
layout_of Latin1 = Some Bytes
