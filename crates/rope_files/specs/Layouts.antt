-- Single characters in UTF-16 and Latin-1, and parts of them.
use Rattle.std.specs.Prelude.{◌≡◌, ℕ, ◌+◌, ◌*◌, ◌<◌, ◌≤◌, ◌⊎◌, false, IsTrue, List, [], ◌∷◌, length, take, drop, slice_index, Option, None, Some}
use Rattle.std.specs.Char.{IsScalar, encode_utf8}
use Rattle.std.specs.Char.Escape.{encode_utf16}
use Rattle.std.specs.Char.Utf16.{is_high_surrogate, is_low_surrogate}
use Rattle.std.specs.List.{flat_map}
use Rattle.std.specs.Str.{encode_utf8_all}
use Rattle.rope_files.specs.Encodings.{low_first, high_first}
use Rattle.rope_files.specs.declared.layout.ByteOrder.{ByteOrder}
use Rattle.rope_files.specs.declared.layout.ByteOrder.TheVariants.{Little, Big}
use Rattle.rope_files.specs.declared.layout.Front.{Front}
use Rattle.rope_files.specs.declared.layout.Front.TheVariants.{Char, Part, Unpaired}
use Rattle.rope_files.specs.declared.layout.Layout.{Layout}
use Rattle.rope_files.specs.declared.layout.Layout.TheVariants.{Bytes, CodeUnits}

-- the bytes of a code unit, and of a character
abbrev pub unit_bytes : ByteOrder → ℕ → List ℕ
unit_bytes Little unit = low_first unit
unit_bytes Big unit = high_first unit

abbrev pub char_bytes : Layout → ℕ → List ℕ
char_bytes Bytes c = c ∷ []
char_bytes (CodeUnits order) c = flat_map (unit_bytes order) (encode_utf16 c)

-- the bytes of a text
abbrev pub laid_out : Layout → List ℕ → List ℕ
laid_out layout text = flat_map (char_bytes layout) text

-- the bytes of a text, which are those of UTF-8 where there is no layout
abbrev pub bytes_in : Option Layout → List ℕ → List ℕ
bytes_in None text = encode_utf8_all text
bytes_in (Some layout) text = laid_out layout text

-- the code unit that two bytes are
abbrev pub code_unit : ByteOrder → List ℕ → ℕ
code_unit Little bytes = slice_index bytes 0 + slice_index bytes 1 * 0x100
code_unit Big bytes = slice_index bytes 0 * 0x100 + slice_index bytes 1

-- the bytes end inside a code unit or inside a pair of them
abbrev pub IsPart : Layout → List ℕ → Type 0
IsPart Bytes bytes = ⊥
IsPart (CodeUnits order) bytes = (length bytes < 2)
    ⊎ (IsTrue (is_high_surrogate (code_unit order bytes)) × (2 ≤ length bytes) × (length bytes < 4))

-- the bytes begin with a second unit of a pair, or with a first one that is followed by no second
-- one
abbrev pub IsUnpaired : Layout → List ℕ → Type 0
IsUnpaired Bytes bytes = ⊥
IsUnpaired (CodeUnits order) bytes = (2 ≤ length bytes)
    × (IsTrue (is_low_surrogate (code_unit order bytes))
    ⊎ (IsTrue (is_high_surrogate (code_unit order bytes)) × (4 ≤ length bytes)
    × (is_low_surrogate (code_unit order (drop 2 bytes)) ≡ false)))

-- the first n bytes are those of the character c, which takes at most twice as many in UTF-8
pub record BeginsWith (layout : Layout) (bytes : List ℕ) (c n : ℕ) : Type 0 where
  pub scalar : IsScalar c
  pub first : take n bytes ≡ char_bytes layout c
  pub within : n ≤ length bytes
  pub some : 1 ≤ n
  pub most : length (encode_utf8 c) ≤ 2 * n

-- what some bytes begin with
abbrev pub Fronts : Layout → List ℕ → Front → Type 0
Fronts layout bytes (Char c n) = BeginsWith layout bytes c n
Fronts layout bytes Part = IsPart layout bytes
Fronts layout bytes Unpaired = IsUnpaired layout bytes

-- at the end of a file: half a code unit is left, or a first one of a pair and perhaps half of
-- another
abbrev pub EndsHalf : Layout → List ℕ → Type 0
EndsHalf Bytes bytes = ⊥
EndsHalf (CodeUnits order) bytes = length bytes ≡ 1

abbrev pub EndsUnpaired : Layout → List ℕ → Type 0
EndsUnpaired Bytes bytes = ⊥
EndsUnpaired (CodeUnits order) bytes = IsTrue (is_high_surrogate (code_unit order bytes))
    × (2 ≤ length bytes) × (length bytes < 4)
