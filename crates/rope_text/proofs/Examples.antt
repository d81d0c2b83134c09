-- Worked examples, computed from the definitions.
use Rattle.std.proofs.Common.{◌≡◌, ℕ, List, [], ◌∷◌, map, length, refl, Some, None}
use Rattle.std.specs.Char.{encode_utf8}
use Rattle.rope_text.specs.declared.line_breaks.LineBreaks.TheVariants.{Lf, Unicode}
use Rattle.rope_text.specs.declared.error.Error.TheVariants.{CharRangeInvalid, CharRangeOutOfBounds, ByteRangeInvalid, ByteRangeOutOfBounds, ByteRangeNotCharBoundary, LineIndexOutOfBounds, Utf16IndexOutOfBounds}
use Rattle.rope_text.specs.Breaks.{break_ends}
use Rattle.rope_text.specs.Lines.{line_start, line_count, line}
use Rattle.rope_text.specs.Conversions.{byte_to_char, utf16_to_char, char_to_line}
use Rattle.rope_text.specs.Cutting.{clip}
use Rattle.rope_text.specs.Lookup.{chunk_index_at_byte, chunk_index_at_char, chunk_index_at_line_break, found_chunk, chunk_place_at_line_break}
use Rattle.rope_text.specs.Edit.{char_range_error, byte_range_error}
use Rattle.rope_text.specs.Compare.{text_cmp, blocks}
use Rattle.rope_text.specs.Read.{text_rest}
use Rattle.std.specs.declared.cmp.Ordering.TheVariants.{Less, Greater}
use Rattle.std.specs.Str.Lossy.{utf8_valid_len}
use Rattle.std.specs.Str.{chars, is_utf8}
use Rattle.std.proofs.Math.ListN.{replicate}
use Rattle.rope_text.specs.Position.{char_to_column, position_to_char, position_error}

-- "a\r\nb"
abbrev crlf_text : List ℕ
crlf_text = 97 ∷ 13 ∷ 10 ∷ 98 ∷ []

crlf_lines : map (char_to_line Unicode crlf_text) (0 ∷ 1 ∷ 2 ∷ 3 ∷ 4 ∷ []) ≡ 0 ∷ 0 ∷ 0 ∷ 1 ∷ 1 ∷ []
unfolding char_to_line break_ends
crlf_lines = refl

cut_lines : line_count Unicode (97 ∷ 13 ∷ []) ≡ 2
unfolding break_ends
cut_lines = refl

rest_line : line Unicode (10 ∷ 98 ∷ []) 0 ≡ 10 ∷ []
unfolding line_start break_ends
rest_line = refl

-- the frog, two code units
frog_units : map (utf16_to_char (0x1F438 ∷ [])) (0 ∷ 1 ∷ 2 ∷ []) ≡ 0 ∷ 0 ∷ 1 ∷ []
unfolding utf16_to_char
frog_units = refl

frog_bytes : map (byte_to_char (0x1F438 ∷ 98 ∷ [])) (0 ∷ 3 ∷ 4 ∷ 5 ∷ []) ≡ 0 ∷ 0 ∷ 1 ∷ 2 ∷ []
unfolding byte_to_char encode_utf8
frog_bytes = refl

-- "a🐸b\r\nこ": positions and back
abbrev mixed : List ℕ
mixed = 97 ∷ 0x1F438 ∷ 98 ∷ 13 ∷ 10 ∷ 0x3053 ∷ []

columns : map (char_to_column Unicode mixed) (0 ∷ 1 ∷ 2 ∷ 3 ∷ 4 ∷ 5 ∷ 6 ∷ []) ≡ 0 ∷ 1 ∷ 3 ∷ 4 ∷ 5
    ∷ 0 ∷ 1 ∷ []
unfolding char_to_line line_start break_ends
columns = refl

columns_back : map (position_to_char Unicode mixed 0) (0 ∷ 1 ∷ 2 ∷ 3 ∷ 4 ∷ 5 ∷ 6 ∷ []) ≡ 0 ∷ 1 ∷ 1
    ∷ 2 ∷ 3 ∷ 4 ∷ 5 ∷ []
unfolding utf16_to_char line_start break_ends
columns_back = refl

last_column : position_to_char Unicode mixed 1 1 ≡ 6
unfolding utf16_to_char line_start break_ends
last_column = refl

-- "a\rb" with LF alone
lf_column : char_to_column Lf (97 ∷ 13 ∷ 98 ∷ []) 3 ≡ 3
unfolding char_to_line line_start break_ends
lf_column = refl

-- chunks "ab" and "c\n", from 1 to 3
clipped : clip ((97 ∷ 98 ∷ []) ∷ (99 ∷ 10 ∷ []) ∷ []) 1 3 ≡ (98 ∷ []) ∷ (99 ∷ []) ∷ []
clipped = refl

clipped_seam : clip ((97 ∷ 98 ∷ []) ∷ (99 ∷ 10 ∷ []) ∷ []) 2 4 ≡ (99 ∷ 10 ∷ []) ∷ []
clipped_seam = refl

-- the child of each line break in "Hello\n", "\nthere\n", "world!\n"
abbrev children : List (List ℕ)
children = (72 ∷ 101 ∷ 108 ∷ 108 ∷ 111 ∷ 10 ∷ []) ∷ (10 ∷ 116 ∷ 104 ∷ 101 ∷ 114 ∷ 101 ∷ 10 ∷ [])
    ∷ (119 ∷ 111 ∷ 114 ∷ 108 ∷ 100 ∷ 33 ∷ 10 ∷ []) ∷ []

child_of_break : map (chunk_index_at_line_break Unicode children) (0 ∷ 1 ∷ 2 ∷ 3 ∷ 4 ∷ []) ≡ 0 ∷ 0
    ∷ 1 ∷ 1 ∷ 2 ∷ []
unfolding chunk_index_at_line_break char_to_line break_ends
child_of_break = refl

breaks_before : map (λ k.
    (found_chunk Unicode children (chunk_index_at_line_break Unicode children k)).break_count)
    (0 ∷ 1 ∷ 2 ∷ 3 ∷ 4 ∷ []) ≡ 0 ∷ 0 ∷ 1 ∷ 1 ∷ 3 ∷ []
unfolding found_chunk chunk_index_at_line_break char_to_line break_ends
breaks_before = refl

no_chunk : found_chunk Unicode [] (chunk_index_at_byte [] 0) ≡ record {
  text = [];
  bytes = 0;
  chars = 0;
  break_count = 0;
}
unfolding found_chunk chunk_index_at_byte char_to_line break_ends
no_chunk = refl

-- a range of six characters
ranges : (char_range_error (Some 9) (Some 7) 6 ≡ Some (CharRangeOutOfBounds (Some 9) (Some 7) 6))
    × (char_range_error (Some 4) (Some 2) 6 ≡ Some (CharRangeInvalid 4 2))
    × (char_range_error None (Some 0xFFFF_FFFF_FFFF_FFFF) 6
    ≡ Some (CharRangeOutOfBounds None (Some 0xFFFF_FFFF_FFFF_FFFF) 6))
ranges = (refl, refl, refl)

-- "é", whose bytes are C3 A9
byte_ranges : (byte_range_error (233 ∷ []) (Some 1) (Some 1)
    ≡ Some (ByteRangeNotCharBoundary (Some 1) (Some 1)))
    × (byte_range_error (233 ∷ []) None (Some 1) ≡ Some (ByteRangeNotCharBoundary None (Some 1)))
    × (byte_range_error (233 ∷ []) (Some 9) (Some 7) ≡ Some (ByteRangeInvalid 9 7))
    × (byte_range_error (233 ∷ []) (Some 3) None ≡ Some (ByteRangeOutOfBounds (Some 3) None 2))
unfolding byte_to_char encode_utf8
byte_ranges = (refl, refl, refl, refl)

positions_refused : (position_error Unicode mixed 0 7 ≡ Some (Utf16IndexOutOfBounds 7 6))
    × (position_error Unicode mixed 1 2 ≡ Some (Utf16IndexOutOfBounds 2 1))
    × (position_error Unicode mixed 2 0 ≡ Some (LineIndexOutOfBounds 2 2))
unfolding line_start break_ends
positions_refused = (refl, refl, refl)

-- the cursor over "abc" at its line 1, the end
end_place : chunk_place_at_line_break Unicode ((97 ∷ 98 ∷ 99 ∷ []) ∷ []) 1 ≡ 1
unfolding break_ends
end_place = refl

-- the order of bytes: "é" after "z" and before "こ"
ordered : (text_cmp (233 ∷ []) (122 ∷ []) ≡ Greater) × (text_cmp (233 ∷ []) (0x3053 ∷ []) ≡ Less)
unfolding encode_utf8
ordered = (refl, refl)

-- 61 FF: one byte of text, and a rest
refused_rest : text_rest (0x61 ∷ 0xFF ∷ []) ≡ 0xFF ∷ []
unfolding utf8_valid_len is_utf8 chars encode_utf8
refused_rest = refl

-- writes of blocks
block_sizes : map length (blocks (replicate 257 97)) ≡ 256 ∷ 1 ∷ []
block_sizes = refl

block_sizes_even : map length (blocks (replicate 256 97)) ≡ 256 ∷ []
block_sizes_even = refl

-- "Hello ", "there ", "world!": the chunk of a character, and the characters before it
abbrev words : List (List ℕ)
words = (72 ∷ 101 ∷ 108 ∷ 108 ∷ 111 ∷ 32 ∷ []) ∷ (116 ∷ 104 ∷ 101 ∷ 114 ∷ 101 ∷ 32 ∷ [])
    ∷ (119 ∷ 111 ∷ 114 ∷ 108 ∷ 100 ∷ 33 ∷ []) ∷ []

word_chunks : map (chunk_index_at_char words) (0 ∷ 5 ∷ 6 ∷ 11 ∷ 12 ∷ 17 ∷ 18 ∷ []) ≡ 0 ∷ 0 ∷ 1 ∷ 1
    ∷ 2 ∷ 2 ∷ 2 ∷ []
unfolding chunk_index_at_char
word_chunks = refl

chars_before : map (λ i. (found_chunk Unicode words (chunk_index_at_char words i)).chars)
    (0 ∷ 5 ∷ 6 ∷ 11 ∷ 12 ∷ 17 ∷ 18 ∷ []) ≡ 0 ∷ 0 ∷ 6 ∷ 6 ∷ 12 ∷ 12 ∷ 12 ∷ []
unfolding found_chunk chunk_index_at_char
chars_before = refl

-- "Hello\n", "\nthere\n", "world!\n": the chunk of a line break, and the breaks before it
abbrev lines_of_words : List (List ℕ)
lines_of_words = (72 ∷ 101 ∷ 108 ∷ 108 ∷ 111 ∷ 10 ∷ [])
    ∷ (10 ∷ 116 ∷ 104 ∷ 101 ∷ 114 ∷ 101 ∷ 10 ∷ []) ∷ (119 ∷ 111 ∷ 114 ∷ 108 ∷ 100 ∷ 33 ∷ 10 ∷ [])
    ∷ []

break_chunks : map (chunk_index_at_line_break Unicode lines_of_words) (0 ∷ 1 ∷ 2 ∷ 3 ∷ 4 ∷ []) ≡ 0
    ∷ 0 ∷ 1 ∷ 1 ∷ 2 ∷ []
unfolding chunk_index_at_line_break char_to_line break_ends
break_chunks = refl

line_breaks_before : map
    (λ k. (found_chunk Unicode lines_of_words
    (chunk_index_at_line_break Unicode lines_of_words k)).break_count) (0 ∷ 1 ∷ 2 ∷ 3 ∷ 4 ∷ []) ≡ 0
    ∷ 0 ∷ 1 ∷ 1 ∷ 3 ∷ []
unfolding found_chunk chunk_index_at_line_break char_to_line break_ends
line_breaks_before = refl
