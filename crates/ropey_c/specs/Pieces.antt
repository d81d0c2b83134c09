-- Chunks in bulk, as C sees them.
use Rattle.std.specs.Prelude.{◌≡◌, ℕ, ◌+◌, ◌<◌, ◌≤◌, List, length, take, drop, map, reverse, min, Option, Some, None}
use Rattle.std.specs.Borrow.{Bor}
use Rattle.std.specs.Str.{chars, encode_utf8_all}
use Rattle.rope_text.specs.Text.{byte_len}
use Rattle.rope_text.specs.Lookup.{found_chunk, front_chunks, LieBefore, chunk_place_at_byte}
use Rattle.rope_text.specs.Conversions.{line_to_byte}
use Rattle.rope_text.specs.LineParts.{line_of}
use Rattle.rope_text.specs.Lines.{line_count}
use Rattle.ropey.specs.View.{RopeView, content}
use Rattle.ropey_c.specs.declared.status.TheConstants.{OK, NO_ROPE_HELD, BYTE_INDEX_OUT_OF_BOUNDS, LINE_INDEX_OUT_OF_BOUNDS}
use Rattle.ropey_c.specs.declared.lookups.Span.{Span}
use Rattle.ropey_c.specs.declared.pieces.Piece.{Piece}

-- the bytes of a piece, and how many they are, as functions
abbrev pub bytes_of : Piece → List ℕ
bytes_of piece = piece.text.now

abbrev pub len_of : Piece → ℕ
len_of piece = length piece.text.now

-- the bytes of a text that an iterator gave
abbrev pub bytes_at : Bor (List ℕ) → List ℕ
bytes_at text = encode_utf8_all (chars text.now)

-- as many of the chunks as there is room for were lent to the front, and the rest stayed
abbrev pub Fills : List (List ℕ) → List Piece → List Piece → ℕ → Type 0
Fills chunks old new count =
    (count ≡ min (length old) (length chunks))
    × (map bytes_of (take count new) ≡ map encode_utf8_all (take count chunks))
    × (map len_of (take count new) ≡ map byte_len (take count chunks))
    × (drop count new ≡ drop count old)

-- the same from the chunk that holds a byte on, with the bytes before it
abbrev pub FillsFrom : Option RopeView → ℕ → ℕ → List Piece → List Piece → ℕ → ℕ → ℕ → ℕ → Type 0
FillsFrom None i status old new count_old count before_old before = (status ≡ NO_ROPE_HELD)
    × (new ≡ old) × (count ≡ count_old) × (before ≡ before_old)
FillsFrom (Some rope) i status old new count_old count before_old before =
    (byte_len rope.text < i → (status ≡ BYTE_INDEX_OUT_OF_BOUNDS) × (new ≡ old)
    × (count ≡ count_old) × (before ≡ before_old))
    × (i ≤ byte_len rope.text → (status ≡ OK)
    × (before ≡ byte_len (front_chunks rope.chunks (chunk_place_at_byte rope.chunks i)))
    × Fills (drop (chunk_place_at_byte rope.chunks i) rope.chunks) old new count)

-- the chunks before the one that holds a byte, the nearest first, with the bytes before that one
abbrev pub FillsBefore : Option RopeView → ℕ → ℕ → List Piece → List Piece → ℕ → ℕ → ℕ → ℕ → Type 0
FillsBefore None i status old new count_old count before_old before = (status ≡ NO_ROPE_HELD)
    × (new ≡ old) × (count ≡ count_old) × (before ≡ before_old)
FillsBefore (Some rope) i status old new count_old count before_old before =
    (byte_len rope.text < i → (status ≡ BYTE_INDEX_OUT_OF_BOUNDS) × (new ≡ old)
    × (count ≡ count_old) × (before ≡ before_old))
    × (i ≤ byte_len rope.text → (status ≡ OK)
    × (before ≡ byte_len (front_chunks rope.chunks (chunk_place_at_byte rope.chunks i)))
    × Fills (reverse (take (chunk_place_at_byte rope.chunks i) rope.chunks)) old new count)

-- the chunks from a place on, with the bytes, the characters and the line breaks of the text before
-- the first of them, for an index
-- that is at most a length
abbrev pub FillsAt : Option RopeView → (RopeView → ℕ) → ℕ → (RopeView → ℕ) → ℕ → ℕ → List Piece
    → List Piece → ℕ → ℕ → ℕ → ℕ → ℕ → ℕ → ℕ → ℕ → Type 0
FillsAt None len i place missing status old new count_old count bytes_old bytes chars_old chars
    breaks_old breaks =
    (status ≡ NO_ROPE_HELD) × (new ≡ old) × (count ≡ count_old) × (bytes ≡ bytes_old)
    × (chars ≡ chars_old) × (breaks ≡ breaks_old)
FillsAt (Some rope) len i place missing status old new count_old count bytes_old bytes chars_old
    chars breaks_old breaks =
    (len rope < i → (status ≡ missing) × (new ≡ old) × (count ≡ count_old) × (bytes ≡ bytes_old)
    × (chars ≡ chars_old) × (breaks ≡ breaks_old))
    × (i ≤ len rope → (status ≡ OK)
    × LieBefore (found_chunk rope.breaks rope.chunks (place rope)) bytes chars breaks
    × Fills (drop (place rope) rope.chunks) old new count)

-- the bytes of a line, and the pieces of its text: the chunks, clipped to it
abbrev pub FillsLine : Option RopeView → ℕ → ℕ → List Piece → List Piece → ℕ → ℕ → Span → Span
    → Type 0
FillsLine None i status old new count_old count bytes_old bytes = (status ≡ NO_ROPE_HELD)
    × (new ≡ old) × (count ≡ count_old) × (bytes ≡ bytes_old)
FillsLine (Some rope) i status old new count_old count bytes_old bytes =
    (line_count rope.breaks rope.text ≤ i → (status ≡ LINE_INDEX_OUT_OF_BOUNDS) × (new ≡ old)
    × (count ≡ count_old) × (bytes ≡ bytes_old))
    × (i < line_count rope.breaks rope.text → (status ≡ OK)
    × (bytes.start ≡ line_to_byte rope.breaks rope.text i)
    × (bytes.end ≡ line_to_byte rope.breaks rope.text (i + 1))
    × Fills (line_of (content rope) i).chunks old new count)
