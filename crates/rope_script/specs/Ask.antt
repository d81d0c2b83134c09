-- The reply to each query of a slice.
use Rattle.std.specs.Prelude.{◌≡◌, ℕ, Bool, List, length, map, nat_le, nat_lt, slice_get, MatchOption, MatchBool, Option, Some, None}
use Rattle.std.specs.Str.{chars, encode_utf8_all}
use Rattle.std.specs.String.{string_bytes}
use Rattle.rope_text.specs.declared.error.Error.{Error}
use Rattle.rope_text.specs.Compare.{text_cmp}
use Rattle.rope_text.specs.Content.{Content}
use Rattle.rope_text.specs.Conversions.{byte_to_char, byte_to_line, char_to_byte, char_to_line, char_to_utf16, utf16_to_char, line_to_byte, line_to_char}
use Rattle.rope_text.specs.Edit.{byte_index_error, char_index_error, line_index_error, utf16_index_error}
use Rattle.rope_text.specs.LineParts.{lines_of}
use Rattle.rope_text.specs.Lines.{line, line_count}
use Rattle.rope_text.specs.Lookup.{FoundChunk, found_chunk, chunk_index_at_byte, chunk_index_at_char, chunk_index_at_line_break, chunk_place_at_byte, chunk_place_at_char, chunk_place_at_line_break}
use Rattle.rope_text.specs.Position.{char_to_column, position_to_char, position_error}
use Rattle.rope_text.specs.Text.{byte_len, utf16_len}
use Rattle.rope_slice.specs.Found.{IsFoundChunk}
use Rattle.rope_script.specs.declared.script.Conv.{Conv}
use Rattle.rope_script.specs.declared.script.Conv.TheVariants.{ByteToChar, ByteToLine, CharToByte, CharToLine, CharToUtf16, Utf16ToChar, LineToByte, LineToChar}
use Rattle.rope_script.specs.declared.script.At.{At}
use Rattle.rope_script.specs.declared.script.At.TheVariants as at
use Rattle.rope_script.specs.declared.script.Unit as units
use Rattle.rope_script.specs.declared.script.Unit.TheVariants as unit
use Rattle.rope_script.specs.declared.script.Move.{Move}
use Rattle.rope_script.specs.declared.script.Query.{Query}
use Rattle.rope_script.specs.declared.script.Query.TheVariants as query
use Rattle.rope_script.specs.declared.script.Reply.{Reply}
use Rattle.rope_script.specs.declared.script.Reply.TheVariants as reply
use Rattle.rope_script.specs.Part.{part_of}
use Rattle.rope_script.specs.Walk.{IsByteItem, IsCharItem, IsTextItem, IsLineItem, Walks}

-- the converted index, and its error
abbrev pub conversion : Content → Conv → ℕ → ℕ
conversion c ByteToChar i = byte_to_char c.text i
conversion c ByteToLine i = byte_to_line c.breaks c.text i
conversion c CharToByte i = char_to_byte c.text i
conversion c CharToLine i = char_to_line c.breaks c.text i
conversion c CharToUtf16 i = char_to_utf16 c.text i
conversion c Utf16ToChar i = utf16_to_char c.text i
conversion c LineToByte i = line_to_byte c.breaks c.text i
conversion c LineToChar i = line_to_char c.breaks c.text i

abbrev pub conversion_error : Content → Conv → ℕ → Option Error
conversion_error c ByteToChar i = byte_index_error i (byte_len c.text)
conversion_error c ByteToLine i = byte_index_error i (byte_len c.text)
conversion_error c CharToByte i = char_index_error i (length c.text)
conversion_error c CharToLine i = char_index_error i (length c.text)
conversion_error c CharToUtf16 i = char_index_error i (length c.text)
conversion_error c Utf16ToChar i = utf16_index_error i (utf16_len c.text)
conversion_error c LineToByte i = line_index_error i (line_count c.breaks c.text)
conversion_error c LineToChar i = line_index_error i (line_count c.breaks c.text)

-- whether an index is valid for a chunk lookup: at most the length
abbrev pub is_inside : Content → At → ℕ → Bool
is_inside c at.Byte i = nat_le i (byte_len c.text)
is_inside c at.Char i = nat_le i (length c.text)
is_inside c at.LineBreak i = nat_le i (line_count c.breaks c.text)

-- the chunk that an index looks up, and the start of a cursor over the chunks for it
abbrev pub chunk_index : Content → At → ℕ → ℕ
chunk_index c at.Byte i = chunk_index_at_byte c.chunks i
chunk_index c at.Char i = chunk_index_at_char c.chunks i
chunk_index c at.LineBreak i = chunk_index_at_line_break c.breaks c.chunks i

abbrev pub chunk_place : Content → At → ℕ → ℕ
chunk_place c at.Byte i = chunk_place_at_byte c.chunks i
chunk_place c at.Char i = chunk_place_at_char c.chunks i
chunk_place c at.LineBreak i = chunk_place_at_line_break c.breaks c.chunks i

-- the error, if there is one, else this reply
abbrev pub refusal_or : Option Error → Reply → Reply
refusal_or (Some error) r = reply.Refused error
refusal_or None r = r

-- the reply has this text
abbrev pub IsTextReply : Reply → List ℕ → Type 0
IsTextReply (reply.Text s) text = chars (string_bytes s) ≡ text
IsTextReply _ text = ⊥

-- the reply has these texts, in order
abbrev pub IsTextsReply : Reply → List (List ℕ) → Type 0
IsTextsReply (reply.Texts v) texts = map (λ s. chars (string_bytes s)) v.items ≡ texts
IsTextsReply _ texts = ⊥

-- the reply has this chunk, and the counts before it
abbrev pub IsChunkReply : Reply → FoundChunk → Type 0
IsChunkReply (reply.Chunk s bytes characters count) found =
    IsFoundChunk found (chars (string_bytes s)) bytes characters count
IsChunkReply _ found = ⊥

-- the order of the slice against another one of these ropes: first the rope is looked up, then its
-- slice
abbrev pub Compares : List Content → Content → ℕ → Option (ℕ × ℕ) → Reply → Type 0
Compares ropes c other range r =
    MatchOption (slice_get ropes other) (r ≡ reply.NoRope)
    (λ rope. MatchOption (part_of rope range) (r ≡ reply.NoSlice)
    (λ part. r ≡ reply.Order (text_cmp c.text part.text)))

-- the reply to a cursor that starts at an index and makes these moves
abbrev pub AnswersWalk : Content → units.Unit → ℕ → List Move → Reply → Type 0
AnswersWalk c unit.Bytes i moves r =
    Walks IsByteItem (nat_le i (byte_len c.text)) (encode_utf8_all c.text) i moves r
AnswersWalk c unit.Chars i moves r = Walks IsCharItem (nat_le i (length c.text)) c.text i moves r
AnswersWalk c unit.Lines i moves r =
    Walks IsLineItem (nat_le i (line_count c.breaks c.text)) (lines_of c) i moves r
AnswersWalk c (unit.Chunks at) i moves r =
    Walks IsTextItem (is_inside c at i) c.chunks (chunk_place c at i) moves r

-- the reply to a query of a slice, given these ropes
abbrev pub Answers : List Content → Content → Query → Reply → Type 0
Answers ropes c query.Lens r =
    r ≡ reply.Lens (byte_len c.text) (length c.text) (line_count c.breaks c.text) (utf16_len c.text)
Answers ropes c query.Show r = IsTextReply r c.text
Answers ropes c query.Chunks r = IsTextsReply r c.chunks
Answers ropes c query.Breaks r = r ≡ reply.Breaks c.breaks
Answers ropes c (query.Convert conv i) r =
    r ≡ refusal_or (conversion_error c conv i) (reply.Number (conversion c conv i))
Answers ropes c (query.Byte i) r =
    MatchOption (slice_get (encode_utf8_all c.text) i) (r ≡ reply.Absent)
    (λ byte. r ≡ reply.Byte byte)
Answers ropes c (query.Char i) r =
    MatchOption (slice_get c.text i) (r ≡ reply.Absent) (λ character. r ≡ reply.Char character)
Answers ropes c (query.Line l) r =
    MatchBool (nat_lt l (line_count c.breaks c.text)) (IsTextReply r (line c.breaks c.text l))
    (r ≡ reply.Absent)
Answers ropes c (query.ChunkAt at i) r =
    MatchBool (is_inside c at i)
    (IsChunkReply r (found_chunk c.breaks c.chunks (chunk_index c at i))) (r ≡ reply.Absent)
Answers ropes c (query.Walk unit i moves) r = AnswersWalk c unit i moves.items r
Answers ropes c (query.Compare (other, range)) r = Compares ropes c other range r
Answers ropes c (query.ToPosition i) r =
    r ≡ refusal_or (char_index_error i (length c.text))
    (reply.Position (char_to_line c.breaks c.text i) (char_to_column c.breaks c.text i))
Answers ropes c (query.FromPosition l column) r =
    r ≡ refusal_or (position_error c.breaks c.text l column)
    (reply.Number (position_to_char c.breaks c.text l column))
