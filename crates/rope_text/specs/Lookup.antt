-- The chunk of a cutting that a lookup returns, and the counts before it.
use Rattle.std.specs.Prelude.{◌≡◌, ℕ, zero, suc, ◌+◌, ◌-◌, Bool, List, [], length, take, nat_le, ◌==◌, slice_index_or, if◌then◌else◌}
use Rattle.std.specs.List.{concat}
use Rattle.rope_text.specs.declared.line_breaks.LineBreaks.{LineBreaks}
use Rattle.rope_text.specs.Text.{byte_len, greatest}
use Rattle.rope_text.specs.Lines.{line_count}
use Rattle.rope_text.specs.Conversions.{char_to_line}
use Rattle.rope_text.specs.Sides.{Sides, at_place}

-- the least number up to n that passes the test, or n
abbrev pub least : (ℕ → Bool) → ℕ → ℕ
least test zero = 0
least test (suc n) = if test 0 then 0 else suc (least (λ k. test (suc k)) n)

-- the text of the first k chunks
abbrev pub front_chunks : List (List ℕ) → ℕ → List ℕ
front_chunks chunks k = concat (take k chunks)

-- the last chunk that starts at or before byte b: the chunk that contains it, and at the end the
-- last
unfoldable pub chunk_index_at_byte : List (List ℕ) → ℕ → ℕ
chunk_index_at_byte chunks b =
    greatest (λ k. nat_le (byte_len (front_chunks chunks k)) b) (length chunks - 1)

-- the last chunk that starts at or before character i
unfoldable pub chunk_index_at_char : List (List ℕ) → ℕ → ℕ
chunk_index_at_char chunks i =
    greatest (λ k. nat_le (length (front_chunks chunks k)) i) (length chunks - 1)

-- the first chunk that ends after k breaks of the whole text, or the last
unfoldable pub chunk_index_at_line_break : LineBreaks → List (List ℕ) → ℕ → ℕ
chunk_index_at_line_break breaks chunks k =
    least (λ j. nat_le k (char_to_line breaks (concat chunks)
    (length (front_chunks chunks (j + 1))))) (length chunks - 1)

-- the result of a lookup: a chunk, and the bytes, characters and breaks of the whole text before it
pub record FoundChunk : Type 0 where
  pub text : List ℕ
  pub bytes : ℕ
  pub chars : ℕ
  pub break_count : ℕ

-- the result for the k-th chunk; the empty text and zeros if there is no chunk
unfoldable pub found_chunk : LineBreaks → List (List ℕ) → ℕ → FoundChunk
found_chunk breaks chunks k = record {
  text = slice_index_or chunks k [];
  bytes = byte_len (front_chunks chunks k);
  chars = length (front_chunks chunks k);
  break_count = char_to_line breaks (concat chunks) (length (front_chunks chunks k));
}

-- the start of a cursor over the chunks: before the chunk that the lookup returns, or at the end
-- for the end of the text. The numbers returned with it are those of `found_chunk` there.
abbrev pub chunk_place_at_byte : List (List ℕ) → ℕ → ℕ
chunk_place_at_byte chunks b =
    if b == byte_len (concat chunks) then length chunks else chunk_index_at_byte chunks b

abbrev pub chunk_place_at_char : List (List ℕ) → ℕ → ℕ
chunk_place_at_char chunks i =
    if i == length (concat chunks) then length chunks else chunk_index_at_char chunks i

abbrev pub chunk_place_at_line_break : LineBreaks → List (List ℕ) → ℕ → ℕ
chunk_place_at_line_break breaks chunks k =
    if k == line_count breaks (concat chunks) then length chunks else chunk_index_at_line_break
    breaks chunks k

-- the numbers of bytes, characters and breaks of the whole text before a chunk
pub record LieBefore (found : FoundChunk) (bytes chars count : ℕ) : Type 0 where
  pub bytes_are : bytes ≡ found.bytes
  pub chars_are : chars ≡ found.chars
  pub count_is : count ≡ found.break_count

-- a cursor over the chunks before the k-th, or past the last, with the counts before it
pub record StandsAt (breaks : LineBreaks) (chunks : List (List ℕ)) (k : ℕ) (cursor : Sides (List ℕ))
    (bytes chars count : ℕ) : Type 0 where
  pub cursor_is : cursor ≡ at_place chunks k
  pub before : LieBefore (found_chunk breaks chunks k) bytes chars count
