-- The results of lookups and of cursors over chunks, also where an index or a range may be refused.
use Rattle.std.specs.Prelude.{◌≡◌, ◌≢◌, ℕ, ◌+◌, ◌<◌, ◌≤◌, List, length, Option, None, MatchOption}
use Rattle.std.specs.Borrow.{Bor}
use Rattle.std.specs.Str.{chars}
use Rattle.rope_text.specs.declared.error.Error.{Error}
use Rattle.rope_text.specs.Content.{Content}
use Rattle.rope_text.specs.Lookup.{FoundChunk, found_chunk, StandsAt, chunk_index_at_byte, chunk_index_at_char, chunk_index_at_line_break}
use Rattle.rope_text.specs.declared.line_breaks.LineBreaks.{LineBreaks}
use Rattle.rope_text.specs.Text.{byte_len}
use Rattle.rope_text.specs.Breaks.{break_count}
use Rattle.rope_leaf.specs.declared.search.Unit.{Unit}
use Rattle.rope_leaf.specs.declared.search.Unit.TheVariants.{Byte, Char, CodeUnit, LineBreak}
use Rattle.rope_text.specs.Sides.{Sides}

-- a chunk and three numbers are the result of the lookup
pub record IsFoundChunk (found : FoundChunk) (chunk : List ℕ) (bytes chars count : ℕ) : Type 0 where
  pub text_is : chunk ≡ found.text
  pub bytes_are : bytes ≡ found.bytes
  pub chars_are : chars ≡ found.chars
  pub count_is : count ≡ found.break_count

-- a chunk may be looked up by a byte or a character of the text, or by its end; or by a line break
abbrev pub MayHold : Unit → LineBreaks → List ℕ → ℕ → Type 0
MayHold Byte breaks text idx = idx ≤ byte_len text
MayHold Char breaks text idx = idx ≤ length text
MayHold CodeUnit breaks text idx = ⊥
MayHold LineBreak breaks text idx = idx < break_count breaks text

-- the index of that chunk
abbrev pub chunk_index : Unit → LineBreaks → List (List ℕ) → ℕ → ℕ
chunk_index Byte breaks chunks idx = chunk_index_at_byte chunks idx
chunk_index Char breaks chunks idx = chunk_index_at_char chunks idx
chunk_index CodeUnit breaks chunks idx = 0
chunk_index LineBreak breaks chunks idx = chunk_index_at_line_break breaks chunks (idx + 1)

-- a value with P, if the index is not past the length; else none
abbrev pub GivesWithin : {A : Type 0} → ℕ → ℕ → Option A → (A → Type 0) → Type 0
GivesWithin idx len result P = MatchOption result (len < idx) (λ x. (idx ≤ len) × P x)

-- a value with P, if there is no error; else none
abbrev pub GivesUnless : {A : Type 0} → Option Error → Option A → (A → Type 0) → Type 0
GivesUnless error result P = MatchOption result (error ≢ None) (λ x. (error ≡ None) × P x)

-- the k-th chunk, with the bytes, characters and line breaks before it
abbrev pub ShowsChunk : Content → ℕ → Bor (List ℕ) × ℕ × ℕ × ℕ → Type 0
ShowsChunk c k answer =
    IsFoundChunk (found_chunk c.breaks c.chunks k) (chars answer.0.now) answer.1 answer.2 answer.3

-- a cursor over the chunks before the k-th, with the bytes, characters and line breaks before it
abbrev pub StandsBefore : Content → ℕ → Sides (List ℕ) × ℕ × ℕ × ℕ → Type 0
StandsBefore c k answer = StandsAt c.breaks c.chunks k answer.0 answer.1 answer.2 answer.3
