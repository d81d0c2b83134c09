-- The chunk that a lookup returns: of a single chunk, and at a line break.
use Rattle.std.proofs.Common.{◌≡◌, ℕ, suc, ◌+◌, ◌-◌, ◌<◌, ◌≤◌, nat_le, List, [], ◌∷◌, ◌++◌, length, get_or, refl, sym, ap, ◌∙◌, arith, add-one, inl, inr, All}
use Rattle.std.specs.List.{concat}
use Rattle.std.proofs.lemmas.Bool.{cases_lt, le-leb, lt-leb, leb-true}
use Rattle.std.proofs.lemmas.List.{append-nil, length-append}
use Rattle.std.proofs.lemmas.Str.{length-le-encodes}
use Rattle.rope_text.specs.declared.line_breaks.LineBreaks.{LineBreaks}
use Rattle.rope_text.specs.Text.{byte_len, greatest}
use Rattle.rope_text.specs.Cutting.{single_chunk}
use Rattle.rope_text.specs.Lines.{line_start, line_count}
use Rattle.rope_text.specs.Conversions.{char_to_line}
use Rattle.rope_text.specs.Lookup.{found_chunk, front_chunks, chunk_index_at_byte, chunk_index_at_char, chunk_index_at_line_break}
use Rattle.rope_text.proofs.Greatest.{greatest-le, greatest_passes, greatest_above}
use Rattle.rope_text.proofs.Measures.{IsMeasure-byte_len, IsMeasure-length}
use Rattle.rope_text.proofs.ConversionLaws.{char_to_line_start, char_to_line-line_start}
use Rattle.rope_text.proofs.SliceLaws.{char_to_line-drop, char_to_line_early}
use Rattle.rope_text.proofs.LineLaws.{line_start-le-length, line_start_past}
use Rattle.rope_text.proofs.ChunkLaws.{before, before_more}
use Rattle.rope_text.proofs.LookupLaws.{least_is, size-front_chunks, chunk_index_at_char_is}
use Rattle.rope_slice.specs.Found.{IsFoundChunk}
use Rattle.rope_slice.proofs.ClippedChunks.{front_less}

single_first : (text : List ℕ) → get_or (single_chunk text) 0 [] ≡ text
single_first [] = refl
single_first (c ∷ text) = refl

pub byte_index_single : (text : List ℕ) (n : ℕ) → chunk_index_at_byte (single_chunk text) n ≡ 0
unfolding chunk_index_at_byte
byte_index_single [] n = refl
byte_index_single (c ∷ text) n = refl

pub char_index_single : (text : List ℕ) (i : ℕ) → chunk_index_at_char (single_chunk text) i ≡ 0
unfolding chunk_index_at_char
char_index_single [] i = refl
char_index_single (c ∷ text) i = refl

pub break_index_single : (breaks : LineBreaks) (text : List ℕ) (k : ℕ)
    → chunk_index_at_line_break breaks (single_chunk text) k ≡ 0
unfolding chunk_index_at_line_break
break_index_single breaks [] k = refl
break_index_single breaks (c ∷ text) k = refl

-- a single chunk is found with nothing before it; with no chunk the empty text is
pub found_single : (breaks : LineBreaks) (text chunk : List ℕ) (k : ℕ) → k ≡ 0 → chunk ≡ text
    → IsFoundChunk (found_chunk breaks (single_chunk text) k) chunk 0 0 0
unfolding found_chunk
found_single breaks text chunk k first same =
    rw first record {
      text_is = same ∙ sym (single_first text);
      bytes_are = refl;
      chars_are = refl;
      count_is = sym (char_to_line_start breaks (concat (single_chunk text)));
    }

-- the chunk that a lookup of a character returns starts there or before, and ends after it, unless
-- it is the last
pub record HoldsChar (chunks : List (List ℕ)) (i k : ℕ) : Type 0 where
  pub within : k ≤ length chunks - 1
  pub starts : length (front_chunks chunks k) ≤ i
  pub ends : suc k < length chunks → i < length (front_chunks chunks (suc k))

pub holds_char : (chunks : List (List ℕ)) (i : ℕ)
    → HoldsChar chunks i (chunk_index_at_char chunks i)
unfolding chunk_index_at_char
holds_char chunks i =
    let k : ℕ = greatest (λ k. nat_le (length (front_chunks chunks k)) i) (length chunks - 1) in
    record {
      within = greatest-le (λ k. nat_le (length (front_chunks chunks k)) i) (length chunks - 1);
      starts = leb-true _ _ (greatest_passes (λ k. nat_le (length (front_chunks chunks k)) i)
          (length chunks - 1) (le-leb 0 i (omega arith)));
      ends = λ more. elim (cases_lt i (length (front_chunks chunks (suc k)))) [
        | inl over ↦ over
        | inr fits ↦ absurd (omega (
          arith,
          greatest_above (λ k. nat_le (length (front_chunks chunks k)) i)
              (length chunks - 1) (suc k) (omega arith) (le-leb _ _ fits),
        ))
      ];
    }

pub char_to_line-mono : (breaks : LineBreaks) (text : List ℕ) (i j : ℕ) → i ≤ j → i ≤ length text
    → char_to_line breaks text i ≤ char_to_line breaks text j
char_to_line-mono breaks text i j l within =
    let on : i + (j - i) ≡ j = omega arith in
    let later = rw on at (char_to_line-drop breaks text i (j - i) within) in
    omega arith

-- a front with one chunk or more has a character
some_front : (chunks : List (List ℕ)) (k : ℕ) → All (λ chunk. 0 < length chunk) chunks
    → k < length chunks → 0 < length (front_chunks chunks (suc k))
some_front chunks k full l =
    omega (
      arith,
      ap length (before_more chunks k l),
      length-append (before chunks k) (get_or chunks k []),
      full k [] l,
    )

-- the first chunk by whose end k breaks have ended holds the last character of the k-th
pub line_break_index : (breaks : LineBreaks) (chunks : List (List ℕ)) (k : ℕ)
    → All (λ chunk. 0 < length chunk) chunks
    → chunk_index_at_line_break breaks chunks k
    ≡ chunk_index_at_char chunks (line_start breaks (concat chunks) k - 1)
unfolding chunk_index_at_line_break
line_break_index breaks chunks k full =
    let text : List ℕ = concat chunks in
    let end : ℕ = line_start breaks text k in
    let j : ℕ = chunk_index_at_char chunks (end - 1) in
    let h = holds_char chunks (end - 1) in
    let in_text = line_start-le-length breaks text k in
    least_is (λ i. nat_le k (char_to_line breaks text (length (front_chunks chunks (i + 1)))))
    (length chunks - 1) j h.within
    (λ less.
    let more : suc j < length chunks = omega arith in
    let part = front_less chunks j full more in
    let after : end ≤ length (front_chunks chunks (suc j)) = omega (arith, h.ends more) in
    let line : char_to_line breaks text end ≡ k =
    char_to_line-line_start breaks text k (elim (cases_lt k (line_count breaks text)) [
      | inl inside ↦ inside
      | inr past ↦ absurd (omega (arith, line_start_past breaks text k (omega arith), h.ends more))
    ]) in
    rw (add-one j) (le-leb _ _
    (omega (
      arith,
      char_to_line-mono breaks text end (length (front_chunks chunks (suc j))) after
          in_text,
    ))))
    (λ i before_it.
    let some = some_front chunks i full (omega (arith, h.within)) in
    let upto = size-front_chunks length IsMeasure-length chunks (suc i) j before_it in
    rw (add-one i) (lt-leb _ _
    (char_to_line_early breaks text k (length (front_chunks chunks (suc i)))
    (omega (arith, h.starts)))))

-- the first chunk is the text exactly where there is no other
pub first_index : (x : List ℕ) (chunks : List (List ℕ)) → 0 < length x
    → chunk_index_at_char (x ∷ chunks) 0 ≡ 0
first_index x chunks some =
    chunk_index_at_char_is (x ∷ chunks) 0 0 (omega arith) (omega arith)
    (λ _. omega (arith, length-append x []))

pub only_chunk : (chunks : List (List ℕ)) (chunk : List ℕ) → All (λ chunk. 0 < length chunk) chunks
    → chunk ≡ get_or chunks (chunk_index_at_char chunks 0) [] → length chunks ≤ 1
    → chunk ≡ concat chunks
only_chunk [] chunk full first one = first
only_chunk (x ∷ []) chunk full first one = first
    ∙ ap (λ k. get_or (x ∷ []) k []) (first_index x [] (full 0 [] (omega arith)))
    ∙ sym (append-nil x)
only_chunk (x ∷ y ∷ chunks) chunk full first one = absurd (omega arith)

pub whole_chunk : (chunks : List (List ℕ)) (chunk : List ℕ) → All (λ chunk. 0 < length chunk) chunks
    → chunk ≡ get_or chunks (chunk_index_at_char chunks 0) []
    → byte_len chunk ≡ byte_len (concat chunks) → length chunks ≤ 1
whole_chunk [] chunk full first same = omega arith
whole_chunk (x ∷ []) chunk full first same = omega arith
whole_chunk (x ∷ y ∷ chunks) chunk full first same =
    let is : chunk ≡ x = first
    ∙ ap (λ k. get_or (x ∷ y ∷ chunks) k [])
    (first_index x (y ∷ chunks) (full 0 [] (omega arith))) in
    absurd (omega (
      arith,
      ap byte_len is,
      IsMeasure-byte_len.joined x (y ++ concat chunks),
      IsMeasure-byte_len.joined y (concat chunks),
      full 1 [] (omega arith),
      length-le-encodes y,
    ))

pub found_text : (breaks : LineBreaks) (chunks : List (List ℕ)) (k : ℕ) (chunk : List ℕ)
    (bytes chars count : ℕ) → IsFoundChunk (found_chunk breaks chunks k) chunk bytes chars count
    → chunk ≡ get_or chunks k []
unfolding found_chunk
found_text breaks chunks k chunk bytes chars count f = f.text_is
