-- The chunk that a lookup returns, by the sizes before the chunks.
use Rattle.std.proofs.Common.{◌≡◌, ℕ, zero, suc, ◌+◌, ◌-◌, ◌<◌, ◌≤◌, Bool, true, false, cond, nat_le, List, length, take, drop, ap, sym, ◌∙◌, arith, All}
use Rattle.std.specs.List.{concat}
use Rattle.std.proofs.lemmas.Bool.{cond-true, cond-false, le-leb, lt-leb}
use Rattle.std.proofs.lemmas.List.{take-append-drop, take-take}
use Rattle.rope_text.specs.declared.line_breaks.LineBreaks.{LineBreaks}
use Rattle.rope_text.specs.Text.{byte_len, greatest}
use Rattle.rope_text.specs.Breaks.{break_count}
use Rattle.rope_text.specs.Conversions.{char_to_line}
use Rattle.rope_text.specs.Cutting.{KeepsCrlf}
use Rattle.rope_text.specs.Lookup.{least, front_chunks, chunk_index_at_byte, chunk_index_at_char, chunk_index_at_line_break}
use Rattle.rope_text.proofs.Greatest.{greatest_is, greatest-le}
use Rattle.rope_text.proofs.Measures.{IsMeasure, IsMeasure-byte_len, IsMeasure-length}
use Rattle.rope_text.proofs.ConversionLaws.{char_to_line_end}
use Rattle.rope_text.proofs.JoinLaws.{char_to_line-append_left}
use Rattle.rope_text.proofs.CuttingLaws.{concat-append}
use Rattle.rope_text.proofs.ChunkLaws.{KeepsCrlf_before}

-- the first number that passes, or else the bound
pub least_is : (test : ℕ → Bool) (n i : ℕ) → i ≤ n → (i < n → test i ≡ true)
    → ((j : ℕ) → j < i → test j ≡ false) → least test n ≡ i
least_is test zero i l pass fail = omega arith
least_is test (suc n) zero l pass fail =
    cond-true (test 0) 0 (suc (least (λ k. test (suc k)) n)) (pass (omega arith))
least_is test (suc n) (suc i) l pass fail =
    cond-false (test 0) 0 (suc (least (λ k. test (suc k)) n)) (fail 0 (omega arith))
    ∙ ap suc (least_is (λ k. test (suc k)) n i (omega arith) (λ less. pass (omega arith))
    (λ j less. fail (suc j) (omega arith)))

pub least-le : (test : ℕ → Bool) (n : ℕ) → least test n ≤ n
least-le test zero = omega arith
least-le test (suc n) = go (test 0) (least-le (λ k. test (suc k)) n)
  where
    go : (b : Bool) → least (λ k. test (suc k)) n ≤ n
        → cond b 0 (suc (least (λ k. test (suc k)) n)) ≤ suc n
    go true l = omega arith
    go false l = omega arith

-- a chunk that is looked up is at most the last
pub chunk_index_at_byte-le : (chunks : List (List ℕ)) (b : ℕ)
    → chunk_index_at_byte chunks b ≤ length chunks - 1
unfolding chunk_index_at_byte
chunk_index_at_byte-le chunks b =
    greatest-le (λ k. nat_le (byte_len (front_chunks chunks k)) b) (length chunks - 1)

pub chunk_index_at_char-le : (chunks : List (List ℕ)) (i : ℕ)
    → chunk_index_at_char chunks i ≤ length chunks - 1
unfolding chunk_index_at_char
chunk_index_at_char-le chunks i =
    greatest-le (λ k. nat_le (length (front_chunks chunks k)) i) (length chunks - 1)

pub chunk_index_at_line_break-le : (breaks : LineBreaks) (chunks : List (List ℕ)) (k : ℕ)
    → chunk_index_at_line_break breaks chunks k ≤ length chunks - 1
unfolding chunk_index_at_line_break
chunk_index_at_line_break-le breaks chunks k =
    least-le (λ j. nat_le k (char_to_line breaks (concat chunks)
    (length (front_chunks chunks (j + 1))))) (length chunks - 1)

-- more chunks are as long, or longer
pub size-front_chunks : (size : List ℕ → ℕ) → IsMeasure size → (chunks : List (List ℕ)) (j k : ℕ)
    → j ≤ k → size (front_chunks chunks j) ≤ size (front_chunks chunks k)
size-front_chunks size m chunks j k l =
    let parts = ap concat (sym (take-append-drop j (take k chunks)))
    ∙ concat-append (take j (take k chunks)) (drop j (take k chunks)) in
    let whole = ap size parts
    ∙ m.joined (concat (take j (take k chunks))) (concat (drop j (take k chunks))) in
    let front = ap (λ ps. size (concat ps)) (take-take j k chunks l) in
    omega arith

module _ (size : List ℕ → ℕ) (m : IsMeasure size) where
  chunk_is : (chunks : List (List ℕ)) (n k : ℕ) → k < length chunks
      → size (front_chunks chunks k) ≤ n
      → (suc k < length chunks → n < size (front_chunks chunks (suc k)))
      → greatest (λ j. nat_le (size (front_chunks chunks j)) n) (length chunks - 1) ≡ k
  chunk_is chunks n k within starts ends =
      greatest_is (λ j. nat_le (size (front_chunks chunks j)) n) (length chunks - 1) k (omega arith)
      (le-leb _ _ starts)
      (λ j above inside. lt-leb _ _ (let next = ends (omega arith) in
      let more = size-front_chunks size m chunks (suc k) j above in omega arith))

-- the chunk that starts at or before the index and ends after it, or the last
pub chunk_index_at_byte_is : (chunks : List (List ℕ)) (b k : ℕ) → k < length chunks
    → byte_len (front_chunks chunks k) ≤ b
    → (suc k < length chunks → b < byte_len (front_chunks chunks (suc k)))
    → chunk_index_at_byte chunks b ≡ k
unfolding chunk_index_at_byte
chunk_index_at_byte_is chunks b k within starts ends =
    chunk_is byte_len IsMeasure-byte_len chunks b k within starts ends

pub chunk_index_at_char_is : (chunks : List (List ℕ)) (i k : ℕ) → k < length chunks
    → length (front_chunks chunks k) ≤ i
    → (suc k < length chunks → i < length (front_chunks chunks (suc k)))
    → chunk_index_at_char chunks i ≡ k
unfolding chunk_index_at_char
chunk_index_at_char_is chunks i k within starts ends =
    chunk_is length IsMeasure-length chunks i k within starts ends

-- where no CRLF is cut, the breaks of the whole before a chunk are the breaks of the chunks before
-- it
pub breaks_before : (breaks : LineBreaks) (chunks : List (List ℕ)) (k : ℕ)
    → All (λ chunk. 0 < length chunk) chunks → KeepsCrlf chunks
    → char_to_line breaks (concat chunks) (length (front_chunks chunks k))
    ≡ break_count breaks (front_chunks chunks k)
breaks_before breaks chunks k full kept =
    let parts = ap concat (sym (take-append-drop k chunks))
    ∙ concat-append (take k chunks) (drop k chunks) in
    ap (λ t. char_to_line breaks t (length (front_chunks chunks k))) parts
    ∙ char_to_line-append_left breaks (front_chunks chunks k) (concat (drop k chunks))
    (length (front_chunks chunks k)) (KeepsCrlf_before chunks k full kept) (omega arith)
    ∙ char_to_line_end breaks (front_chunks chunks k)
