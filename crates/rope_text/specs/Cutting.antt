-- Cuttings: texts cut into chunks, and the chunks of a slice.
use Rattle.std.specs.Prelude.{◌≡◌, ℕ, ◌-◌, ◌<◌, ◌≤◌, Bool, false, ◌&&◌, List, [], ◌∷◌, length, All, ⊤}
use Rattle.std.specs.List.{concat, slice_range}
use Rattle.rope_text.specs.declared.TheConstants.{MAX_BYTES}
use Rattle.rope_text.specs.Text.{byte_len}
use Rattle.rope_text.specs.Breaks.{begins_with_lf, ends_in_cr}

-- whether CR precedes LF at the seam of two texts
abbrev pub parts_crlf : List ℕ → List ℕ → Bool
parts_crlf before after = ends_in_cr before && begins_with_lf after

-- the chunks join to the text, and none is empty
pub record IsCutting (text : List ℕ) (chunks : List (List ℕ)) : Type 0 where
  pub joined : concat chunks ≡ text
  pub nonempty : All (λ chunk. 0 < length chunk) chunks

-- no chunk ends in CR before a text that begins with LF
abbrev pub KeepsCrlf : List (List ℕ) → Type 0
KeepsCrlf [] = ⊤
KeepsCrlf (chunk ∷ chunks) = (parts_crlf chunk (concat chunks) ≡ false) × KeepsCrlf chunks

-- the number of bytes of a chunk
abbrev pub IsChunkSize : ℕ → Type 0
IsChunkSize n = (1 ≤ n) × (n ≤ MAX_BYTES)

-- the chunks of a rope with this text: 1 to 984 bytes each, and no CR LF split
pub record IsRopeCutting (text : List ℕ) (chunks : List (List ℕ)) : Type 0 where
  pub joined : concat chunks ≡ text
  pub sized : All (λ chunk. IsChunkSize (byte_len chunk)) chunks
  pub whole : KeepsCrlf chunks

-- the chunk, unless it is empty, before the others
abbrev pub cons_nonempty : List ℕ → List (List ℕ) → List (List ℕ)
cons_nonempty [] chunks = chunks
cons_nonempty (c ∷ cs) chunks = (c ∷ cs) ∷ chunks

-- the chunks clipped to the characters from a up to b, empty ones dropped
abbrev pub clip : List (List ℕ) → ℕ → ℕ → List (List ℕ)
clip [] a b = []
clip (chunk ∷ chunks) a b =
    cons_nonempty (slice_range chunk a b) (clip chunks (a - length chunk) (b - length chunk))

-- the single chunk of a text that isn't cut, or none if it is empty
abbrev pub single_chunk : List ℕ → List (List ℕ)
single_chunk text = cons_nonempty text []
