-- Clips of all chunks, of a single one, and of those around one.
use Rattle.std.proofs.Common.{◌≡◌, ℕ, ◌+◌, ◌-◌, ◌<◌, ◌≤◌, List, [], ◌∷◌, length, refl, sym, ap, arith, All}
use Rattle.std.specs.List.{concat, slice_range}
use Rattle.std.proofs.lemmas.List.{take_all, length-append}
use Rattle.std.proofs.lemmas.List.Elements.{All-tail}
use Rattle.rope_text.specs.Cutting.{clip, single_chunk}
use Rattle.rope_text.proofs.ClipLaws.{slice_range_past, slice_range-slice_range, clip-clip}

-- a clip that ends past the end keeps all
pub clip_all : (chunks : List (List ℕ)) (b : ℕ) → All (λ chunk. 0 < length chunk) chunks
    → length (concat chunks) ≤ b → clip chunks 0 b ≡ chunks
clip_all [] b full l = refl
clip_all ([] ∷ chunks) b full l = absurd (omega (arith, full 0 [] (omega arith)))
clip_all ((c ∷ cs) ∷ chunks) b full l =
    let chunk : List ℕ = c ∷ cs in
    let whole = length-append chunk (concat chunks) in
    let kept : slice_range chunk 0 b ≡ chunk = take_all (b - 0) chunk (omega arith) in
    let none : 0 - length chunk ≡ 0 = omega arith in
    rw (kept, none) (ap (λ r. chunk ∷ r)
    (clip_all chunks (b - length chunk) (All-tail (λ part. 0 < length part) chunk chunks full)
    (omega arith)))

-- nothing remains of chunks before an index
pub clip_past : (chunks : List (List ℕ)) (a b : ℕ) → length (concat chunks) ≤ a
    → clip chunks a b ≡ []
clip_past [] a b l = refl
clip_past (chunk ∷ chunks) a b l =
    let long = length-append chunk (concat chunks) in
    rw (slice_range_past chunk a b (omega arith))
    (clip_past chunks (a - length chunk) (b - length chunk) (omega arith))

-- a part of a text that is one chunk is one chunk, or none
pub single_chunk-clip : (text : List ℕ) (a b : ℕ)
    → single_chunk (slice_range text a b) ≡ clip (single_chunk text) a b
single_chunk-clip [] a b = ap single_chunk (slice_range_past [] a b (omega arith))
single_chunk-clip (c ∷ text) a b = refl

-- a part of a part, and its chunks, are those of the whole at the added offsets
pub part_of_part : (text : List ℕ) (a b s e x y : ℕ) → e ≤ b - a → x ≡ a + s → y ≡ a + e
    → slice_range text x y ≡ slice_range (slice_range text a b) s e
part_of_part text a b s e x y l from to =
    rw (from, to) (sym (slice_range-slice_range text a b s e l))

pub clip_of_clip : (chunks : List (List ℕ)) (a b s e x y : ℕ) → e ≤ b - a → x ≡ a + s → y ≡ a + e
    → clip chunks x y ≡ clip (clip chunks a b) s e
clip_of_clip chunks a b s e x y l from to = rw (from, to) (sym (clip-clip chunks a b s e l))

-- the whole as a part, and all its chunks
pub whole_part : (text : List ℕ) (x y : ℕ) → x ≡ 0 → y ≡ length text → slice_range text x y ≡ text
whole_part text x y from to = rw (from, to) (take_all (length text - 0) text (omega arith))

pub whole_clip : (chunks : List (List ℕ)) (x y : ℕ) → All (λ chunk. 0 < length chunk) chunks → x ≡ 0
    → y ≡ length (concat chunks) → clip chunks x y ≡ chunks
whole_clip chunks x y full from to =
    rw (from, to) (clip_all chunks (length (concat chunks)) full (omega arith))
