-- Texts inside one chunk: of some chunks, of a clip of them, of a plain text.
use Rattle.std.proofs.Common.{◌≡◌, ℕ, suc, ◌+◌, ◌-◌, ◌<◌, ◌≤◌, List, [], ◌∷◌, ◌++◌, length, take, drop, get_or, refl, sym, ap, ◌∙◌, arith, inl, inr}
use Rattle.std.specs.List.{concat, slice_range}
use Rattle.std.proofs.lemmas.Bool.{cases_lt}
use Rattle.std.proofs.lemmas.List.{append-nil, length-drop, take_all, take-take}
use Rattle.std.proofs.Math.Seq.{split_at}
use Rattle.rope_text.specs.Cutting.{clip, single_chunk}
use Rattle.rope_text.specs.Text.{byte_len}
use Rattle.rope_text.proofs.Measures.{IsMeasure-byte_len, size_lt}
use Rattle.rope_text.proofs.ClipLaws.{clip_empty, slice_range_empty, concat-clip, length-slice_range, slice_range-slice_range, clip-clip}
use Rattle.rope_text.specs.declared.text_info.TextInfo.{TextInfo}
use Rattle.rope_leaf.specs.declared.search.Unit.{Unit}
use Rattle.rope_leaf.specs.Tree.{Tree, text}
use Rattle.rope_leaf.specs.Found.{IsFound}
use Rattle.rope_tree.proofs.FoundLaws.{lies_at}
use Rattle.rope_slice.specs.InChunk.{IsInChunk}
use Rattle.rope_slice.proofs.Clips.{single_chunk-clip, clip_past}
use Rattle.rope_slice.proofs.ClippedChunks.{clip-append}

concat-single : (text : List ℕ) → concat (single_chunk text) ≡ text
concat-single [] = refl
concat-single (c ∷ text) = append-nil (c ∷ text)

-- from character k of a chunk on, between the chunks before and after it
module _ (p : List (List ℕ)) (s : List ℕ) (q : List (List ℕ)) (k : ℕ) (within : k ≤ length s) where
  cut : (j : ℕ) → j ≤ length (drop k s)
      → clip (p ++ (s ∷ q)) (length (concat p) + k) ((length (concat p) + k) + j)
      ≡ single_chunk (take j (drop k s))
  cut j l =
      let n : ℕ = length (concat p) in
      let from : (n + k) - n ≡ k = omega arith in
      let to : ((n + k) + j) - n ≡ k + j = omega arith in
      let size : (k + j) - k ≡ j = omega arith in
      let none : clip q (k - length s) ((k + j) - length s) ≡ [] =
      clip_empty q (k - length s) ((k + j) - length s) (omega (arith, length-drop k s)) in
      clip-append p (s ∷ q) (n + k) ((n + k) + j)
      ∙ rw (clip_past p (n + k) ((n + k) + j) (omega arith), from, to, none, size) refl

  pub in_chunk : IsInChunk (concat (p ++ (s ∷ q))) (p ++ (s ∷ q)) (length (concat p) + k) (drop k s)
  in_chunk = record {
    text_is =
        λ j l m. sym (concat-clip (p ++ (s ∷ q)) (length (concat p) + k)
        ((length (concat p) + k) + j)) ∙ ap concat (cut j l) ∙ concat-single (take j (drop k s));
    chunks_are = λ j l m. cut j l;
  }

-- of the n-th of some chunks
pub in_nth_chunk : (chunks : List (List ℕ)) (n k i : ℕ) (held : List ℕ) → n < length chunks
    → k ≤ length (get_or chunks n []) → i ≡ length (concat (take n chunks)) + k
    → held ≡ drop k (get_or chunks n [])
    → IsInChunk (concat chunks) chunks i held
in_nth_chunk chunks n k i held l within place same =
    let parts = sym (split_at chunks n [] l) in
    let it = in_chunk (take n chunks) (get_or chunks n []) (drop (suc n) chunks) k within in
    let here = rw parts at it in
    rw (place, same) here

-- a text inside a chunk is inside one where the chunks are clipped
pub in_clip : (text : List ℕ) (chunks : List (List ℕ)) (a b i : ℕ) (held : List ℕ)
    → IsInChunk text chunks (a + i) held → a ≤ b → b ≤ length text
    → IsInChunk (slice_range text a b) (clip chunks a b) i held
in_clip text chunks a b i held it ordered within = record {
  text_is = λ j l m.
      let size = length-slice_range text a b in
      let on : (a + i) + j ≡ a + (i + j) = omega arith in
      slice_range-slice_range text a b i (i + j) (omega arith)
      ∙ rw on at (it.text_is j l (omega arith));
  chunks_are = λ j l m.
      let size = length-slice_range text a b in
      let on : (a + i) + j ≡ a + (i + j) = omega arith in
      clip-clip chunks a b i (i + j) (omega arith) ∙ rw on at (it.chunks_are j l (omega arith));
}

-- a text that is one chunk is inside it
pub in_single : (text : List ℕ) (i : ℕ) (held : List ℕ) → held ≡ drop i text
    → IsInChunk text (single_chunk text) i held
in_single text i held same =
    let part : (j : ℕ) → slice_range text i (i + j) ≡ take j held =
    λ j. (let size : (i + j) - i ≡ j = omega arith in rw (size, same) refl) in
    record {
      text_is = λ j l m. part j;
      chunks_are = λ j l m. sym (single_chunk-clip text i (i + j)) ∙ ap single_chunk (part j);
    }

-- a part with no more bytes than the held characters has no more characters than they
pub held_chars : (text : List ℕ) (chunks : List (List ℕ)) (i : ℕ) (held : List ℕ)
    → IsInChunk text chunks i held → (e : ℕ) → i ≤ e → e ≤ length text
    → byte_len (slice_range text i e) ≤ byte_len held → e ≤ i + length held
held_chars text chunks i held it e ordered within few = elim (cases_lt (i + length held) e) [
  | inr short ↦ short
  | inl long ↦
      let n : ℕ = length held in
      let part : List ℕ = slice_range text i e in
      let size = length-slice_range text i e in
      let whole : slice_range text i (i + n) ≡ held = it.text_is n (omega arith) (omega arith)
      ∙ take_all n held (omega arith) in
      let front : take n part ≡ held = take-take n (e - i) (drop i text) (omega arith)
      ∙ (let less : (i + n) - i ≡ n = omega arith in rw less at whole) in
      let less =
      size_lt byte_len IsMeasure-byte_len part n (length part) (omega arith) (omega arith) in
      absurd (omega (
        arith,
        less,
        ap byte_len front,
        ap byte_len (take_all (length part) part (omega arith)),
      ))
]

-- nothing is cut from the end on
pub in_chunk_end : (text : List ℕ) (chunks : List (List ℕ)) (i : ℕ) (held : List ℕ)
    → length text ≤ i → IsInChunk text chunks i held
in_chunk_end text chunks i held past = record {
  text_is = λ j l m. (let none : j ≡ 0 = omega arith in
      slice_range_empty text i (i + j) (omega arith) ∙ sym (ap (λ n. take n held) none));
  chunks_are = λ j l m. (let none : j ≡ 0 = omega arith in
      clip_empty chunks i (i + j) (omega arith) ∙ sym (ap (λ n. single_chunk (take n held)) none));
}

-- of the leaf that a descent finds, from its character k on
pub in_found : (unit : Unit) (at : ℕ) (t : Tree) (leaf : List ℕ) (front : TextInfo)
    → IsFound unit at t leaf front → (k i : ℕ) (held : List ℕ) → k ≤ length leaf
    → i ≡ front.chars + k → held ≡ drop k leaf
    → IsInChunk (text t) t.leaves i held
in_found unit at t leaf front f k i held within place same =
    let l = lies_at unit at t leaf front f in
    in_nth_chunk t.leaves f.index k i held f.within (omega (arith, ap length l.leaf_is))
    (omega (arith, place, l.chars)) (same ∙ ap (drop k) (sym l.leaf_is))

-- a slice short enough to end in the chunk: its characters are a prefix of the held ones, and are
-- one chunk
pub record EndsInChunk (text : List ℕ) (chunks : List (List ℕ)) (i e : ℕ) (held : List ℕ) : Type 0
  where
    pub text_is : slice_range text i e ≡ take (e - i) held
    pub chunks_are : clip chunks i e ≡ single_chunk (take (e - i) held)

pub ends_in_chunk : (text : List ℕ) (chunks : List (List ℕ)) (i : ℕ) (held : List ℕ)
    → IsInChunk text chunks i held → (e : ℕ) → i ≤ e → e ≤ length text
    → byte_len (slice_range text i e) ≤ byte_len held → EndsInChunk text chunks i e held
ends_in_chunk text chunks i held it e ordered within few =
    let on : i + (e - i) ≡ e = omega arith in
    let count : e - i ≤ length held =
    omega (arith, held_chars text chunks i held it e ordered within few) in
    let inside : i + (e - i) ≤ length text = omega arith in
    record {
      text_is = rw on at (it.text_is (e - i) count inside);
      chunks_are = rw on at (it.chunks_are (e - i) count inside);
    }
