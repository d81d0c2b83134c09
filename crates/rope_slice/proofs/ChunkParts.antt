-- The part of a leaf inside an excerpt, and the counts before it.
use Rattle.std.proofs.Common.{◌≡◌, ℕ, suc, ◌+◌, ◌-◌, ◌<◌, ◌≤◌, min, List, [], ◌++◌, length, take, drop, get_or, sym, ap, ◌∙◌, arith, inl, inr, All}
use Rattle.std.specs.List.{concat, slice_range}
use Rattle.std.specs.Str.{chars, IsUtf8, IsCharBoundary}
use Rattle.std.proofs.lemmas.Bool.{cases_lt}
use Rattle.std.proofs.lemmas.List.{take_all, length-take, take-append-le}
use Rattle.std.proofs.lemmas.Str.{encodes-chars, chars-encodes, scalars-chars}
use Rattle.rope_text.specs.declared.line_breaks.LineBreaks.{LineBreaks}
use Rattle.rope_text.specs.Text.{byte_len}
use Rattle.rope_text.specs.Breaks.{break_count}
use Rattle.rope_text.specs.Conversions.{char_to_line}
use Rattle.rope_text.specs.Cutting.{KeepsCrlf, clip}
use Rattle.rope_text.specs.Lookup.{found_chunk, front_chunks, chunk_index_at_byte, chunk_index_at_char}
use Rattle.rope_text.proofs.Measures.{IsMeasure-byte_len, IsMeasure-length, size_le, size_lt, size_le_all}
use Rattle.rope_text.proofs.TextParts.{all_scalars-take, all_scalars-drop, byte_len_boundary}
use Rattle.rope_text.proofs.ConversionLaws.{char_to_line_start}
use Rattle.rope_text.proofs.SliceLaws.{char_to_line-drop}
use Rattle.rope_text.proofs.ClipLaws.{concat-clip}
use Rattle.rope_text.proofs.LookupLaws.{breaks_before, chunk_index_at_byte_is, chunk_index_at_char_is}
use Rattle.rope_text.proofs.ChunkLaws.{before, after, concat_at}
use Rattle.rope_text.proofs.CuttingLaws.{clip_nonempty}
use Rattle.std.proofs.Math.Seq.{take-append-add}
use Rattle.rope_slice.specs.Found.{IsFoundChunk}
use Rattle.rope_slice.proofs.Excerpts.{bytes_of_part, length_part, size_part, char_to_line_part}
use Rattle.rope_slice.proofs.ClippedChunks.{Clipped, clipped, size_of_part, before_is_front, upto_is_front, front_less}

-- the characters of a text between two boundaries, by their bytes
pub chars_of_part : (bs cs r : List ℕ) (i j p q : ℕ) → IsUtf8 bs → chars bs ≡ cs → i ≤ j
    → p ≡ byte_len (take i cs) → q ≡ byte_len (take j cs) → r ≡ slice_range bs p q
    → chars r ≡ slice_range cs i j
chars_of_part bs cs r i j p q u same l from to cut =
    let scalars =
    all_scalars-take (j - i) (drop i (chars bs))
    (all_scalars-drop i (chars bs) (scalars-chars bs u)) in
    let start : p ≡ byte_len (take i (chars bs)) = from
    ∙ ap (λ s. byte_len (take i s)) (sym same) in
    let size : q - p ≡ byte_len (slice_range (chars bs) i j) =
    omega (
      arith,
      to,
      from,
      size_part byte_len IsMeasure-byte_len cs i j l,
      ap (λ s. byte_len (slice_range s i j)) same,
    ) in
    ap chars (cut ∙ ap (λ b. slice_range b p q) (sym (encodes-chars bs u))
    ∙ bytes_of_part (chars bs) i j p (q - p) l start size)
    ∙ chars-encodes (slice_range (chars bs) i j) scalars ∙ ap (λ s. slice_range s i j) same

pub boundary_of : (bs cs : List ℕ) (i p : ℕ) → IsUtf8 bs → chars bs ≡ cs → p ≡ byte_len (take i cs)
    → IsCharBoundary bs p
boundary_of bs cs i p u same from =
    rw (from ∙ ap (λ s. byte_len (take i s)) (sym same)) (byte_len_boundary bs i u)

-- the k-th of some chunks, none of them empty, with a character of the part from a up to b
module _ (breaks : LineBreaks) (chunks : List (List ℕ)) (a b k : ℕ) (l : k < length chunks)
    (some : a < b) (within : b ≤ length (concat chunks))
    (full : All (λ chunk. 0 < length chunk) chunks) (kept : KeepsCrlf chunks)
    (starts : length (before chunks k) < b)
    (ends : a < length (before chunks k) + length (get_or chunks k [])) where
  leaf_bytes : (i : ℕ) → i ≤ length (before chunks k) + length (get_or chunks k [])
      → byte_len (take (i - length (before chunks k)) (get_or chunks k []))
      ≡ byte_len (take i (concat chunks)) - byte_len (before chunks k)
  leaf_bytes i most = elim (cases_lt i (length (before chunks k))) [
    | inl less ↦
        let none : i - length (before chunks k) ≡ 0 = omega arith in
        rw none (omega (
          arith,
          size_le byte_len IsMeasure-byte_len (concat chunks) i
              (length (before chunks k)) (omega arith),
          ap byte_len (before_is_front chunks k l),
        ))
    | inr more ↦
        let m : ℕ = i - length (before chunks k) in
        let e : i ≡ length (before chunks k) + m = omega arith in
        let cut : take i (concat chunks) ≡ before chunks k ++ take m (get_or chunks k []) =
        ap (take i) (concat_at chunks k l)
        ∙ ap (λ n. take n (before chunks k ++ (get_or chunks k [] ++ after chunks k))) e
        ∙ take-append-add (before chunks k) (get_or chunks k [] ++ after chunks k) m
        ∙ ap (λ s. before chunks k ++ s)
        (take-append-le m (get_or chunks k []) (after chunks k) (omega arith)) in
        omega (
          arith,
          ap byte_len cut,
          IsMeasure-byte_len.joined (before chunks k)
              (take m (get_or chunks k [])),
        )
  ]

  pub leaf_start : byte_len (take (a - length (before chunks k)) (get_or chunks k []))
      ≡ byte_len (take a (concat chunks)) - byte_len (before chunks k)
  leaf_start = leaf_bytes a (omega arith)

  pub leaf_end : byte_len (take (b - length (before chunks k)) (get_or chunks k []))
      ≡ min (byte_len (take b (concat chunks)) - byte_len (before chunks k))
      (byte_len (get_or chunks k []))
  leaf_end = elim (cases_lt (length (before chunks k) + length (get_or chunks k [])) b) [
    | inl past ↦
        let whole =
        ap byte_len (take_all (b - length (before chunks k)) (get_or chunks k []) (omega arith)) in
        let upto = ap byte_len (upto_is_front chunks k l) in
        let more =
        size_le byte_len IsMeasure-byte_len (concat chunks)
        (length (before chunks k) + length (get_or chunks k [])) b (omega arith) in
        omega (arith, IsMeasure-byte_len.joined (before chunks k) (get_or chunks k []))
    | inr inside ↦ omega (
      arith,
      leaf_bytes b inside,
      size_le_all byte_len IsMeasure-byte_len (get_or chunks k []) (b - length (before chunks k)),
    )
  ]

  pub ordered : byte_len (before chunks k) ≤ byte_len (take b (concat chunks))
  ordered =
      omega (
        arith,
        ap byte_len (before_is_front chunks k l),
        size_le byte_len IsMeasure-byte_len (concat chunks) (length (before chunks k)) b
            (omega arith),
      )

  clip_at : Clipped chunks a b k (length (clip (take k chunks) a b))
  clip_at = clipped chunks a b k l some (full k [] l) starts ends

  bytes_before : byte_len (front_chunks (clip chunks a b) (length (clip (take k chunks) a b)))
      ≡ byte_len (before chunks k) - byte_len (take a (concat chunks))
  bytes_before =
      let c = clip_at in
      omega (
        arith,
        ap byte_len c.front,
        size_of_part byte_len IsMeasure-byte_len (concat chunks) a
            (length (before chunks k)),
        ap byte_len (before_is_front chunks k l),
      )

  chars_before : length (front_chunks (clip chunks a b) (length (clip (take k chunks) a b)))
      ≡ length (before chunks k) - a
  chars_before =
      let c = clip_at in
      omega (
        arith,
        ap length c.front,
        size_of_part length IsMeasure-length (concat chunks) a
            (length (before chunks k)),
        ap length (before_is_front chunks k l),
        length-take a (concat chunks),
      )

  chars_upto : length (front_chunks (clip chunks a b) (suc (length (clip (take k chunks) a b))))
      ≡ min (length (before chunks k) + length (get_or chunks k [])) b - a
  chars_upto =
      let c = clip_at in
      let e : ℕ = min (length (before chunks k) + length (get_or chunks k [])) b in
      omega (
        arith,
        ap length c.upto,
        size_of_part length IsMeasure-length (concat chunks) a e,
        length-take a (concat chunks),
        length-take e (concat chunks),
      )

  line_of : char_to_line breaks (concat chunks) (length (before chunks k))
      ≡ break_count breaks (before chunks k)
  line_of = breaks_before breaks chunks k full kept

  lines_before : char_to_line breaks (concat (clip chunks a b)) (length (before chunks k) - a)
      ≡ break_count breaks (before chunks k) - char_to_line breaks (concat chunks) a
  lines_before = elim (cases_lt a (length (before chunks k))) [
    | inl inside ↦
        let n : ℕ = length (before chunks k) in
        let back : a + (n - a) ≡ n = omega arith in
        let part =
        rw back at (char_to_line_part breaks (concat chunks) a b some within (n - a)
        (omega arith)) in
        omega (arith, line_of, ap (λ s. char_to_line breaks s (n - a)) (concat-clip chunks a b))
    | inr before_it ↦
        let n : ℕ = length (before chunks k) in
        let none : n - a ≡ 0 = omega arith in
        let on : n + (a - n) ≡ a = omega arith in
        let later = rw on at (char_to_line-drop breaks (concat chunks) n (a - n) (omega arith)) in
        rw none (omega (arith, char_to_line_start breaks (concat (clip chunks a b)), line_of))
  ]

  pub index_of_first : chunk_index_at_char (clip chunks a b) (length (before chunks k) - a)
      ≡ length (clip (take k chunks) a b)
  index_of_first =
      let c = clip_at in
      let nonempty = full k [] l in
      chunk_index_at_char_is (clip chunks a b) (length (before chunks k) - a)
      (length (clip (take k chunks) a b)) c.within (omega (arith, chars_before))
      (λ _. omega (arith, chars_upto))

  pub found_in : (chunk : List ℕ) (bytes chars count : ℕ)
      → chunk ≡ slice_range (get_or chunks k []) (a - length (before chunks k))
      (b - length (before chunks k))
      → bytes ≡ byte_len (before chunks k) - byte_len (take a (concat chunks))
      → chars ≡ length (before chunks k) - a → count
      ≡ break_count breaks (before chunks k) - char_to_line breaks (concat chunks) a
      → IsFoundChunk (found_chunk breaks (clip chunks a b)
      (chunk_index_at_char (clip chunks a b) (length (before chunks k) - a))) chunk bytes chars
      count
  unfolding found_chunk
  found_in chunk bytes chars count t m n o =
      let c = clip_at in
      rw index_of_first record {
        text_is = t ∙ sym c.chunk;
        bytes_are = m ∙ sym bytes_before;
        chars_are = n ∙ sym chars_before;
        count_is = o ∙ sym lines_before
            ∙ ap (char_to_line breaks (concat (clip chunks a b))) (sym chars_before);
      }

  -- it contains the index of the slice, or it is the last chunk of the slice and the index is the
  -- end
  not_last : suc (length (clip (take k chunks) a b)) < length (clip chunks a b)
      → length (before chunks k) + length (get_or chunks k []) < b
  not_last more =
      let less =
      front_less (clip chunks a b) (length (clip (take k chunks) a b)) (clip_nonempty chunks a b)
      more in
      omega (
        arith,
        chars_upto,
        ap length (concat-clip chunks a b),
        length_part (concat chunks) a b within,
      )

  pub index_at_char : (i : ℕ) → length (before chunks k) ≤ min (a + i) (b - 1)
      → min (a + i) (b - 1) < length (before chunks k) + length (get_or chunks k [])
      → chunk_index_at_char (clip chunks a b) i
      ≡ chunk_index_at_char (clip chunks a b) (length (before chunks k) - a)
  index_at_char i low high =
      let c = clip_at in
      chunk_index_at_char_is (clip chunks a b) i (length (clip (take k chunks) a b)) c.within
      (omega (arith, chars_before)) (λ more. omega (arith, chars_upto, not_last more))
      ∙ sym index_of_first

  pub index_at_byte : (n : ℕ)
      → byte_len (before chunks k) ≤ min (byte_len (take a (concat chunks)) + n)
      (byte_len (take b (concat chunks)) - 1)
      → min (byte_len (take a (concat chunks)) + n) (byte_len (take b (concat chunks)) - 1)
      < byte_len (before chunks k ++ get_or chunks k [])
      → chunk_index_at_byte (clip chunks a b) n
      ≡ chunk_index_at_char (clip chunks a b) (length (before chunks k) - a)
  index_at_byte n low high =
      let c = clip_at in
      let e : ℕ = length (before chunks k) + length (get_or chunks k []) in
      chunk_index_at_byte_is (clip chunks a b) n (length (clip (take k chunks) a b)) c.within
      (omega (arith, bytes_before))
      (λ more.
      let short : e < b = not_last more in
      let near : min e b ≡ e = omega arith in
      let size = ap byte_len c.upto
      ∙ size_of_part byte_len IsMeasure-byte_len (concat chunks) a (min e b)
      ∙ ap (λ m. byte_len (take m (concat chunks)) - byte_len (take a (concat chunks))) near in
      let less = size_lt byte_len IsMeasure-byte_len (concat chunks) e b short within in
      let upto = ap byte_len (upto_is_front chunks k l) in
      omega arith)
      ∙ sym index_of_first
