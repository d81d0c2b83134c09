-- A leaf of a tree that has a character of an excerpt.
use Rattle.std.proofs.Common.{◌≡◌, ℕ, ◌+◌, ◌-◌, ◌<◌, ◌≤◌, min, List, [], ◌++◌, length, take, get_or, refl, sym, ap, ◌∙◌, arith, inl, inr, All}
use Rattle.std.specs.List.{concat, slice_range}
use Rattle.std.proofs.lemmas.Bool.{cases_lt}
use Rattle.std.proofs.lemmas.List.{length-append, take-take}
use Rattle.rope_text.specs.declared.text_info.TextInfo.{TextInfo}
use Rattle.rope_text.specs.Text.{byte_len}
use Rattle.rope_text.specs.TextInfo.{info_of}
use Rattle.rope_text.specs.Conversions.{char_to_line}
use Rattle.rope_text.specs.Breaks.{break_count}
use Rattle.rope_text.specs.Lines.{line_start}
use Rattle.rope_text.specs.Cutting.{clip}
use Rattle.rope_text.specs.Lookup.{found_chunk, chunk_index_at_byte, chunk_index_at_char, chunk_index_at_line_break}
use Rattle.rope_text.proofs.ChunkLaws.{before, after}
use Rattle.rope_text.proofs.ClipLaws.{concat-clip}
use Rattle.rope_text.proofs.ConversionLaws.{char_to_line-line_start}
use Rattle.rope_text.proofs.LineLaws.{line_start-le-length}
use Rattle.rope_text.proofs.LookupLaws.{breaks_before}
use Rattle.rope_text.proofs.Measures.{IsMeasure-byte_len, size_le, size_lt}
use Rattle.rope_leaf.specs.Tree.{Tree, text, IsTree}
use Rattle.rope_leaf.proofs.LeafLaws.{nonempty_leaves}
use Rattle.rope_leaf.specs.declared.search.Unit.TheVariants.{Byte, Char, LineBreak}
use Rattle.rope_leaf.specs.Found.{IsFound}
use Rattle.rope_tree.proofs.FoundLaws.{lies_at, found_line_start}
use Rattle.rope_slice.proofs.ClippedChunks.{before_is_front, upto_is_front}
use Rattle.rope_slice.specs.Edge.{IsExcerpt}
use Rattle.rope_slice.specs.Found.{IsFoundChunk}
use Rattle.rope_slice.proofs.FoundChunks.{line_break_index, char_to_line-mono}
use Rattle.rope_slice.proofs.Measured.{measured, break_count-front}
use Rattle.rope_slice.proofs.Excerpts.{line_start_part}
use Rattle.rope_slice.proofs.ChunkParts.{leaf_start, leaf_end, ordered, found_in, index_at_char, index_at_byte}

pub record LeafIn (t : Tree) (start end : TextInfo) (leaf : List ℕ) (front : TextInfo) : Type 0
  where
    pub in_order : front.bytes ≤ end.bytes
    pub from_bytes : byte_len (take (start.chars - front.chars) leaf) ≡ start.bytes - front.bytes
    pub to_bytes : byte_len (take (end.chars - front.chars) leaf)
        ≡ min (end.bytes - front.bytes) (byte_len leaf)
    pub some : start.chars < end.chars
    pub found : (chunk : List ℕ) (bytes chars count : ℕ)
        → chunk ≡ slice_range leaf (start.chars - front.chars) (end.chars - front.chars)
        → bytes ≡ front.bytes - start.bytes → chars ≡ front.chars - start.chars
        → count ≡ front.break_count - start.break_count
        → IsFoundChunk (found_chunk t.breaks (clip t.leaves start.chars end.chars)
        (chunk_index_at_char (clip t.leaves start.chars end.chars) (front.chars - start.chars)))
        chunk bytes chars count
    pub at_char : (i : ℕ) → front.chars ≤ min (start.chars + i) (end.chars - 1)
        → min (start.chars + i) (end.chars - 1) < front.chars + length leaf
        → chunk_index_at_char (clip t.leaves start.chars end.chars) i
        ≡ chunk_index_at_char (clip t.leaves start.chars end.chars) (front.chars - start.chars)
    pub at_byte : (n : ℕ) → front.bytes ≤ min (start.bytes + n) (end.bytes - 1)
        → min (start.bytes + n) (end.bytes - 1) < front.bytes + byte_len leaf
        → chunk_index_at_byte (clip t.leaves start.chars end.chars) n
        ≡ chunk_index_at_char (clip t.leaves start.chars end.chars) (front.chars - start.chars)

pub leaf_in : (t : Tree) (start end : TextInfo) (leaf : List ℕ) (front : TextInfo) → IsTree t
    → IsExcerpt t.breaks (text t) start end → (k : ℕ) → k < length t.leaves
    → leaf ≡ get_or t.leaves k []
    → front ≡ info_of t.breaks (concat (take k t.leaves)) → front.chars < end.chars
    → start.chars < front.chars + length leaf → LeafIn t start end leaf front
leaf_in t start end leaf front tree s k within leaf_is front_is starts ends =
    let m = measured t.breaks (text t) start end s in
    let full = nonempty_leaves t.leaves tree.leaves.each in
    let kept = tree.leaves.whole in
    let bytes : byte_len (before t.leaves k) ≡ front.bytes = ap (λ x. x.bytes) (sym front_is) in
    let chars : length (before t.leaves k) ≡ front.chars = ap (λ x. x.chars) (sym front_is) in
    let here : get_or t.leaves k [] ≡ leaf = sym leaf_is in
    let size = ap length here in
    let early : length (before t.leaves k) < end.chars = omega arith in
    let late : start.chars < length (before t.leaves k) + length (get_or t.leaves k []) =
    omega arith in
    let from =
    leaf_start t.breaks t.leaves start.chars end.chars k within m.some m.within full kept early
    late in
    let to = leaf_end t.breaks t.leaves start.chars end.chars k within m.some m.within full kept
    early late in
    let from_leaf = rw (chars, here) at from in
    let to_leaf = rw (chars, here) at to in
    record {
      in_order =
          omega (
            arith,
            ordered t.breaks t.leaves start.chars end.chars k within m.some m.within
                full kept early late,
            m.end_bytes,
          );
      from_bytes = omega (arith, from_leaf, m.start_bytes);
      to_bytes = omega (arith, to_leaf, m.end_bytes);
      some = m.some;
      found = λ chunk b n l chunk_is b_is n_is l_is.
          (let found =
          found_in t.breaks t.leaves start.chars end.chars k within m.some m.within full kept early
          late chunk b n l
          (rw (here, chars) chunk_is) (omega (arith, m.start_bytes)) (omega arith)
          (omega (arith, ap (λ x. x.break_count) front_is, m.start_breaks)) in
          rw chars at found);
      at_char = λ i low high.
          (let same =
          index_at_char t.breaks t.leaves start.chars end.chars k within m.some m.within full kept
          early late i (omega arith) (omega arith) in rw chars at same);
      at_byte = λ n low high.
          (let more = IsMeasure-byte_len.joined (before t.leaves k) (get_or t.leaves k []) in
          let leaf_size = ap byte_len here in
          let same =
          index_at_byte t.breaks t.leaves start.chars end.chars k within m.some m.within full kept
          early late n (omega (arith, m.start_bytes, m.end_bytes))
          (omega (arith, m.start_bytes, m.end_bytes)) in
          rw chars at same);
    }

-- a leaf that holds a character, or a byte, of the excerpt
pub record Meets (t : Tree) (start end : TextInfo) (leaf : List ℕ) (front : TextInfo) (k : ℕ) : Type
    0 where
  pub starts : front.chars < end.chars
  pub ends : start.chars < front.chars + length leaf
  pub bytes : byte_len (concat (take (k + 1) t.leaves)) ≡ front.bytes + byte_len leaf
  pub chars : length (concat (take (k + 1) t.leaves)) ≡ front.chars + length leaf

pub meets_char : (at : ℕ) (t : Tree) (start end : TextInfo) (leaf : List ℕ) (front : TextInfo)
    → (f : IsFound Char at t leaf front) → start.chars ≤ at → at < end.chars
    → Meets t start end leaf front f.index
meets_char at t start end leaf front f low high =
    let l = lies_at Char at t leaf front f in
    let chars = ap length l.more ∙ length-append (before t.leaves f.index) leaf in
    record {
      starts = omega (arith, f.not_past);
      ends = omega (arith, f.past, l.chars);
      bytes = omega (
        arith,
        ap byte_len l.more,
        IsMeasure-byte_len.joined (before t.leaves f.index) leaf,
        l.bytes,
      );
      chars = omega (arith, l.chars);
    }

pub meets_byte : (at : ℕ) (t : Tree) (start end : TextInfo) (leaf : List ℕ) (front : TextInfo)
    → IsExcerpt t.breaks (text t) start end → (f : IsFound Byte at t leaf front) → start.bytes ≤ at
    → at < end.bytes → Meets t start end leaf front f.index
meets_byte at t start end leaf front s f low high =
    let m = measured t.breaks (text t) start end s in
    let l = lies_at Byte at t leaf front f in
    let chars = ap length l.more ∙ length-append (before t.leaves f.index) leaf in
    let bytes = ap byte_len l.more ∙ IsMeasure-byte_len.joined (before t.leaves f.index) leaf in
    let both = IsMeasure-byte_len.joined (before t.leaves f.index) leaf in
    let first = ap byte_len (before_is_front t.leaves f.index f.within) in
    let upto = ap byte_len (upto_is_front t.leaves f.index f.within)
    ∙ ap (λ y. byte_len (take (length (before t.leaves f.index) + length y) (text t))) l.leaf_is in
    let whole = ap byte_len (ap (λ y. before t.leaves f.index ++ y) l.leaf_is) in
    record {
      starts = elim (cases_lt front.chars end.chars) [
        | inl less ↦ less
        | inr more ↦ absurd (omega (
          arith,
          f.not_past,
          l.bytes,
          l.chars,
          m.end_bytes,
          size_le byte_len IsMeasure-byte_len (text t) end.chars (length (before t.leaves f.index))
              (omega (arith, l.chars)),
        ))
      ];
      ends = elim (cases_lt start.chars (front.chars + length leaf)) [
        | inl less ↦ less
        | inr more ↦ absurd (omega (
          arith,
          f.past,
          m.start_bytes,
          l.bytes,
          l.chars,
          size_le byte_len IsMeasure-byte_len (text t)
              (length (before t.leaves f.index) + length leaf) start.chars (omega (arith, l.chars)),
        ))
      ];
      bytes = omega (arith, l.bytes);
      chars = omega (arith, l.chars);
    }

-- the leaf in which a break of the excerpt ends: it has a character of the excerpt, and its part is
-- the chunk at the break
pub record EndsBreak (t : Tree) (start end : TextInfo) (leaf : List ℕ) (front : TextInfo)
    (k : ℕ) : Type 0 where
  pub starts : front.chars < end.chars
  pub ends : start.chars < front.chars + length leaf
  pub index : All (λ chunk. 0 < length chunk) (clip t.leaves start.chars end.chars)
      → chunk_index_at_line_break t.breaks (clip t.leaves start.chars end.chars) k
      ≡ chunk_index_at_char (clip t.leaves start.chars end.chars) (front.chars - start.chars)

pub ends_break : (k at : ℕ) (t : Tree) (start end : TextInfo) (leaf : List ℕ) (front : TextInfo)
    → IsTree t → IsExcerpt t.breaks (text t) start end → IsFound LineBreak at t leaf front
    → 0 < k → at + 1 ≡ start.break_count + k → at < end.break_count
    → EndsBreak t start end leaf front k
ends_break k at t start end leaf front tree s f some next last =
    let m = measured t.breaks (text t) start end s in
    let l = lies_at LineBreak at t leaf front f in
    let line : ℕ = at + 1 in
    let from : ℕ = line_start t.breaks (text t) line in
    let full = nonempty_leaves t.leaves tree.leaves.each in
    let lines = char_to_line-line_start t.breaks (text t) line (omega (arith, m.all_breaks)) in
    let in_text = line_start-le-length t.breaks (text t) line in
    let before_it : front.chars < from = elim (cases_lt front.chars from) [
      | inl less ↦ less
      | inr more ↦ absurd (omega (
        arith,
        char_to_line-mono t.breaks (text t) from front.chars more in_text,
        ap (λ n. char_to_line t.breaks (text t) n) l.chars,
        breaks_before t.breaks t.leaves f.index full tree.leaves.whole,
        l.count,
        f.not_past,
      ))
    ] in
    let late : start.chars < from = elim (cases_lt start.chars from) [
      | inl less ↦ less
      | inr more ↦ absurd (omega (
        arith,
        char_to_line-mono t.breaks (text t) from start.chars more in_text,
        m.start_breaks,
      ))
    ] in
    let early : front.chars < end.chars = elim (cases_lt front.chars end.chars) [
      | inl less ↦ less
      | inr more ↦ absurd (omega (
        arith,
        ap (λ x. x.break_count) s.end_is,
        ap (break_count t.breaks) (take-take end.chars front.chars (text t) more),
        break_count-front t.breaks (take front.chars (text t)) end.chars,
        ap (break_count t.breaks) (before_is_front t.leaves f.index f.within),
        ap (λ n. break_count t.breaks (take n (text t))) l.chars,
        l.count,
        f.not_past,
      ))
    ] in
    let upto : from ≤ front.chars + length leaf =
    omega (
      arith,
      found_line_start at line t leaf front tree f refl,
      line_start-le-length t.breaks leaf (line - front.break_count),
    ) in
    record {
      starts = early;
      ends = omega arith;
      index = λ nonempty.
          (let p = leaf_in t start end leaf front tree s f.index f.within f.leaf_is f.before_is
          early (omega arith) in
          let i : ℕ = line_start t.breaks (slice_range (text t) start.chars end.chars) k in
          let place =
          line_start_part t.breaks (text t) start.chars end.chars m.some m.within k some in
          let next_is : char_to_line t.breaks (text t) start.chars + k ≡ line =
          omega (arith, m.start_breaks) in
          let same = ap (line_start t.breaks (text t)) next_is in
          let joined =
          ap (λ u. line_start t.breaks u k) (concat-clip t.leaves start.chars end.chars) in
          line_break_index t.breaks (clip t.leaves start.chars end.chars) k nonempty
          ∙ ap (λ n. chunk_index_at_char (clip t.leaves start.chars end.chars) (n - 1)) joined
          ∙ p.at_char (i - 1) (omega arith) (omega arith));
    }

-- the leaf that contains the excerpt's first byte: the numbers of its characters and bytes before
-- the excerpt
pub record StartsIn (start : TextInfo) (leaf : List ℕ) (front : TextInfo) : Type 0 where
  pub within : start.chars - front.chars ≤ length leaf
  pub place : start.chars ≡ front.chars + (start.chars - front.chars)
  pub bytes : start.bytes - front.bytes ≡ byte_len (take (start.chars - front.chars) leaf)

pub starts_in : (t : Tree) (start end : TextInfo) (leaf : List ℕ) (front : TextInfo) → IsTree t
    → IsExcerpt t.breaks (text t) start end → IsFound Byte start.bytes t leaf front
    → StartsIn start leaf front
starts_in t start end leaf front tree s f =
    let m = measured t.breaks (text t) start end s in
    let l = lies_at Byte start.bytes t leaf front f in
    let meets = meets_byte start.bytes t start end leaf front s f (omega arith) m.some_bytes in
    let p = leaf_in t start end leaf front tree s f.index f.within f.leaf_is f.before_is
    meets.starts meets.ends in
    let first = ap byte_len (before_is_front t.leaves f.index f.within) in
    let whole = ap length l.around
    ∙ length-append (before t.leaves f.index) (leaf ++ after t.leaves f.index) in
    let later : front.chars ≤ start.chars = elim (cases_lt start.chars front.chars) [
      | inr not ↦ not
      | inl less ↦ absurd (omega (
        arith,
        f.not_past,
        m.start_bytes,
        l.bytes,
        l.chars,
        size_lt byte_len IsMeasure-byte_len (text t) start.chars (length (before t.leaves f.index))
            (omega (arith, l.chars)) (omega arith),
      ))
    ] in
    record {
      within = omega (arith, meets.ends);
      place = omega arith;
      bytes = sym p.from_bytes;
    }
