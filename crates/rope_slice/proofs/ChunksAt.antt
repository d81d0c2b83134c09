-- The chunk of an excerpt that holds a byte, a character or a line break, by the unit.
use Rattle.std.proofs.Common.{◌≡◌, ℕ, ◌+◌, ◌-◌, ◌<◌, ◌≤◌, min, List, length, All, arith}
use Rattle.std.specs.List.{slice_range}
use Rattle.rope_text.specs.declared.line_breaks.LineBreaks.{LineBreaks}
use Rattle.rope_text.specs.declared.text_info.TextInfo.{TextInfo}
use Rattle.rope_text.specs.TextInfo.{info_of}
use Rattle.rope_text.specs.Cutting.{clip, single_chunk}
use Rattle.rope_text.specs.Lookup.{chunk_index_at_char}
use Rattle.rope_leaf.specs.declared.search.Unit.{Unit}
use Rattle.rope_leaf.specs.declared.search.Unit.TheVariants.{Byte, Char, CodeUnit, LineBreak}
use Rattle.rope_leaf.specs.Search.{count_of}
use Rattle.rope_leaf.specs.Tree.{Tree, IsTree, text}
use Rattle.rope_leaf.specs.Found.{IsFound}
use Rattle.rope_slice.specs.Edge.{IsExcerpt}
use Rattle.rope_slice.specs.Found.{MayHold, chunk_index}
use Rattle.rope_slice.proofs.Measured.{Measured, measured}
use Rattle.rope_slice.proofs.FoundChunks.{byte_index_single, char_index_single, break_index_single}
use Rattle.rope_slice.proofs.LeafParts.{meets_byte, meets_char, leaf_in, ends_break}

-- the leaf has a character of the excerpt, and contains the index
pub record HoldsIt (unit : Unit) (t : Tree) (start end : TextInfo) (leaf : List ℕ)
    (front : TextInfo) (idx : ℕ) : Type 0 where
  pub starts : front.chars < end.chars
  pub ends : start.chars < front.chars + length leaf
  pub index_is : All (λ chunk. 0 < length chunk) (clip t.leaves start.chars end.chars)
      → chunk_index unit t.breaks (clip t.leaves start.chars end.chars) idx
      ≡ chunk_index_at_char (clip t.leaves start.chars end.chars) (front.chars - start.chars)

module _ (t : Tree) (start end : TextInfo) (s : IsExcerpt t.breaks (text t) start end) (idx : ℕ)
  where
    m : Measured t.breaks (text t) start end
    m = measured t.breaks (text t) start end s

    pub some_in : (unit : Unit)
        → MayHold unit t.breaks (slice_range (text t) start.chars end.chars) idx
        → count_of unit start < count_of unit end
    some_in Byte h = m.some_bytes
    some_in Char h = m.some
    some_in CodeUnit h = absurd h
    some_in LineBreak h = omega (arith, h, m.count)

    pub index_in : (unit : Unit)
        → MayHold unit t.breaks (slice_range (text t) start.chars end.chars) idx
        → idx ≤ count_of unit (info_of t.breaks (slice_range (text t) start.chars end.chars)) + 1
    index_in Byte h = omega (arith, h)
    index_in Char h = omega (arith, h)
    index_in CodeUnit h = absurd h
    index_in LineBreak h = omega (arith, h)

    module _ (place : ℕ) where
      pub place_in : (unit : Unit)
          → MayHold unit t.breaks (slice_range (text t) start.chars end.chars) idx
          → place ≡ min (count_of unit start + idx) (count_of unit end - 1)
          → place < count_of unit (info_of t.breaks (text t))
      place_in Byte h e = omega (arith, e, m.some_bytes, m.all_bytes)
      place_in Char h e = omega (arith, e, m.some, m.within)
      place_in CodeUnit h e = absurd h
      place_in LineBreak h e = omega (arith, e, h, m.count, m.all_breaks)

      pub holds_in : (unit : Unit)
          → MayHold unit t.breaks (slice_range (text t) start.chars end.chars) idx
          → place ≡ min (count_of unit start + idx) (count_of unit end - 1)
          → (leaf : List ℕ) (front : TextInfo) → IsTree t → IsFound unit place t leaf front
          → HoldsIt unit t start end leaf front idx
      holds_in Byte h e leaf front tree f =
          let meets =
          meets_byte place t start end leaf front s f (omega (arith, e, m.some_bytes))
          (omega (arith, e, m.some_bytes)) in
          let p = leaf_in t start end leaf front tree s f.index f.within f.leaf_is f.before_is
          meets.starts meets.ends in
          record {
            starts = meets.starts;
            ends = meets.ends;
            index_is =
                λ _. p.at_byte idx (omega (arith, f.not_past, e))
                (omega (arith, f.past, meets.bytes, e));
          }
      holds_in Char h e leaf front tree f =
          let meets =
          meets_char place t start end leaf front f (omega (arith, e, m.some))
          (omega (arith, e, m.some)) in
          let p = leaf_in t start end leaf front tree s f.index f.within f.leaf_is f.before_is
          meets.starts meets.ends in
          record {
            starts = meets.starts;
            ends = meets.ends;
            index_is =
                λ _. p.at_char idx (omega (arith, f.not_past, e))
                (omega (arith, f.past, meets.chars, e));
          }
      holds_in CodeUnit h e leaf front tree f = absurd h
      holds_in LineBreak h e leaf front tree f =
          let ends =
          ends_break (idx + 1) place t start end leaf front tree s f (omega arith)
          (omega (arith, e, h, m.count)) (omega (arith, e, h, m.count)) in
          record { starts = ends.starts; ends = ends.ends; index_is = ends.index }

-- of a plain text it is the only one
pub index_single : (unit : Unit) (breaks : LineBreaks) (text : List ℕ) (idx : ℕ)
    → MayHold unit breaks text idx → chunk_index unit breaks (single_chunk text) idx ≡ 0
index_single Byte breaks text idx h = byte_index_single text idx
index_single Char breaks text idx h = char_index_single text idx
index_single CodeUnit breaks text idx h = absurd h
index_single LineBreak breaks text idx h = break_index_single breaks text (idx + 1)
