-- The start of a cursor over chunks.
use Rattle.std.specs.Prelude.{◌≡◌, ⊤, ℕ, ◌+◌, ◌-◌, ◌<◌, ◌≤◌, List, length, min}
use Rattle.std.specs.List.{concat, slice_range}
use Rattle.rope_text.specs.declared.line_breaks.LineBreaks.{LineBreaks}
use Rattle.rope_text.specs.Text.{byte_len}
use Rattle.rope_text.specs.Content.{Content}
use Rattle.rope_text.specs.Conversions.{char_to_line}
use Rattle.rope_text.specs.Cutting.{clip}
use Rattle.rope_text.specs.Lookup.{chunk_index_at_line_break, chunk_place_at_byte, chunk_place_at_char}
use Rattle.rope_text.specs.declared.text_info.TextInfo.{TextInfo}
use Rattle.rope_text.specs.TextInfo.{info_of}
use Rattle.rope_leaf.specs.Tree.{Tree, text as tree_text}
use Rattle.rope_leaf.specs.Found.{IsFound}
use Rattle.rope_leaf.specs.declared.search.Unit.{Unit}
use Rattle.rope_leaf.specs.declared.search.Unit.TheVariants.{Byte, Char, CodeUnit, LineBreak}
use Rattle.rope_slice.specs.Path.{Place, leaves}

-- a byte or a character
abbrev pub IsItem : Unit → Type 0
IsItem Byte = ⊤
IsItem Char = ⊤
IsItem CodeUnit = ⊥
IsItem LineBreak = ⊥

-- the number of a text's bytes or characters
abbrev pub size_in : Unit → List ℕ → ℕ
size_in Byte text = byte_len text
size_in Char text = length text
size_in CodeUnit text = 0
size_in LineBreak text = 0

-- the chunk before which a cursor starts: the one that contains the byte or the character, and at
-- the end past the last
abbrev pub chunk_place : Unit → List (List ℕ) → ℕ → ℕ
chunk_place Byte chunks idx = chunk_place_at_byte chunks idx
chunk_place Char chunks idx = chunk_place_at_char chunks idx
chunk_place CodeUnit chunks idx = 0
chunk_place LineBreak chunks idx = 0

-- the numbers of bytes, characters and line breaks of a text in its first chunks; only breaks that
-- end there are counted
pub record AreBefore (breaks : LineBreaks) (text : List ℕ) (chunks : List (List ℕ))
    (bytes chars count : ℕ) : Type 0 where
  pub bytes_are : bytes ≡ byte_len (concat chunks)
  pub chars_are : chars ≡ length (concat chunks)
  pub count_is : count ≡ char_to_line breaks text chars

-- the chunk here contains a byte or a character of a slice, or its end; with the numbers of bytes,
-- characters and line breaks before it. A slice without chunks has the empty text there
pub record IsHolding (unit : Unit) (idx : ℕ) (c : Content) (p : Place)
    (bytes chars count : ℕ) : Type 0 where
  pub text : concat (leaves p) ≡ c.text
  pub chunks : 0 < length c.text → leaves p ≡ c.chunks
  pub before : AreBefore c.breaks c.text p.before bytes chars count
  pub starts : size_in unit (concat p.before) ≤ idx
  pub within : idx ≤ size_in unit (concat p.before) + size_in unit p.here
  pub inside : idx < size_in unit c.text
      → idx < size_in unit (concat p.before) + size_in unit p.here

-- the chunk here is the part of a leaf in which the break before a line of an excerpt ends; with
-- the counts of the leaf, and those of the tree's text before it
pub record IsAtBreak (line : ℕ) (t : Tree) (start end : TextInfo) (p : Place) (leaf : List ℕ)
    (inside front : TextInfo) : Type 0 where
  pub found : IsFound LineBreak (start.break_count + line - 1) t leaf front
  pub inside_is : inside ≡ info_of t.breaks leaf
  pub text : concat (leaves p) ≡ slice_range (tree_text t) start.chars end.chars
  pub chunks : leaves p ≡ clip t.leaves start.chars end.chars
  pub before : AreBefore t.breaks (slice_range (tree_text t) start.chars end.chars) p.before
      (front.bytes - start.bytes) (front.chars - start.chars)
      (front.break_count - start.break_count)
  pub in_order : front.bytes ≤ end.bytes
  pub upto : byte_len (concat p.before) + byte_len p.here
      ≡ min (front.bytes + byte_len leaf) end.bytes - start.bytes
  pub index : chunk_index_at_line_break t.breaks (clip t.leaves start.chars end.chars) line
      ≡ length p.before
