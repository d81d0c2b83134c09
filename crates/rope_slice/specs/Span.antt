-- A path to a leaf within a slice of the text of all the leaves.
use Rattle.std.specs.Prelude.{◌≡◌, ℕ, ◌+◌, ◌-◌, ◌<◌, ◌≤◌, Option, None, Some, List, [], length, take, All}
use Rattle.std.specs.List.{concat, slice_range}
use Rattle.rope_text.specs.Text.{byte_len}
use Rattle.rope_text.specs.Conversions.{byte_to_char}
use Rattle.rope_text.specs.Cutting.{clip}
use Rattle.rope_slice.specs.Path.{Place, leaves}

-- a text that is the only leaf
abbrev pub alone : List ℕ → Place
alone text = record { before = []; here = text; after = [] }

-- a chunk in a tree, or a plain text
abbrev pub place_in : List ℕ → Option Place → Place
place_in text None = alone text
place_in text (Some p) = p

-- an index of the text: the bytes and the characters before it
pub record Edge : Type 0 where
  pub bytes : ℕ
  pub chars : ℕ

-- the index with `bytes` bytes of all the leaves before it
abbrev pub edge_at : List (List ℕ) → ℕ → Edge
edge_at all bytes = record { bytes = bytes; chars = byte_to_char (concat all) bytes }

-- the leaves, clipped from character a of their text up to b
abbrev pub clipped_place : Place → ℕ → ℕ → Place
clipped_place p a b = record {
  before = clip p.before a b;
  here = slice_range p.here (a - length (concat p.before)) (b - length (concat p.before));
  after = clip p.after (a - length (concat p.before) - length p.here)
      (b - length (concat p.before) - length p.here);
}

-- the leaves, clipped from one byte up to another
abbrev pub clipped_at : Place → ℕ → ℕ → Place
clipped_at p from to = clipped_place p (edge_at (leaves p) from).chars (edge_at (leaves p) to).chars

-- the leaf has a character of the slice, and starts at the byte `start`
pub record IsWithin (p : Place) (start : ℕ) (from to : Edge) : Type 0 where
  pub solid : All (λ leaf. 0 < length leaf) (leaves p)
  pub some : from.chars < to.chars
  pub within : to.chars ≤ length (concat (leaves p))
  pub start_is : start ≡ byte_len (concat p.before)
  pub from_bytes : from.bytes ≡ byte_len (take from.chars (concat (leaves p)))
  pub to_bytes : to.bytes ≡ byte_len (take to.chars (concat (leaves p)))
  pub starts : length (concat p.before) < to.chars
  pub ends : from.chars < length (concat p.before) + length p.here

-- the empty text is the only leaf
pub record IsNothing (p : Place) (start : ℕ) (from to : Edge) : Type 0 where
  pub before : p.before ≡ []
  pub here : p.here ≡ []
  pub after : p.after ≡ []
  pub start_is : start ≡ 0
  pub from_is : from.bytes ≡ 0
  pub to_is : to.bytes ≡ 0

-- a slice is within its leaves, or it is empty
pub record IsSpan (p : Place) (start : ℕ) (from to : Edge) : Type 0 where
  pub some : from.chars < to.chars → IsWithin p start from to
  pub none : to.chars ≤ from.chars → IsNothing p start from to
  pub ordered : from.chars ≤ to.chars

-- the slice from one byte up to another is within its leaves, or it is empty
abbrev pub IsSpanFrom : Place → ℕ → ℕ → Type 0
IsSpanFrom p from to =
    IsSpan p (byte_len (concat p.before)) (edge_at (leaves p) from) (edge_at (leaves p) to)
