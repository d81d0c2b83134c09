-- The content and the invariant of a rope.
use Rattle.std.specs.Prelude.{◌≡◌, ℕ, ◌-◌, ◌*◌, ◌^◌, ◌≤◌, List, length}
use Rattle.rope_text.specs.declared.TheConstants.{MAX_CHILDREN, MAX_HEIGHT, MIN_CHILDREN}
use Rattle.rope_text.specs.declared.line_breaks.LineBreaks.{LineBreaks}
use Rattle.rope_text.specs.Content.{Content}
use Rattle.rope_text.specs.Content as of_content
use Rattle.rope_leaf.specs.Tree.{Tree, text}

-- a text, its chunks, its set of line breaks, and the number of levels of its tree above the chunks
pub record RopeView : Type 0 where
  pub text : List ℕ
  pub chunks : List (List ℕ)
  pub breaks : LineBreaks
  pub depth : ℕ

-- the text of a rope, as a function
abbrev pub text_of : RopeView → List ℕ
text_of r = r.text

-- the rope without its depth
abbrev pub content : RopeView → Content
content r = record { text = r.text; chunks = r.chunks; breaks = r.breaks }

-- the content of a tree as a rope: its text, its leaves as chunks, its set of line breaks and its
-- height
abbrev pub view_of : Tree → RopeView
view_of t = record { text = text t; chunks = t.leaves; breaks = t.breaks; depth = t.height }

-- the invariant of every rope: its chunks are a rope cutting of its text, and their number bounds
-- its depth on both sides
pub record IsRope (r : RopeView) : Type 0 where
  pub content : of_content.IsRope (content r)
  pub low : r.depth ≤ MAX_HEIGHT
  pub lone : r.depth ≡ 0 → length r.chunks ≤ 1
  pub least : 1 ≤ r.depth → 2 * MIN_CHILDREN ^ (r.depth - 1) ≤ length r.chunks
  pub most : length r.chunks ≤ MAX_CHILDREN ^ r.depth

-- at most one chunk for each 981 bytes, and one for the rest
abbrev pub HasFewChunks : RopeView → Type 0
HasFewChunks r = of_content.HasFewChunks (content r)

-- a new rope: with the given set of line breaks, in few chunks
abbrev pub IsBuilt : LineBreaks → RopeView → Type 0
IsBuilt breaks r = (r.breaks ≡ breaks) × IsRope r × HasFewChunks r
