-- The content of an excerpt of a tree's text.
use Rattle.std.specs.Prelude.{ℕ, List}
use Rattle.std.specs.List.{slice_range}
use Rattle.rope_text.specs.declared.line_breaks.LineBreaks.{LineBreaks}
use Rattle.rope_text.specs.Cutting.{clip}
use Rattle.rope_text.specs.Content.{Content}
use Rattle.rope_leaf.specs.Tree.{text}
use Rattle.rope_slice.specs.declared.excerpt.Excerpt.{Excerpt}

-- the text and the leaves of the tree, clipped
abbrev pub content_of : Excerpt → Content
content_of s = record {
  text = slice_range (text s.node.now) s.start.chars s.end.chars;
  chunks = clip s.node.now.leaves s.start.chars s.end.chars;
  breaks = s.node.now.breaks;
}

abbrev pub text_of : Excerpt → List ℕ
text_of s = slice_range (text s.node.now) s.start.chars s.end.chars

abbrev pub chunks_of : Excerpt → List (List ℕ)
chunks_of s = clip s.node.now.leaves s.start.chars s.end.chars

abbrev pub breaks_of : Excerpt → LineBreaks
breaks_of s = s.node.now.breaks
