-- The content of a slice.
use Rattle.std.specs.Prelude.{ℕ, List}
use Rattle.rope_text.specs.declared.line_breaks.LineBreaks.{LineBreaks}
use Rattle.rope_text.specs.Content.{Content}
use Rattle.rope_text.specs.Cutting.{single_chunk}
use Rattle.std.specs.Hash.{HashWrites}
use Rattle.std.specs.Str.{encode_utf8_all}
use Rattle.rope_text.specs.Compare.{hash_writes}
use Rattle.rope_slice.specs.declared.slice.RopeSlice.{RopeSlice}
use Rattle.rope_slice.specs.declared.slice.RopeSlice.TheVariants.{InTree, Alone}
use Rattle.rope_slice.specs.Excerpt as of_excerpt
use Rattle.rope_slice.specs.Plain as of_plain

-- the text, chunks and set of line breaks of a slice: the text and the leaves of a tree, clipped; a
-- plain text as one chunk, or none
abbrev pub content_of : RopeSlice → Content
content_of (InTree excerpt) = of_excerpt.content_of excerpt
content_of (Alone plain) = of_plain.content_of plain

-- the content of a plain text with these line breaks: itself, as one chunk or none
abbrev pub plain_content : LineBreaks → List ℕ → Content
plain_content breaks text = record { text = text; chunks = single_chunk text; breaks = breaks }

abbrev pub text_of : RopeSlice → List ℕ
text_of slice = (content_of slice).text

abbrev pub chunks_of : RopeSlice → List (List ℕ)
chunks_of slice = (content_of slice).chunks

abbrev pub breaks_of : RopeSlice → LineBreaks
breaks_of slice = (content_of slice).breaks

-- the bytes of a slice, and its writes to a hasher
abbrev pub bytes_of : RopeSlice → List ℕ
bytes_of slice = encode_utf8_all (text_of slice)

abbrev pub writes_of : RopeSlice → HashWrites
writes_of slice = hash_writes (text_of slice)
