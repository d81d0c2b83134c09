-- The content of a plain text as a slice.
use Rattle.std.specs.Prelude.{ℕ, List}
use Rattle.std.specs.Str.{chars}
use Rattle.rope_text.specs.Cutting.{single_chunk}
use Rattle.rope_text.specs.Content.{Content}
use Rattle.rope_slice.specs.declared.plain.Plain.{Plain}

-- one chunk, or none
abbrev pub content_of : Plain → Content
content_of p = record {
  text = chars p.text.now;
  chunks = single_chunk (chars p.text.now);
  breaks = p.breaks;
}

abbrev pub text_of : Plain → List ℕ
text_of p = chars p.text.now

abbrev pub chunks_of : Plain → List (List ℕ)
chunks_of p = single_chunk (chars p.text.now)
