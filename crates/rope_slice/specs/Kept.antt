-- The invariant of every slice.
use Rattle.std.specs.Prelude.{◌≡◌, ◌^◌, ◌<◌, true}
use Rattle.std.specs.Str.{all_scalars}
use Rattle.rope_text.specs.Text.{byte_len}
use Rattle.rope_text.specs.Cutting.{IsCutting, KeepsCrlf}
use Rattle.rope_text.specs.Content.{Content}

-- its chunks are a cutting of its text that splits no CR LF; its text consists of Unicode scalar
-- values, of at most isize::MAX bytes
pub record IsPart (c : Content) : Type 0 where
  pub cut : IsCutting c.text c.chunks
  pub whole : KeepsCrlf c.chunks
  pub scalars : all_scalars c.text ≡ true
  pub fits : byte_len c.text < 2 ^ 63
