-- The state of a builder.
use Rattle.std.specs.Prelude.{ℕ, ◌+◌, List, Option}
use Rattle.rope_text.specs.declared.error.Error.{Error}
use Rattle.rope_text.specs.declared.line_breaks.LineBreaks.{LineBreaks}
use Rattle.rope_text.specs.Edit.{or_else, size_error}
use Rattle.rope_text.specs.Text.{byte_len}

-- the text passed in so far, the set of line breaks, and the first error, if there was one
pub record Building : Type 0 where
  pub text : List ℕ
  pub breaks : LineBreaks
  pub failed : Option Error

-- the error of a builder for a text of `bytes` bytes, except `OutOfMemory`: an earlier error, else
-- the size
abbrev pub text_error : Building → ℕ → Option Error
text_error old bytes = or_else old.failed (size_error (byte_len old.text + bytes))
