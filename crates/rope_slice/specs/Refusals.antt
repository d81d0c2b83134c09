-- The errors of indices.
use Rattle.std.specs.Prelude.{ℕ, Option}
use Rattle.rope_text.specs.declared.error.Error.{Error}
use Rattle.rope_text.specs.Edit.{byte_index_error, char_index_error, line_index_error, utf16_index_error}
use Rattle.rope_leaf.specs.declared.search.Unit.{Unit}
use Rattle.rope_leaf.specs.declared.search.Unit.TheVariants.{Byte, Char, CodeUnit, LineBreak}

-- the error of an index that is past the last one, if it is
abbrev pub index_error : Unit → ℕ → ℕ → Option Error
index_error Byte = byte_index_error
index_error Char = char_index_error
index_error CodeUnit = utf16_index_error
index_error LineBreak = line_index_error
