-- The texts of read errors.
use Rattle.std.specs.Prelude.{ℕ, List, codes}
use Rattle.rope_text.specs.ErrorText.{error_text}
use Rattle.rope_io.specs.declared.error.ReadError.{ReadError}
use Rattle.rope_io.specs.declared.error.ReadError.TheVariants.{Read, InvalidData, Rope}

-- the text that an error prints
abbrev pub read_error_text : ReadError → List ℕ
read_error_text (Read e) = codes "Read failed"
read_error_text InvalidData = codes "stream did not contain valid UTF-8"
read_error_text (Rope e) = error_text e
