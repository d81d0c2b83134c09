-- The texts of errors.
use Rattle.std.specs.Prelude.{ℕ, List, ◌++◌, codes}
use Rattle.std.specs.Fmt.{decimal}
use Rattle.rope_text.specs.ErrorText.{error_text}
use Rattle.rope_files.specs.declared.error.ReadAnyError.{ReadAnyError}
use Rattle.rope_files.specs.declared.error.ReadAnyError.TheVariants.{Read, NoMark, InvalidUtf8, UnpairedSurrogate, HalfCodeUnit, Rope}
use Rattle.rope_files.specs.declared.error.WriteAsError.{WriteAsError}
use Rattle.rope_files.specs.declared.error.WriteAsError.TheVariants.{Unencodable, Write}

-- the text that an error of reading prints
abbrev pub read_error_text : ReadAnyError → List ℕ
read_error_text (Read e) = codes "Read failed"
read_error_text NoMark = codes "No byte order mark"
read_error_text InvalidUtf8 = codes "stream did not contain valid UTF-8"
read_error_text (UnpairedSurrogate at) = codes "Unpaired surrogate: byte offset " ++ decimal at
read_error_text (HalfCodeUnit at) = codes "Half a code unit: byte offset " ++ decimal at
read_error_text (Rope e) = error_text e

-- the text that an error of writing prints
abbrev pub write_error_text : WriteAsError → List ℕ
write_error_text (Unencodable index) = codes "Character not in the encoding: char index "
    ++ decimal index
write_error_text (Write e) = codes "Write failed"
