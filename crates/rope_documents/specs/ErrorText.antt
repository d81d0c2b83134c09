-- The texts of errors.
use Rattle.std.specs.Prelude.{ℕ, List, ◌++◌, codes}
use Rattle.std.specs.Fmt.{decimal}
use Rattle.rope_documents.specs.declared.error.DocumentError.{DocumentError}
use Rattle.rope_documents.specs.declared.error.DocumentError.TheVariants.{RangeInvalid, LengthDiffers, TooLong, OutOfMemory}

-- the text that an error prints
abbrev pub error_text : DocumentError → List ℕ
error_text (RangeInvalid start end) =
    codes "Invalid range: start line " ++
    (decimal start.line ++ (codes ", column " ++ (decimal start.column ++
    (codes ", end line " ++ (decimal end.line ++ (codes ", column " ++ decimal end.column))))))
error_text (LengthDiffers expected len) =
    codes "Text length differs: char length " ++
    (decimal len ++ (codes ", the change is for " ++ decimal expected))
error_text TooLong = codes "Text would be longer than isize::MAX"
error_text OutOfMemory = codes "Out of memory"
