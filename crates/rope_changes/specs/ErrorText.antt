-- The texts of errors.
use Rattle.std.specs.Prelude.{ℕ, List, ◌++◌, codes}
use Rattle.std.specs.Fmt.{decimal}
use Rattle.rope_changes.specs.declared.error.ChangeError.{ChangeError}
use Rattle.rope_changes.specs.declared.error.ChangeError.TheVariants.{RangeInvalid, RangeOutOfBounds, OutOfOrder, LengthDiffers, TooLong, OutOfMemory}

-- the text that an error prints
abbrev pub error_text : ChangeError → List ℕ
error_text (RangeInvalid start end) =
    codes "Invalid char range " ++
    (decimal start ++ (codes ".." ++ (decimal end ++ codes ": start must be <= end")))
error_text (RangeOutOfBounds end len) =
    codes "Char range out of bounds: range end " ++
    (decimal end ++ (codes ", text char length " ++ decimal len))
error_text (OutOfOrder start last_end) =
    codes "Char range out of order: range start " ++
    (decimal start ++ (codes ", last replacement end " ++ decimal last_end))
error_text (LengthDiffers expected len) =
    codes "Text length differs: char length " ++
    (decimal len ++ (codes ", the change is for " ++ decimal expected))
error_text TooLong = codes "Text would be longer than isize::MAX"
error_text OutOfMemory = codes "Out of memory"
