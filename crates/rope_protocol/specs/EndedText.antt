-- The texts of the outcomes of runs.
use Rattle.std.specs.Prelude.{ℕ, List, [], ◌++◌, codes}
use Rattle.std.specs.Fmt.{decimal}
use Rattle.rope_protocol.specs.declared.ended.Ended.{Ended}
use Rattle.rope_protocol.specs.declared.ended.Ended.TheVariants.{Done, BadLine, OutOfMemory, Failed}

-- the text of an outcome: empty if the input ended
abbrev pub ended_text : Ended → List ℕ
ended_text Done = []
ended_text (BadLine number) = codes "bad line " ++ decimal number
ended_text OutOfMemory = codes "out of memory"
ended_text Failed = codes "input or output failed"
