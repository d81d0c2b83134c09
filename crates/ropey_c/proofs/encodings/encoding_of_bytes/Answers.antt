use Rattle.std.proofs.Common.{rules}
use Rattle.ropey_c.proofs.encodings.encoding_of_bytes.Goals as goal

pub returns-then-number-eq-FILE_BY_MARK : goal.returns-then-number-eq-FILE_BY_MARK
returns-then-number-eq-FILE_BY_MARK c = search rules
