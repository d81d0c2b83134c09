use Rattle.std.proofs.Common.{rules}
use Rattle.ropey_c.proofs.file_reading.write_offset.Goals as goal

pub returns-in-InvalidUtf8 : goal.returns-in-InvalidUtf8
returns-in-InvalidUtf8 c = search rules
