use Rattle.std.proofs.Common.{rules}
use Rattle.ropey_c.proofs.file_reading.size_fault.Goals as goal

pub returns-in-TooLong-clause-too_long : goal.returns-in-TooLong-clause-too_long
returns-in-TooLong-clause-too_long c = search rules
