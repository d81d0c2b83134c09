use Rattle.std.proofs.Common.{rules}
use Rattle.ropey_c.proofs.file_reading.read.Goals as goal

pub returns-in_default : goal.returns-in_default
returns-in_default c = search rules
