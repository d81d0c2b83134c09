use Rattle.std.proofs.Common.{rules}
use Rattle.ropey_c.proofs.file_writing.ropey_write_as.Goals as goal

pub returns-clause-answer : goal.returns-clause-answer
returns-clause-answer c = search rules
