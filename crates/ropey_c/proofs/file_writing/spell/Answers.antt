use Rattle.std.proofs.Common.{rules}
use Rattle.ropey_c.proofs.file_writing.spell.Goals as goal

pub returns-in-Latin1-clause-bytes : goal.returns-in-Latin1-clause-bytes
returns-in-Latin1-clause-bytes c = search rules
