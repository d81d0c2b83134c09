use Rattle.std.proofs.Common.{rules}
use Rattle.ropey_c.proofs.file_writing.body_len.Goals as goal

pub returns-in-Latin1 : goal.returns-in-Latin1
returns-in-Latin1 c = search rules
