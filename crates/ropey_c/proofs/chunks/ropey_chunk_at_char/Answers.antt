use Rattle.std.proofs.Common.{rules}
use Rattle.ropey_c.proofs.chunks.ropey_chunk_at_char.Goals as goal

pub returns-clause-answer : goal.returns-clause-answer
returns-clause-answer c = search rules
