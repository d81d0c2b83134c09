use Rattle.std.proofs.Common.{rules}
use Rattle.ropey_c.proofs.file_writing.spell_units.Goals as goal

pub returns-then-code-lt65536-clause-bytes : goal.returns-then-code-lt65536-clause-bytes
returns-then-code-lt65536-clause-bytes c = search rules
