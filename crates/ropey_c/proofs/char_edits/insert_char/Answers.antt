use Rattle.std.proofs.Common.{rules}
use Rattle.ropey_c.proofs.char_edits.insert_char.Goals as goal

pub returns-clause-status : goal.returns-clause-status
returns-clause-status c = search rules

pub returns-in-None-clause-status : goal.returns-in-None-clause-status
returns-in-None-clause-status c = search rules
