use Rattle.std.proofs.Common.{rules}
use Rattle.ropey_c.proofs.char_edits.split_off.Goals as goal

pub returns-clause-back : goal.returns-clause-back
returns-clause-back c = search rules

pub returns-then-char_idx-len_chars-clause-status :
    goal.returns-then-char_idx-len_chars-clause-status
returns-then-char_idx-len_chars-clause-status c = search rules
