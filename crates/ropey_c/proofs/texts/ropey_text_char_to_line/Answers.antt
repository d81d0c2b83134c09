use Rattle.std.proofs.Common.{rules}
use Rattle.ropey_c.proofs.texts.ropey_text_char_to_line.Goals as goal

pub returns : goal.returns
returns c = search rules
