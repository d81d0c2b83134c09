use Rattle.std.proofs.Common.{rules}
use Rattle.ropey_c.proofs.texts.ropey_text_byte_to_char.Goals as goal

pub returns : goal.returns
returns c = search rules
