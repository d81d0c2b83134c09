use Rattle.rope_text.proofs.ConversionLaws.{char_to_line-less}
use Rattle.ropey.proofs.rope.Rope.char_to_line.Goals as goal

pub returns-clause-within : goal.returns-clause-within
returns-clause-within c = rw c.char_to_line_counted.ensures.value (char_to_line-less _ _ _)
