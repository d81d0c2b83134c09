use Rattle.rope_text.proofs.ConversionLaws.{byte_to_char-le-length}
use Rattle.ropey.proofs.rope.Rope.byte_to_char.Goals as goal

pub returns-clause-within : goal.returns-clause-within
returns-clause-within c = rw c.byte_to_char_counted.ensures.value (byte_to_char-le-length _ _)
