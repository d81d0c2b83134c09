use Rattle.rope_text.proofs.ConversionLaws.{byte_to_char-le-length}
use Rattle.rope_slice.specs.Slice.{text_of}
use Rattle.rope_text.proofs.ConversionLaws.{utf16_to_char-le-length}
use Rattle.rope_position.proofs.slices.char_at_column.Goals as goal

pub returns-in-Utf8-clause-within : goal.returns-in-Utf8-clause-within
returns-in-Utf8-clause-within c = rw c.byte_to_char.ensures
    (byte_to_char-le-length (text_of c.args.text.now) _)

pub returns-in-Utf16-clause-within : goal.returns-in-Utf16-clause-within
returns-in-Utf16-clause-within c = rw c.utf16_cu_to_char.ensures
    (utf16_to_char-le-length (text_of c.args.text.now) _)
