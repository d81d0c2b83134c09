use Rattle.rope_text.proofs.Greatest.{greatest-le, greatest_passes, greatest_above}
use Rattle.rope_text.proofs.ConversionLaws.{byte_to_char-char_to_byte, utf16_to_char-char_to_utf16, char_to_line-line_start}
use Rattle.rope_text.proofs.PositionLaws.{position_to_char-char_to_position}
use Rattle.rope_text.proofs.InfoLaws.{info_of-append}
use Rattle.rope_text.proofs.ClipLaws.{slice_range-slice_range, clip-clip}
use Rattle.rope_text.proofs.ByteSlices.{nested}
use Rattle.rope_text.proofs.EditLaws.{removed-inserted}
use Rattle.rope_text.proofs.laws.definitions_agree.Goals as goal
use Rattle.std.proofs.lemmas.List.{take-append-drop}

pub returns-clause-greatest : goal.returns-clause-greatest
returns-clause-greatest c = λ test n z. record {
  within = greatest-le test n;
  passes = greatest_passes test n z;
  greatest = greatest_above test n;
}

pub returns-clause-chars : goal.returns-clause-chars
returns-clause-chars c =
    λ text i l. (byte_to_char-char_to_byte text i l, utf16_to_char-char_to_utf16 text i l)

pub returns-clause-lines : goal.returns-clause-lines
returns-clause-lines c = char_to_line-line_start

pub returns-clause-positions : goal.returns-clause-positions
returns-clause-positions c = position_to_char-char_to_position

pub returns-clause-counts : goal.returns-clause-counts
returns-clause-counts c = info_of-append

pub returns-clause-slices : goal.returns-clause-slices
returns-clause-slices c =
    λ text chunks a b c d l. (slice_range-slice_range text a b c d l, clip-clip chunks a b c d l)

pub returns-clause-byte_slices : goal.returns-clause-byte_slices
returns-clause-byte_slices c = nested

pub returns-clause-edits : goal.returns-clause-edits
returns-clause-edits c = λ text i new l. (removed-inserted text i new l, take-append-drop i text)
