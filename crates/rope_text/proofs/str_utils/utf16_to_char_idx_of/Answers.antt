use Rattle.std.proofs.Common.{length, min, count_by, sym, ap, ◌∙◌, arith}
use Rattle.std.specs.Str.{chars}
use Rattle.rope_text.specs.Bytes.{begins_char, begins_pair}
use Rattle.rope_text.proofs.Blocks.{begins_le, pairs_le}
use Rattle.rope_text.proofs.ByteLaws.{length-chars, surrogate_count-chars}
use Rattle.rope_text.proofs.AsciiTexts.{single_utf16_to_char}
use Rattle.rope_text.proofs.str_utils.utf16_to_char_idx_of.Goals as goal

pub returns-then-info-eq0 : goal.returns-then-info-eq0
returns-then-info-eq0 c =
    c.min.ensures ∙ ap (min c.args.utf16_idx) c.requires.chars
    ∙ sym (single_utf16_to_char (chars c.args.text.now) (sym c.requires.pairs ∙ c.if-info-eq0.true)
    c.args.utf16_idx)

pub overflow_add-info : goal.overflow_add-info
overflow_add-info c =
    let text = c.args.text.now in
    let size = ap length c.as_bytes-bytes.ensures.value in
    omega (
      arith,
      c.requires,
      length-chars text c.utf8.text,
      surrogate_count-chars text c.utf8.text,
      begins_le text,
      pairs_le text,
      size,
      c.as_bytes-bytes.ensures.len,
    )

pub skip_units_back-passed-requires-clause-chars : goal.skip_units_back-passed-requires-clause-chars
skip_units_back-passed-requires-clause-chars c =
    c.requires.chars ∙ length-chars c.args.text.now c.utf8.text
    ∙ ap (count_by begins_char) (sym c.as_bytes-bytes.ensures.value)

pub skip_units_back-passed-requires-clause-pairs : goal.skip_units_back-passed-requires-clause-pairs
skip_units_back-passed-requires-clause-pairs c =
    c.requires.pairs ∙ surrogate_count-chars c.args.text.now c.utf8.text
    ∙ ap (count_by begins_pair) (sym c.as_bytes-bytes.ensures.value)
