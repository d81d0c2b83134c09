use Rattle.std.proofs.Common.{sym, ap, ◌∙◌, length, arith}
use Rattle.std.proofs.lemmas.List.{take_all}
use Rattle.std.specs.Str.{chars}
use Rattle.rope_text.specs.declared.lanes.Mark.TheVariants.{Char}
use Rattle.rope_text.specs.Marks.{IsPassed}
use Rattle.rope_text.specs.Text.{byte_len}
use Rattle.rope_text.proofs.ByteLaws.{length-chars}
use Rattle.rope_text.proofs.Fronts.{passed_place}
use Rattle.rope_text.proofs.Walks.{byte_len-chars}
use Rattle.rope_text.proofs.str_utils.char_to_byte_idx_of.Goals.{then-char_idx-char_count-2, else-char_idx-char_count-2}
use Rattle.rope_text.proofs.str_utils.char_to_byte_idx_of.Goals as goal

pub returns-then-char_idx-char_count-clause-value :
    goal.returns-then-char_idx-char_count-clause-value
returns-then-char_idx-char_count-clause-value c =
    sym (byte_len-chars c.args.text.now c.utf8.text)
    ∙ ap byte_len (sym (take_all c.args.char_idx (chars c.args.text.now)
    (omega (arith, c.requires, c.if-char_idx-char_count.true))))

pub skip_chars_back-requires-clause-chars : goal.skip_chars_back-requires-clause-chars
skip_chars_back-requires-clause-chars c =
    c.requires ∙ ap (λ bs. length (chars bs)) (sym c.as_bytes-bytes.ensures.value)
    ∙ length-chars c.as_bytes-bytes.result.now c.as_bytes-bytes.ensures.utf8

pub returns : goal.returns
returns c =
    let bytes = c.as_bytes-bytes in
    let from = c.if-char_idx-char_count-2.from in
    let passed : IsPassed Char bytes.result.now c.args.char_idx from.0 from.1 =
    elim c.if-char_idx-char_count-2.branch [
      | then-char_idx-char_count-2 w ↦ rw w.from-is w.skip_chars.ensures
      | else-char_idx-char_count-2 w ↦ rw w.from-is w.skip_chars_back.ensures
    ] in
    let place =
    passed_place bytes.result.now c.args.text.now c.args.char_idx _ _ c.find_from.result
    bytes.ensures.utf8 bytes.ensures.value passed c.find_from.ensures in
    record { value = place.0; boundary = place.1 }
