use Rattle.std.proofs.Common.{◌+◌, count_by, ap, refl, arith}
use Rattle.rope_text.specs.Bytes.{begins_char}
use Rattle.rope_text.proofs.Blocks.{count_by-following}
use Rattle.rope_text.proofs.ByteLaws.{length-chars}
use Rattle.rope_text.proofs.Fronts.{held_begins, held_past}
use Rattle.rope_text.proofs.str_utils.byte_to_char_idx_of.Goals as goal

pub returns-then-byte_idx-bytes : goal.returns-then-byte_idx-bytes
returns-then-byte_idx-bytes c =
    let bytes = c.as_bytes-bytes in
    omega (
      arith,
      c.requires,
      held_past bytes.result.now c.args.text.now c.args.byte_idx c.utf8.text
          bytes.ensures.value c.if-byte_idx-bytes.true,
    )

pub overflow_sub-result : goal.overflow_sub-result
overflow_sub-result c =
    let bytes = c.as_bytes-bytes in
    let held =
    held_begins bytes.result.now c.args.text.now c.args.byte_idx c.utf8.text bytes.ensures.value
    c.if-byte_idx-bytes.false in
    omega (arith, c.count_marks.ensures, held)

pub overflow_sub-result-else-past-bytes : goal.overflow_sub-result-else-past-bytes
overflow_sub-result-else-past-bytes c =
    let bytes = c.as_bytes-bytes in
    let held =
    held_begins bytes.result.now c.args.text.now c.args.byte_idx c.utf8.text bytes.ensures.value
    c.if-byte_idx-bytes.false in
    omega (
      arith,
      c.requires,
      held,
      length-chars c.args.text.now c.utf8.text,
      ap (count_by begins_char) bytes.ensures.value,
    )

pub overflow_sub-result-else-past-bytes-2 : goal.overflow_sub-result-else-past-bytes-2
overflow_sub-result-else-past-bytes-2 c =
    let bytes = c.as_bytes-bytes in
    let held =
    held_begins bytes.result.now c.args.text.now c.args.byte_idx c.utf8.text bytes.ensures.value
    c.if-byte_idx-bytes.false in
    let following =
    count_by-following begins_char bytes.result.now bytes.result.now (c.args.byte_idx + 1) _ _ refl
    refl c.count_marks-else-past-bytes.ensures in
    omega (
      arith,
      c.requires,
      held,
      following,
      length-chars c.args.text.now c.utf8.text,
      ap (count_by begins_char) bytes.ensures.value,
    )

pub returns-then-past-bytes : goal.returns-then-past-bytes
returns-then-past-bytes c =
    let bytes = c.as_bytes-bytes in
    let held =
    held_begins bytes.result.now c.args.text.now c.args.byte_idx c.utf8.text bytes.ensures.value
    c.if-byte_idx-bytes.false in
    omega (arith, c.count_marks.ensures, held)

pub returns-else-past-bytes : goal.returns-else-past-bytes
returns-else-past-bytes c =
    let bytes = c.as_bytes-bytes in
    let held =
    held_begins bytes.result.now c.args.text.now c.args.byte_idx c.utf8.text bytes.ensures.value
    c.if-byte_idx-bytes.false in
    let following =
    count_by-following begins_char bytes.result.now bytes.result.now (c.args.byte_idx + 1) _ _ refl
    refl c.count_marks-else-past-bytes.ensures in
    omega (
      arith,
      c.requires,
      held,
      following,
      length-chars c.args.text.now c.utf8.text,
      ap (count_by begins_char) bytes.ensures.value,
    )
