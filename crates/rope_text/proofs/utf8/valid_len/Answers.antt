use Rattle.std.proofs.Common.{drop, arith, length-drop}
use Rattle.std.proofs.lemmas.List.{take_rest}
use Rattle.std.proofs.lemmas.Str.{utf8_valid_len-IsUtf8}
use Rattle.rope_text.proofs.Utf8Laws.{valid_after}
use Rattle.rope_text.proofs.utf8.valid_len.Goals as goal

pub returns-in-Ok : goal.returns-in-Ok
returns-in-Ok c =
    let s = c.args.bytes.now in
    let k = c.last_char_end-known.result in
    let whole = utf8_valid_len-IsUtf8 (drop k s) (rw take_rest at c.in-Ok.ensures.cases.1) in
    omega (
      arith,
      valid_after s k (omega arith) c.last_char_end-known.ensures.text,
      whole,
      length-drop k s,
    )

pub returns-in-Err : goal.returns-in-Err
returns-in-Err c =
    let s = c.args.bytes.now in
    let k = c.last_char_end-known.result in
    omega (
      arith,
      valid_after s k (omega arith) c.last_char_end-known.ensures.text,
      c.valid_up_to.ensures,
      rw take_rest at c.in-Err.ensures.valid_len,
    )
