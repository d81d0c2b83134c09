use Rattle.std.proofs.Common.{ap, ◌∙◌, sym, arith, take, drop, length}
use Rattle.std.proofs.lemmas.List.{length-take-le}
use Rattle.std.proofs.lemmas.Str.{utf8_valid_len_le}
use Rattle.rope_io.proofs.Buffers.{moved_rest}
use Rattle.rope_text.proofs.ReadLaws.{length-text_front}
use Rattle.rope_io.proofs.reading.settle.Goals as goal

pub returns-clause-rest : goal.returns-clause-rest
returns-clause-rest c =
    let held = take c.args.filled c.args.buffer.now in
    let decoded = ap length c.front-text.ensures ∙ length-text_front held in
    rw c.copy_within.ensures.after
    (moved_rest c.args.buffer.now (length c.front-text.result.now) c.args.filled
    (omega (
      arith,
      decoded,
      utf8_valid_len_le held,
      length-take-le c.args.filled c.args.buffer.now c.requires,
    )) c.requires
    ∙ ap (λ n. drop n held) decoded)

pub returns-in_err-try_append-clause-refused : goal.returns-in_err-try_append-clause-refused
returns-in_err-try_append-clause-refused c =
    rw (sym c.front-text.ensures)
    (grind (arith, c.from_residual.ensures, c.in_err-try_append.ensures.refused))

pub returns-clause-text : goal.returns-clause-text
returns-clause-text c = rw (sym c.front-text.ensures) c.in_ok-try_append.ensures.text
