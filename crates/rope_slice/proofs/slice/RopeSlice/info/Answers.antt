use Rattle.std.proofs.Common.{ap, arith}
use Rattle.std.proofs.lemmas.Str.{scalars-chars}
use Rattle.rope_text.proofs.Walks.{byte_len-chars}
use Rattle.rope_text.specs.Text.{byte_len}
use Rattle.rope_slice.specs.Plain.{text_of}
use Rattle.rope_slice.proofs.Kept.{plain_kept}
use Rattle.rope_slice.proofs.slice.RopeSlice.info.Goals as goal

pub returns-in-Alone-clause-kept : goal.returns-in-Alone-clause-kept
returns-in-Alone-clause-kept c =
    rw c.in-Alone.is
    (plain_kept c.in-Alone.plain.breaks (text_of c.in-Alone.plain)
    (rw (← c.as_str.ensures) (scalars-chars c.as_str.result.now c.as_str.utf8))
    (omega (
      arith,
      byte_len-chars c.as_str.result.now c.as_str.utf8,
      ap byte_len c.as_str.ensures,
      c.as_bytes.ensures.len,
      c.as_bytes.type_inv,
    )))
