use Rattle.std.proofs.Common.{length, ap, arith}
use Rattle.ropey_c.proofs.FileWriting.{file_length}
use Rattle.ropey_c.proofs.file_writing.file_len.Goals as goal

pub returns : goal.returns
returns c = omega (
  arith,
  c.saturating_add.ensures,
  c.body_len.ensures,
  file_length c.args.encoding c.args.rope.now.text,
  ap length c.mark.ensures.mark,
)
