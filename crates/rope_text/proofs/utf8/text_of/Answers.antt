use Rattle.std.proofs.Common.{arith}
use Rattle.std.proofs.lemmas.Str.{utf8_valid_len-IsUtf8}
use Rattle.rope_text.proofs.Utf8Laws.{whole_text}
use Rattle.rope_text.proofs.utf8.text_of.Goals as goal

pub returns-then-valid_len-bytes : goal.returns-then-valid_len-bytes
returns-then-valid_len-bytes c =
    λ u. omega (
      arith,
      utf8_valid_len-IsUtf8 c.args.bytes.now u,
      c.valid_len.ensures,
      c.if-valid_len-bytes.true,
    )

pub from_utf8_unchecked-requires : goal.from_utf8_unchecked-requires
from_utf8_unchecked-requires c =
    whole_text c.args.bytes.now (omega (arith, c.valid_len.ensures, c.if-valid_len-bytes.false))
