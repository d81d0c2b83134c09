use Rattle.std.proofs.Common.{sym}
use Rattle.std.proofs.lemmas.Str.{encodes-chars}
use Rattle.rope_slice.proofs.Taken.{appended}
use Rattle.rope_slice.proofs.text_out.push_chunk.Goals as goal

pub returns : goal.returns
returns c =
    appended c.push_str.result _ _ _ _ c.push_str.ensures.bytes
    (sym (encodes-chars c.args.chunk.now c.utf8.chunk))
