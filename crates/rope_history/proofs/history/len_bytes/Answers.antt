use Rattle.std.proofs.Common.{sym}
use Rattle.rope_text.proofs.Walks.{byte_len-chars}
use Rattle.rope_history.proofs.history.len_bytes.Goals as goal

pub returns : goal.returns
returns c = sym (byte_len-chars c.args.text.now c.utf8.text)
