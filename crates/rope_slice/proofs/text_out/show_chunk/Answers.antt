use Rattle.std.proofs.Common.{sym}
use Rattle.std.proofs.Output.{has_written_of_eq, has_written_styled_of_eq}
use Rattle.std.proofs.lemmas.Str.{encodes-chars}
use Rattle.rope_slice.proofs.text_out.show_chunk.Goals as goal

pub returns-clause-writes : goal.returns-clause-writes
returns-clause-writes g c =
    λ p q. has_written_of_eq _ _ _ _ _ (sym (encodes-chars c.args.chunk.now c.utf8.chunk))
    (c.write_str.ensures.writes p q)

pub returns-clause-styled : goal.returns-clause-styled
returns-clause-styled g c =
    λ p q. has_written_styled_of_eq _ _ _ _ _ (sym (encodes-chars c.args.chunk.now c.utf8.chunk))
    (c.write_str.ensures.styled p q)
