use Rattle.std.proofs.Common.{◌∙◌}
use Rattle.std.proofs.lemmas.List.{append-nil}
use Rattle.rope_slice.proofs.PiecesAhead.{bytes_of}
use Rattle.rope_slice.proofs.pieces.Pieces.of_text.Goals as goal

pub returns-clause-bytes : goal.returns-clause-bytes
returns-clause-bytes c = append-nil c.as_bytes.result.now
    ∙ bytes_of c.args.text.now c.as_bytes.result.now c.as_bytes.ensures.utf8
    c.as_bytes.ensures.value
