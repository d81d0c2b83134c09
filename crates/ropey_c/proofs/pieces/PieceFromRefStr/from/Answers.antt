use Rattle.std.proofs.Common.{sym, ◌∙◌}
use Rattle.std.proofs.lemmas.Str.{encodes-chars}
use Rattle.ropey_c.proofs.pieces.PieceFromRefStr.from.Goals as goal

pub returns : goal.returns
returns c = c.as_bytes.ensures.value ∙ sym (encodes-chars c.args.text.now c.utf8.text)
