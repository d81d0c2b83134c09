use Rattle.std.proofs.Common.{arith}
use Rattle.rope_documents.proofs.Insides.{inside_by_cr, outside_by_lf}
use Rattle.rope_documents.proofs.send.is_inside_crlf.Goals as goal

pub returns-then-char-eq10-clause-value : goal.returns-then-char-eq10-clause-value
returns-then-char-eq10-clause-value c =
    inside_by_cr c.args.rope.now.text c.args.char_idx c.char.result c.char-then-char-eq10.result
    (omega arith) c.char.ensures c.char-then-char-eq10.ensures c.if-char-eq10.true

pub returns-else-char-eq10-clause-value : goal.returns-else-char-eq10-clause-value
returns-else-char-eq10-clause-value c =
    outside_by_lf c.args.rope.now.text c.args.char_idx c.char.result c.char.ensures
    c.if-char-eq10.false
