use Rattle.std.proofs.Common.{◌-◌, arith}
use Rattle.rope_text.proofs.Utf8Laws.{text_before, text_up_to}
use Rattle.rope_text.proofs.utf8.last_char_end.Goals as goal

pub returns-then-bytes-at-ge192-clause-text : goal.returns-then-bytes-at-ge192-clause-text
returns-then-bytes-at-ge192-clause-text c =
    text_before c.args.bytes.now c.args.at (c.args.at - 1) c.requires.none (omega arith)
    c.requires.bound (omega arith)

pub returns-then-bytes-at-ge224-clause-text : goal.returns-then-bytes-at-ge224-clause-text
returns-then-bytes-at-ge224-clause-text c =
    text_before c.args.bytes.now c.args.at (c.args.at - 2) c.requires.none (omega arith)
    c.requires.bound (omega arith)

pub returns-then-bytes-at-ge240-clause-text : goal.returns-then-bytes-at-ge240-clause-text
returns-then-bytes-at-ge240-clause-text c =
    text_before c.args.bytes.now c.args.at (c.args.at - 3) c.requires.none (omega arith)
    c.requires.bound (omega arith)

pub returns-else-bytes-at-ge240-clause-text : goal.returns-else-bytes-at-ge240-clause-text
returns-else-bytes-at-ge240-clause-text c =
    let n = c.args.at in
    text_up_to c.args.bytes.now n (n - 3) (n - 2) (n - 1) c.requires.none c.requires.bound
    (omega arith) (omega arith) (omega arith) (omega arith) (omega arith) (omega arith)
