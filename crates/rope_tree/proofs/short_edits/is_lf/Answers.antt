use Rattle.std.proofs.Common.{sym}
use Rattle.rope_leaf.specs.Tree.{text}
use Rattle.rope_tree.proofs.InsertRoots.{begins_at}
use Rattle.rope_tree.proofs.short_edits.is_lf.Goals as goal

pub returns-then-at-info-clause-value : goal.returns-then-at-info-clause-value
returns-then-at-info-clause-value c =
    sym (begins_at (text c.args.node.now) c.args.at c.counted_char_at.result
    c.counted_char_at.ensures.value)
