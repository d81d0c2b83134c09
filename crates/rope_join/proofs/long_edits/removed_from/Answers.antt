use Rattle.std.proofs.Common.{arith}
use Rattle.rope_leaf.specs.Tree.{text}
use Rattle.rope_join.proofs.Seams.{left_le}
use Rattle.rope_join.proofs.long_edits.removed_from.Goals as goal

pub join_parts-requires-clause-fits : goal.join_parts-requires-clause-fits
join_parts-requires-clause-fits c =
    omega (
      arith,
      c.height.ensures.tree.fits,
      left_le (text c.args.root.now) c.args.start c.args.end (omega (arith, c.requires.ordered)),
    )

pub join_at_crlf-requires-clause-fits : goal.join_at_crlf-requires-clause-fits
join_at_crlf-requires-clause-fits c =
    omega (
      arith,
      c.height.ensures.tree.fits,
      left_le (text c.args.root.now) c.args.start c.args.end (omega (arith, c.requires.ordered)),
    )
