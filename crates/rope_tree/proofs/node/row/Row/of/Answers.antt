use Rattle.rope_tree.proofs.PartLaws.{whole_part}
use Rattle.rope_tree.proofs.node.row.Row.of.Goals as goal

pub returns-clause-row : goal.returns-clause-row
returns-clause-row c =
    whole_part c.args.nodes.now c.args.totals.now c.requires.children c.requires.totals
