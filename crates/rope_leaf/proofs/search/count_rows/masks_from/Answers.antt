use Rattle.rope_leaf.proofs.Rows.{row_before, row_after}
use Rattle.rope_leaf.proofs.search.count_rows.masks_from.Goals as goal

pub returns-clause-before : goal.returns-clause-before
returns-clause-before c = λ j early. row_before 0 4294967295 c.args.from j c.requires early

pub returns-clause-following : goal.returns-clause-following
returns-clause-following c = λ j late lt. row_after 0 4294967295 c.args.from j c.requires late lt
