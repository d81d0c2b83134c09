use Rattle.rope_leaf.proofs.CountsKept.{many}
use Rattle.rope_leaf.proofs.search.count_rows.CountRows.len.Goals as goal

pub returns : goal.returns
returns c = many c.self.inside c.args.self.now c.self.view_is
