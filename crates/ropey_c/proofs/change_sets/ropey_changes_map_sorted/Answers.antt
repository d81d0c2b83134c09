use Rattle.std.proofs.Common.{rules}
use Rattle.ropey_c.proofs.change_sets.ropey_changes_map_sorted.Goals as goal

pub returns : goal.returns
returns c = search rules
