use Rattle.rope_leaf.proofs.CellRows.{made_room}
use Rattle.rope_leaf.proofs.search.count_rows.put_in.Goals as goal

pub returns : goal.returns
returns c =
    made_room c.args.row.now c.copy_within.new.self c.args.place c.args.count c.requires
    c.copy_within.ensures.len c.copy_within.ensures.after
