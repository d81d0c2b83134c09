use Rattle.std.proofs.Common.{◌-◌, length, set, take, arith}
use Rattle.rope_tree.proofs.ListedLaws.{rotated, last_set}
use Rattle.rope_tree.proofs.node.moves.put_first.Goals as goal

pub returns : goal.returns
returns c =
    let xs = c.args.nodes.now in
    rotated (take (length xs - 1) xs) c.args.node (set xs (length xs - 1) c.args.node)
    c.rotate_right.new.self (last_set xs c.args.node (omega (arith, c.requires)))
    c.rotate_right.ensures.after
