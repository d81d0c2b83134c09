use Rattle.std.proofs.Common.{◌+◌, ◌-◌, length, set, take, arith}
use Rattle.std.proofs.lemmas.List.{length-take-le}
use Rattle.rope_tree.proofs.ListedLaws.{turned, last_set}
use Rattle.rope_tree.proofs.node.in_place.put_after.Goals as goal

pub returns : goal.returns
returns c =
    let xs = c.args.nodes.now in
    let ys = take (length xs - 1) xs in
    turned ys (set xs (length xs - 1) c.args.node) (c.args.place + 1) c.args.node
    c.rotate_right.new.self (last_set xs c.args.node (omega (arith, c.requires)))
    (omega (arith, c.requires, length-take-le (length xs - 1) xs (omega arith)))
    c.rotate_right.ensures.after
