use Rattle.rope_tree.proofs.MoveLaws.{movable, movable_right}
use Rattle.rope_tree.proofs.node.Children.gather.Goals as goal

pub take_from-requires-clause-level_other : goal.take_from-requires-clause-level_other
take_from-requires-clause-level_other c =
    (movable_right c.args.self.now c.args.right.now
    (movable _ c.requires.level c.requires.few)).level
