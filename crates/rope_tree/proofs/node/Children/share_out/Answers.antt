use Rattle.std.proofs.Common.{◌-◌, ◌++◌, drop, ap, ap₂, ◌∙◌}
use Rattle.rope_tree.proofs.MoveLaws.{movable, movable_left, movable_right, first_split, second_split, move_both, move_end, move_longer, move_start, move_rest}
use Rattle.rope_tree.proofs.node.Children.share_out.Goals.{then-first-count, else-first-count}
use Rattle.rope_tree.proofs.node.Children.share_out.Goals as goal

pub take_from-requires-clause-level :
    goal.take_from-requires-clause-level
take_from-requires-clause-level c =
    rw c.requires.none (move_end c.args.self.now _ _
    (movable _ c.requires.level c.requires.few)).level

pub take_from-requires-clause-level_other :
    goal.take_from-requires-clause-level_other
take_from-requires-clause-level_other c =
    (movable_left _ c.args.right.now (movable _ c.requires.level c.requires.few)).level

pub take_from-requires-clause-few :
    goal.take_from-requires-clause-few
take_from-requires-clause-few c =
    rw c.requires.none (move_end c.args.self.now _ _
    (movable _ c.requires.level c.requires.few)).few

pub take_from-requires-then-first-count-clause-level :
    goal.take_from-requires-then-first-count-clause-level
take_from-requires-then-first-count-clause-level c =
    rw (c.take_from.ensures.moved, c.requires.none)
    (move_both c.args.self.now _ _
    (movable _ c.requires.level c.requires.few)).level

pub take_from-requires-then-first-count-clause-level_other :
    goal.take_from-requires-then-first-count-clause-level_other
take_from-requires-then-first-count-clause-level_other c =
    (movable_right c.args.self.now _ (movable _ c.requires.level c.requires.few)).level

pub take_from-requires-then-first-count-clause-few :
    goal.take_from-requires-then-first-count-clause-few
take_from-requires-then-first-count-clause-few c =
    rw (c.take_from.ensures.moved, c.requires.none)
    (move_both c.args.self.now _ _
    (movable _ c.requires.level c.requires.few)).few

pub take_from-requires-else-first-count-clause-level :
    goal.take_from-requires-else-first-count-clause-level
take_from-requires-else-first-count-clause-level c =
    rw c.requires.none (move_rest c.args.self.now _ _
    (movable _ c.requires.level c.requires.few)).level

pub take_from-requires-else-first-count-clause-level_other :
    goal.take_from-requires-else-first-count-clause-level_other
take_from-requires-else-first-count-clause-level_other c =
    (movable_right c.args.self.now _ (movable _ c.requires.level c.requires.few)).level

pub take_from-requires-else-first-count-clause-few :
    goal.take_from-requires-else-first-count-clause-few
take_from-requires-else-first-count-clause-few c =
    rw c.requires.none (move_rest c.args.self.now _ _
    (movable _ c.requires.level c.requires.few)).few

pub take_from-requires-else-first-count-2-clause-level :
    goal.take_from-requires-else-first-count-2-clause-level
take_from-requires-else-first-count-2-clause-level c =
    rw c.take_from-else-first-count.ensures.rest
    (move_longer c.args.self.now _ _
    (movable _ c.requires.level c.requires.few)).level

pub take_from-requires-else-first-count-2-clause-level_other :
    goal.take_from-requires-else-first-count-2-clause-level_other
take_from-requires-else-first-count-2-clause-level_other c =
    rw c.take_from-else-first-count.ensures.rest
    (move_start c.args.self.now _ _
    (movable _ c.requires.level c.requires.few)).level

pub take_from-requires-else-first-count-2-clause-few :
    goal.take_from-requires-else-first-count-2-clause-few
take_from-requires-else-first-count-2-clause-few c =
    rw c.take_from-else-first-count.ensures.rest
    (move_longer c.args.self.now _ _
    (movable _ c.requires.level c.requires.few)).few

pub returns-clause-same : goal.returns-clause-same
returns-clause-same c = elim c.if-first-count.branch [
  | then-first-count w ↦
      ap₂ (λ x y. x ++ y) (w.self-is ∙ w.take_from.ensures.rest)
      (c.swap.ensures.y_after ∙ w.pocket-is ∙ w.take_from-then-first-count.ensures.moved
      ∙ ap (λ l. l ++ c.args.right.now) (w.take_from.ensures.moved
      ∙ ap (λ l. l ++ drop c.args.count c.args.self.now) c.requires.none))
      ∙ first_split c.args.self.now c.args.right.now c.args.count
  | else-first-count w ↦
      let rest = c.args.count - c.len-first.result in
      ap₂ (λ x y. x ++ y) (w.self-is ∙ w.take_from-else-first-count-2.ensures.moved
      ∙ ap (λ l. c.args.self.now ++ l) w.take_from-else-first-count.ensures.rest)
      (c.swap.ensures.y_after ∙ w.pocket-is ∙ w.take_from-else-first-count.ensures.moved
      ∙ ap (λ l. l ++ drop rest c.args.right.now) c.requires.none)
      ∙ second_split c.args.self.now c.args.right.now rest
]
