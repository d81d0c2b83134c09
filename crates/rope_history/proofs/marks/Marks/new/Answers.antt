use Rattle.std.proofs.Common.{sym, subst, []}
use Rattle.rope_history.specs.MarkViews.{IsOrdered}
use Rattle.rope_history.proofs.OrderLaws.{none_ordered}
use Rattle.rope_history.proofs.marks.Marks.new.Goals as goal

pub invariant_of-result : goal.invariant_of-result
invariant_of-result c =
    subst (λ ms. IsOrdered ms c.new-2.result.items c.args.len 0) (sym c.new.ensures.items)
    (subst (λ order. IsOrdered [] order c.args.len 0) (sym c.new-2.ensures.items)
    (none_ordered c.args.len))
