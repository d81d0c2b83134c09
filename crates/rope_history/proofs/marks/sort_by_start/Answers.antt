use Rattle.std.proofs.Common.{rules}
use Rattle.std.proofs.lemmas.List.Sorted.{IsNonDecreasingBy-from_sort_by_key}
use Rattle.rope_history.specs.MarkLists.{mark_at}
use Rattle.rope_history.proofs.OrderLaws.{sorted_in}
use Rattle.rope_history.proofs.marks.sort_by_start.Goals as goal

pub returns-clause-in_order : goal.returns-clause-in_order
returns-clause-in_order c =
    let marks = c.args.marks.now in
    let new = c.sort_unstable_by_key.new.self in
    sorted_in marks new
    (IsNonDecreasingBy-from_sort_by_key (λ i. (mark_at marks i).start) new
    c.sort_unstable_by_key.ensures.sorted (λ a r q k. search rules))
