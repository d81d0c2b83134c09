use Rattle.std.proofs.Common.{ℕ, ◌≡◌, ◌++◌, List, length, take, drop, ap, ap₂, sym, ◌∙◌, subst, arith}
use Rattle.std.specs.Prelude.{map}
use Rattle.std.specs.List.{All}
use Rattle.std.specs.List.Sorted.{IsPermutation, IsNonDecreasingBy}
use Rattle.rope_changes.specs.Change.{ops, before}
use Rattle.rope_history.specs.declared.marks.Mark.{Mark}
use Rattle.rope_history.specs.Marking.{Marking, IsWithin, moved_mark, start_of}
use Rattle.rope_history.specs.MarkLists.{marks_in}
use Rattle.rope_history.specs.MarkViews.{IsOrdered}
use Rattle.rope_history.proofs.MarkLaws.{in_place}
use Rattle.rope_history.proofs.OrderLaws.{all_of, moved_ordered, moved_permuted}
use Rattle.rope_history.proofs.marks.Marks.apply.Goals as goal

pub move_all-requires : goal.move_all-requires
move_all-requires c =
    let inside = c.self.inside in
    let kept = c.self.invariant in
    let len : inside.len ≡ before c.args.change.now =
    sym c.if-len_before-self.false ∙ c.len_before.ensures in
    let within : All (IsWithin inside.len) inside.marks.items =
    all_of (IsWithin inside.len) inside.marks.items inside.order.items kept.is.within kept.covers in
    subst (λ ms. All (IsWithin (before c.args.change.now)) ms) (sym c.as_mut_slice.ensures.value)
    (subst (λ n. All (IsWithin n) inside.marks.items) len within)

pub invariant_of-self : goal.invariant_of-self
invariant_of-self c =
    let inside = c.self.inside in
    let marks = inside.marks.items in
    let order = inside.order.items in
    let change = c.args.change.now in
    let after = map (moved_mark (ops change)) marks in
    let lent = c.as_mut_slice.ensures in
    let lent_order = c.as_mut_slice-2.ensures in
    let moved = c.move_all.new.marks in
    let new = c.sort_by_start.new.order in
    let len : inside.len ≡ before change =
    sym c.if-len_before-self.false ∙ c.len_before.ensures in
    let becomes : take inside.marks.len (moved ++ drop (length moved) marks) ≡ after =
    in_place inside.marks.len moved marks
    (omega (arith, c.move_all.auto.marks, ap length lent.value))
    (omega (arith, lent.len, ap length lent.value))
    ∙ c.move_all.ensures ∙ ap (map (moved_mark (ops change))) lent.value in
    let whole : take inside.order.len (new ++ drop (length new) order) ≡ new =
    in_place inside.order.len new order
    (omega (arith, c.sort_by_start.auto.order, ap length lent_order.value))
    (omega (arith, lent_order.len, ap length lent_order.value)) in
    let sorted = c.sort_by_start.ensures in
    let moves : IsPermutation order new =
    subst (λ xs. IsPermutation xs new) lent_order.value sorted.moved in
    let in_order : IsNonDecreasingBy start_of (marks_in after new) =
    subst (λ ms. IsNonDecreasingBy start_of (marks_in ms new))
    (c.as_slice.ensures.value ∙ becomes) sorted.in_order in
    let Is : List Mark → List ℕ → ℕ → Type 0 = λ ms xs n. IsOrdered ms xs n inside.next_id in
    subst (λ ms. Is ms (take inside.order.len (new ++ drop (length new) order))
    c.len_after-self-inside.result) (sym becomes)
    (subst (λ xs. Is after xs c.len_after-self-inside.result) (sym whole)
    (subst (Is after new) (sym c.len_after-self-inside.ensures)
    (moved_ordered (ops change) marks order new inside.next_id
    (subst (Is marks order) len c.self.invariant) moves in_order)))

pub returns-clause-moved : goal.returns-clause-moved
returns-clause-moved c =
    let inside = c.self.inside in
    let marks = inside.marks.items in
    let order = inside.order.items in
    let change = c.args.change.now in
    let f = moved_mark (ops change) in
    let after = map f marks in
    let lent = c.as_mut_slice.ensures in
    let lent_order = c.as_mut_slice-2.ensures in
    let moved = c.move_all.new.marks in
    let new = c.sort_by_start.new.order in
    let becomes : take inside.marks.len (moved ++ drop (length moved) marks) ≡ after =
    in_place inside.marks.len moved marks
    (omega (arith, c.move_all.auto.marks, ap length lent.value))
    (omega (arith, lent.len, ap length lent.value))
    ∙ c.move_all.ensures ∙ ap (map f) lent.value in
    let whole : take inside.order.len (new ++ drop (length new) order) ≡ new =
    in_place inside.order.len new order
    (omega (arith, c.sort_by_start.auto.order, ap length lent_order.value))
    (omega (arith, lent_order.len, ap length lent_order.value)) in
    let moves : IsPermutation order new =
    subst (λ xs. IsPermutation xs new) lent_order.value c.sort_by_start.ensures.moved in
    let shown = marks_in (take inside.marks.len (moved ++ drop (length moved) marks))
    (take inside.order.len (new ++ drop (length new) order)) in
    subst (λ (s : Marking). IsPermutation (map f s.marks) shown) c.self.view_is
    (subst (IsPermutation (map f (marks_in marks order))) (sym (ap₂ marks_in becomes whole))
    (moved_permuted (ops change) marks order new c.self.invariant.within moves))
