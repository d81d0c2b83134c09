use Rattle.std.proofs.Common.{◌≡◌, ◌≢◌, ◌<◌, ◌∷◌, ◌++◌, length, get_or, take, drop, ap, ap₂, sym, ◌∙◌, subst, refl, arith}
use Rattle.std.specs.Prelude.{map}
use Rattle.std.specs.List.{All, remove}
use Rattle.std.specs.List.Sorted.{IsPermutation}
use Rattle.rope_history.specs.declared.marks.Mark.{Mark}
use Rattle.rope_history.specs.Marking.{Marking, id_of}
use Rattle.rope_history.specs.MarkLists.{closed, marks_in}
use Rattle.rope_history.specs.MarkViews.{IsOrdered}
use Rattle.rope_history.proofs.MarkLaws.{in_place}
use Rattle.rope_history.proofs.OrderLaws.{all_in, is_found, removed_ordered, removed_permuted}
use Rattle.rope_history.proofs.marks.Marks.remove.Goals as goal

pub returns-then-index-len-clause-none : goal.returns-then-index-len-clause-none
returns-then-index-len-clause-none c =
    let marks = c.self.inside.marks.items in
    let order = c.self.inside.order.items in
    let slice = c.as_slice.ensures in
    let Other : Mark → Type 0 = λ m. m.id ≢ c.args.id in
    let none = c.index_of-index.ensures.none
    (omega (arith, c.if-index-len.true, c.len.ensures, slice.len)) in (
      subst (λ (s : Marking). All Other s.marks) c.self.view_is
          (all_in Other marks order (subst (All Other) slice.value none) c.self.invariant.within),
      refl,
    )

pub remove-requires : goal.remove-requires
remove-requires c =
    let marks = c.self.inside.marks.items in
    let order = c.self.inside.order.items in
    let slice = c.as_slice.ensures in
    let slots = c.as_slice-2.ensures in
    let index = c.index_of-index.result in
    let found = c.position_of-position.ensures in
    let at : index < length marks =
    omega (
      arith,
      c.if-index-len.false,
      c.len.ensures,
      slice.len,
      ap length slice.value,
      c.index_of-index.ensures.within,
    ) in
    let n = ap length slots.value in
    let p_at = is_found marks order c.position_of-position.result index c.self.invariant.covers at
    (omega (arith, n, found.within))
    (λ e. subst (All (λ i. i ≢ index)) slots.value (found.none (omega (arith, e, n)))) in
    omega (arith, p_at, n, slots.len)

pub invariant_of-self : goal.invariant_of-self
invariant_of-self c =
    let inside = c.self.inside in
    let marks = inside.marks.items in
    let order = inside.order.items in
    let slice = c.as_slice.ensures in
    let slots = c.as_slice-2.ensures in
    let index = c.index_of-index.result in
    let position = c.position_of-position.result in
    let found = c.position_of-position.ensures in
    let lent = c.as_mut_slice.ensures in
    let left = c.remove.new.self.items in
    let new = c.close_gap.new.order in
    let at : index < length marks =
    omega (
      arith,
      c.if-index-len.false,
      c.len.ensures,
      slice.len,
      ap length slice.value,
      c.index_of-index.ensures.within,
    ) in
    let n = ap length slots.value in
    let p_at = is_found marks order position index c.self.invariant.covers at
    (omega (arith, n, found.within))
    (λ e. subst (All (λ i. i ≢ index)) slots.value (found.none (omega (arith, e, n)))) in
    let is : get_or order position 0 ≡ index =
    subst (λ xs. get_or xs position 0 ≡ index) slots.value (found.found (omega (arith, p_at, n))) in
    let whole : take c.remove.new.self.len (new ++ drop (length new) left) ≡ new =
    in_place c.remove.new.self.len new left
    (omega (arith, c.close_gap.auto.order, ap length lent.value))
    (omega (arith, lent.len, ap length lent.value)) in
    let becomes : new ≡ map (closed index) (remove order position) =
    c.close_gap.ensures ∙ ap (map (closed index)) (lent.value ∙ c.remove.ensures.items) in
    let slots_left = take c.remove.new.self.len (new ++ drop (length new) left) in
    subst (λ ms. IsOrdered ms slots_left inside.len inside.next_id) (sym c.remove-2.ensures.items)
    (subst (λ slots. IsOrdered (remove marks index) slots inside.len inside.next_id)
    (sym (whole ∙ becomes))
    (removed_ordered marks order inside.len inside.next_id position index c.self.invariant at p_at
    is))

pub returns-clause-found : goal.returns-clause-found
returns-clause-found c =
    let inside = c.self.inside in
    let marks = inside.marks.items in
    let order = inside.order.items in
    let slice = c.as_slice.ensures in
    let slots = c.as_slice-2.ensures in
    let index = c.index_of-index.result in
    let position = c.position_of-position.result in
    let found = c.position_of-position.ensures in
    let lent = c.as_mut_slice.ensures in
    let left = c.remove.new.self.items in
    let new = c.close_gap.new.order in
    let m = c.remove-2.result in
    let at : index < length marks =
    omega (
      arith,
      c.if-index-len.false,
      c.len.ensures,
      slice.len,
      ap length slice.value,
      c.index_of-index.ensures.within,
    ) in
    let n = ap length slots.value in
    let p_at = is_found marks order position index c.self.invariant.covers at
    (omega (arith, n, found.within))
    (λ e. subst (All (λ i. i ≢ index)) slots.value (found.none (omega (arith, e, n)))) in
    let is : get_or order position 0 ≡ index =
    subst (λ xs. get_or xs position 0 ≡ index) slots.value (found.found (omega (arith, p_at, n))) in
    let whole : take c.remove.new.self.len (new ++ drop (length new) left) ≡ new =
    in_place c.remove.new.self.len new left
    (omega (arith, c.close_gap.auto.order, ap length lent.value))
    (omega (arith, lent.len, ap length lent.value)) in
    let becomes : new ≡ map (closed index) (remove order position) =
    c.close_gap.ensures ∙ ap (map (closed index)) (lent.value ∙ c.remove.ensures.items) in
    let kept = c.self.invariant in
    let moves =
    removed_permuted marks order position index m kept.is.distinct kept.within at p_at is
    c.remove-2.ensures.value in
    let slots_left = take c.remove.new.self.len (new ++ drop (length new) left) in
    let marks_left = marks_in c.remove-2.new.self.items slots_left in
    let read : m ≡ get_or c.as_slice.result.now index m =
    c.remove-2.ensures.value ∙ ap (λ ms. get_or ms index m) (sym slice.value) in (
      ap id_of read ∙ c.index_of-index.ensures.found m (omega (arith, at, ap length slice.value)),
      subst (λ (s : Marking). IsPermutation s.marks (m ∷ marks_left)) c.self.view_is
          (subst (λ ms. IsPermutation (marks_in marks order) (m ∷ ms))
          (sym (ap₂ marks_in c.remove-2.ensures.items (whole ∙ becomes))) moves),
    )
