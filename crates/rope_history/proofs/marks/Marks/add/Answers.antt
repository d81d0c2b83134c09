use Rattle.std.proofs.Common.{◌≡◌, ◌+◌, ◌≤◌, ◌∷◌, ◌++◌, [], length, get_or, ap, ap₂, sym, ◌∙◌, subst, refl, arith, rules}
use Rattle.std.specs.List.{insert}
use Rattle.std.specs.List.Sorted.{IsPermutation}
use Rattle.std.proofs.lemmas.List.Sorted.{IsPermutation-insert}
use Rattle.rope_history.specs.declared.marks.Mark.{Mark}
use Rattle.rope_history.specs.Marking.{Marking, IsWithin}
use Rattle.rope_history.specs.MarkLists.{marks_in}
use Rattle.rope_history.specs.MarkViews.{IsOrdered}
use Rattle.rope_history.proofs.OrderLaws.{added_in, added_ordered}
use Rattle.rope_history.proofs.marks.Marks.add.Goals as goal

pub invariant_of-self-2 : goal.invariant_of-self-2
invariant_of-self-2 c =
    let inside = c.self.inside in
    let marks = inside.marks.items in
    let order = inside.order.items in
    let start = c.args.start in
    let position = c.position_after-position.result in
    let m : Mark = record {
      id = inside.next_id;
      start = start;
      end = c.args.end;
      start_side = c.args.start_side;
      end_side = c.args.end_side;
    } in
    let slice = c.as_slice.ensures in
    let slots = c.as_slice-2.ensures in
    let n : c.len-index.result ≡ length marks =
    omega (arith, c.len-index.ensures, slice.len, ap length slice.value) in
    let pushed : c.push.new.self.items ≡ marks ++ m ∷ [] = search rules in
    let inserted : c.insert.new.self.items ≡ insert order position c.len-index.result =
    search rules in
    let next : c.in-Some.next_id ≡ inside.next_id + 1 = search rules in
    let same : marks_in c.as_slice.result.now c.as_slice-2.result.now ≡ marks_in marks order =
    ap₂ marks_in slice.value slots.value in
    let found = c.position_after-position.ensures in
    let within : IsWithin inside.len m = record { ordered = omega arith; within = omega arith } in
    subst (λ ms. IsOrdered ms c.insert.new.self.items inside.len c.in-Some.next_id) (sym pushed)
    (subst (λ slots. IsOrdered (marks ++ m ∷ []) slots inside.len c.in-Some.next_id)
    (sym (inserted ∙ ap (insert order position) n))
    (subst (IsOrdered (marks ++ m ∷ []) (insert order position (length marks)) inside.len)
    (sym next)
    (added_ordered marks order inside.len inside.next_id m position c.self.invariant refl within
    (omega (arith, found.within, ap length slots.value))
    (λ k d lt. subst (λ ms. (get_or ms k d).start ≤ start) same (found.before k d lt))
    (λ k d le lt. subst (λ ms. start ≤ (get_or ms k d).start) same
    (found.after k d le (omega (arith, lt, ap length slots.value)))))))

pub returns-clause-added : goal.returns-clause-added
returns-clause-added c =
    let inside = c.self.inside in
    let marks = inside.marks.items in
    let order = inside.order.items in
    let position = c.position_after-position.result in
    let m : Mark = record {
      id = inside.next_id;
      start = c.args.start;
      end = c.args.end;
      start_side = c.args.start_side;
      end_side = c.args.end_side;
    } in
    let slice = c.as_slice.ensures in
    let n : c.len-index.result ≡ length marks =
    omega (arith, c.len-index.ensures, slice.len, ap length slice.value) in
    let pushed : c.push.new.self.items ≡ marks ++ m ∷ [] = search rules in
    let inserted : c.insert.new.self.items ≡ insert order position c.len-index.result =
    search rules in
    let new = marks_in c.push.new.self.items c.insert.new.self.items in
    let is : new ≡ insert (marks_in marks order) position m =
    ap₂ marks_in pushed (inserted ∙ ap (insert order position) n)
    ∙ added_in marks order position m c.self.invariant.within in
    subst (λ (s : Marking). IsPermutation (m ∷ s.marks) new) c.self.view_is
    (subst (IsPermutation (m ∷ marks_in marks order)) (sym is)
    (IsPermutation-insert (marks_in marks order) position m))
