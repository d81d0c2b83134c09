-- The cursor passes one replacement.
use Rattle.std.proofs.Common.{ℕ, ◌+◌, ◌<◌, ◌^◌, List, ap, arith}
use Rattle.std.specs.Str.{chars}
use Rattle.rope_changes.specs.Ops.{Op, len_before, len_after}
use Rattle.rope_changes.specs.Change.{ops_of}
use Rattle.rope_changes.proofs.Steps.{step_before, step_after}
use Rattle.rope_changes.proofs.change_set.Edits.next.Goals.{In-Some}
use Rattle.rope_changes.proofs.change_set.Edits.next.Goals as goal

-- the operations after the replacement
abbrev left_over : In-Some → List Op
left_over c = ops_of c.next.new.self 0

abbrev text : In-Some → List ℕ
text c = chars c.in-Some.edit.text.now

before : (c : In-Some) → c.self.inside.end
    + (c.in-Some.edit.kept + c.in-Some.edit.deleted + len_before (left_over c)) < 2 ^ 63
before c =
    omega (
      arith,
      ap (λ es. len_before (ops_of es 0)) c.in-Some.ensures.0,
      step_before c.in-Some.edit.kept (text c) c.in-Some.edit.deleted (left_over c),
    )

after : (c : In-Some) → c.self.inside.new_end
    + (c.in-Some.edit.kept + c.in-Some.edit.inserted + len_after (left_over c)) < 2 ^ 63
after c =
    omega (
      arith,
      c.in-Some.ensures.1,
      ap (λ es. len_after (ops_of es 0)) c.in-Some.ensures.0,
      step_after c.in-Some.edit.kept (text c) c.in-Some.edit.deleted (left_over c),
    )

pub overflow_add-start : goal.overflow_add-start
overflow_add-start c = omega (arith, before c)

pub overflow_add-new_start : goal.overflow_add-new_start
overflow_add-new_start c = omega (arith, after c)

pub overflow_add-self : goal.overflow_add-self
overflow_add-self c = omega (arith, before c)

pub overflow_add-self-2 : goal.overflow_add-self-2
overflow_add-self-2 c = omega (arith, after (goal.at.overflow_add-self-2 c).In-Some)

pub invariant_of-self-2 : goal.invariant_of-self-2
invariant_of-self-2 c =
    let e = (goal.at.invariant_of-self-2 c).In-Some in
    record { before = omega (arith, before e); after = omega (arith, after e) }
