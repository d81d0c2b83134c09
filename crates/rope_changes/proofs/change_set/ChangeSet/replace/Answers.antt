use Rattle.std.proofs.Common.{◌≡◌, ◌+◌, ◌-◌, ◌≤◌, length, ap, arith}
use Rattle.std.specs.Str.{chars}
use Rattle.rope_changes.specs.Ops.{len_before, len_after}
use Rattle.rope_changes.specs.Change.{Change, before, after, ops_of}
use Rattle.rope_changes.proofs.Appended.{appended_before, appended_after, appended_normal, rest_before, rest_after}
use Rattle.rope_changes.proofs.Lasts.{last_fits}
use Rattle.rope_changes.proofs.change_set.ChangeSet.replace.Goals.{In_ok-add, else-inserted-eq0-via-then-inserted-eq0+else-deleted-eq0, else-inserted-eq0-via-else-inserted-eq0}
use Rattle.rope_changes.proofs.change_set.ChangeSet.replace.Goals as goal

pub overflow_sub-last_end : goal.overflow_sub-last_end
overflow_sub-last_end c = omega (arith, rest_before c.self.inside.edits c.self.inside.rest)

pub overflow_sub-others : goal.overflow_sub-others
overflow_sub-others c = omega (arith, rest_after c.self.inside.edits c.self.inside.rest)

pub add-requires-clause-fits : goal.add-requires-clause-fits
add-requires-clause-fits c =
    last_fits c.self.inside.edits c.self.inside.rest _ _ (omega arith) (omega arith)

-- the edits that are left at the end, and both lengths
ends_at : (c : In_ok-add)
    → c.args.start - (c.self.inside.len_before - c.self.inside.rest) + (c.args.end - c.args.start)
    + (c.self.inside.len_before - c.args.end) ≡ c.self.inside.rest
ends_at c = omega (arith, rest_before c.self.inside.edits c.self.inside.rest)

made_before : (c : In_ok-add) → c.self.inside.len_before
    ≡ len_before (ops_of c.add.new.self (c.self.inside.len_before - c.args.end))
made_before c =
    let edits = c.self.inside.edits in
    let rest = c.self.inside.len_before - c.args.end in
    omega (
      arith,
      ap (λ es. len_before (ops_of es rest)) c.in_ok-add.ensures.ok,
      appended_before edits (c.args.start - (c.self.inside.len_before - c.self.inside.rest))
          (chars c.args.text.now) (c.args.end - c.args.start) rest,
      ap (λ r. len_before (ops_of edits r)) (ends_at c),
    )

made_after : (c : In_ok-add)
    → c.self.inside.len_after - (c.args.end - c.args.start) + c.count_chars-inserted.result
    ≡ len_after (ops_of c.add.new.self (c.self.inside.len_before - c.args.end))
made_after c =
    let edits = c.self.inside.edits in
    let rest = c.self.inside.len_before - c.args.end in
    omega (
      arith,
      ap (λ es. len_after (ops_of es rest)) c.in_ok-add.ensures.ok,
      appended_after edits (c.args.start - (c.self.inside.len_before - c.self.inside.rest))
          (chars c.args.text.now) (c.args.end - c.args.start) rest,
      ap (λ r. len_after (ops_of edits r)) (ends_at c),
      rest_after edits c.self.inside.rest,
      rest_before edits c.self.inside.rest,
    )

pub invariant_of-self-2 : goal.invariant_of-self-2
invariant_of-self-2 c =
    let m = (goal.at.invariant_of-self-2 c).In_ok-add in
    let text = chars c.args.text.now in
    let deleted = c.args.end - c.args.start in
    let some : 1 ≤ length text + deleted = elim c.else-inserted-eq0.branch [
      | else-inserted-eq0-via-then-inserted-eq0+else-deleted-eq0 w ↦ omega arith
      | else-inserted-eq0-via-else-inserted-eq0 w ↦ omega arith
    ] in
    record {
      before_is = made_before m;
      after_is = made_after m;
      before_fits = omega arith;
      after_fits = omega arith;
      normal = rw c.in_ok-add.ensures.ok
          (appended_normal c.self.inside.edits _ text deleted c.self.invariant.normal some);
    }

pub returns-clause-len_before : goal.returns-clause-len_before
returns-clause-len_before c =
    omega (
      arith,
      made_before (goal.at.returns-clause-len_before c).In_ok-add,
      ap (λ (x : Change). before x) c.self.view_is,
    )

pub returns-clause-len_after : goal.returns-clause-len_after
returns-clause-len_after c =
    omega (
      arith,
      made_after (goal.at.returns-clause-len_after c).In_ok-add,
      ap (λ (x : Change). after x) c.self.view_is,
    )
