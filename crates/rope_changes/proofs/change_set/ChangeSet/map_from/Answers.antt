-- Each turn passes one replacement, up to the one at the index.
use Rattle.std.proofs.Common.{◌≡◌, ℕ, ◌+◌, ◌-◌, ◌<◌, ◌≤◌, List, [], length, drop, get_or, ap, sym, subst, arith}
use Rattle.std.proofs.lemmas.List.{drop_all}
use Rattle.rope_changes.specs.Ops.{Op, len_before, len_after}
use Rattle.rope_changes.specs.Change.{Edit, Change, ops_of, ops, before, after, IsNormal}
use Rattle.rope_changes.specs.Held.{change_of}
use Rattle.rope_changes.specs.Moved.{moved}
use Rattle.rope_changes.specs.Packed.{AreLengths, AreLengthsOf}
use Rattle.rope_changes.specs.Passed.{Reaches, IsPassed, IsBetween, step_of}
use Rattle.rope_changes.specs.declared.map.Passed.{Passed}
use Rattle.rope_changes.specs.declared.replacements.Lengths.{Lengths}
use Rattle.rope_changes.specs.declared.side.Side.{Side}
use Rattle.rope_changes.proofs.Prefixes.{rest_stays, keeping_before}
use Rattle.rope_changes.proofs.Steps.{step_before, step_after}
use Rattle.rope_changes.proofs.Passing.{apart_starts, normal_later, text, later, ops_at, next_passed, between_next, between_last}
use Rattle.rope_changes.proofs.change_set.ChangeSet.map_from.Goals as goal

abbrev none : Lengths
none = record { kept = 0; inserted = 0; deleted = 0; bytes = 0 }

abbrev no_edit : Edit
no_edit = record { kept = 0; text = []; deleted = 0 }

-- the next replacement
module _ (c : Change) (ls : List Lengths) (p : Passed) (are : AreLengths c.edits ls)
    (within : p.count < length ls) (passed : IsPassed c p) where
  abbrev l : Lengths
  l = get_or ls p.count none

  below : p.count < length c.edits
  below = omega (arith, are.count)

  same : AreLengthsOf (get_or c.edits p.count no_edit) l
  same = are.each p.count no_edit none within

  abbrev inserted : List ℕ
  inserted = text c.edits c.rest p.count no_edit l below same

  abbrev rest : List Op
  rest = later c.edits c.rest p.count no_edit l below same

  here : ops_of (drop p.count c.edits) c.rest ≡ step_of l inserted rest
  here = ops_at c.edits c.rest p.count no_edit l below same

  before_end : p.end + (l.kept + l.deleted) ≤ before c
  before_end =
      omega (
        arith,
        passed.before_is,
        ap len_before here,
        step_before l.kept inserted l.deleted rest,
      )

  after_end : p.new_end + (l.kept + l.inserted) ≤ after c
  after_end =
      omega (
        arith,
        same.inserted,
        passed.after_is,
        ap len_after here,
        step_after l.kept inserted l.deleted rest,
      )

  -- where it moves an index that it reaches
  moves : (side : Side) (i n : ℕ) → IsNormal c → Reaches p i
      → ((t : List ℕ) (ops : List Op) → l.inserted ≡ length t → moved side ops 0 ≡ 0
      → n ≡ moved side (step_of l t ops) (i - p.end))
      → p.new_end + n ≡ moved side (ops c) i
  moves side i n normal reaches maps =
      let starts = apart_starts side (drop (p.count + 1) c.edits) c.rest
      (normal_later c.edits p.count normal) in
      omega (
        arith,
        passed.moves side i reaches,
        ap (λ x. moved side x (i - p.end)) here,
        maps inserted rest same.inserted starts,
      )

-- an index after all replacements
after_all : (c : Change) (p : Passed) (side : Side) (i : ℕ) → length c.edits ≤ p.count
    → IsPassed c p → Reaches p i → i ≤ before c
    → p.new_end + (i - p.end) ≡ moved side (ops c) i
after_all c p side i all passed reaches within =
    let last : drop p.count c.edits ≡ [] = drop_all p.count c.edits all in
    let fits : i - p.end ≤ c.rest =
    omega (
      arith,
      passed.before_is,
      ap (λ es. len_before (ops_of es c.rest)) last,
      keeping_before c.rest [],
    ) in
    omega (
      arith,
      passed.moves side i reaches,
      ap (λ es. moved side (ops_of es c.rest) (i - p.end)) last,
      rest_stays side c.rest (i - p.end) fits,
    )

pub overflow_add-edit : goal.overflow_add-edit
overflow_add-edit c =
    let whole = change_of c.self.inside in
    let p = c.loop-passed.passed in
    let ls = c.lengths-lengths.result.now in
    let passed : IsPassed whole p = subst (λ (x : Change). IsPassed x p)
    (sym c.self.view_is) c.loop-passed.invariant.passed in
    omega (arith, before_end whole ls p c.lengths-lengths.ensures c.loop-passed-test.true passed)

pub map-requires-clause-fits : goal.map-requires-clause-fits
map-requires-clause-fits c =
    let whole = change_of c.self.inside in
    let p = c.loop-passed.passed in
    let ls = c.lengths-lengths.result.now in
    let passed : IsPassed whole p = subst (λ (x : Change). IsPassed x p)
    (sym c.self.view_is) c.loop-passed.invariant.passed in
    omega (arith, after_end whole ls p c.lengths-lengths.ensures c.loop-passed-test.true passed)

pub overflow_add-passed : goal.overflow_add-passed
overflow_add-passed c =
    let whole = change_of c.self.inside in
    let p = c.loop-passed.passed in
    let ls = c.lengths-lengths.result.now in
    let passed : IsPassed whole p = subst (λ (x : Change). IsPassed x p)
    (sym c.self.view_is) c.loop-passed.invariant.passed in
    omega (arith, before_end whole ls p c.lengths-lengths.ensures c.loop-passed-test.true passed)

pub overflow_add-result : goal.overflow_add-result
overflow_add-result c =
    let whole = change_of c.self.inside in
    let p = c.loop-passed.passed in
    let ls = c.lengths-lengths.result.now in
    let passed : IsPassed whole p = subst (λ (x : Change). IsPassed x p)
    (sym c.self.view_is) c.loop-passed.invariant.passed in
    omega (
      arith,
      after_end whole ls p c.lengths-lengths.ensures c.loop-passed-test.true passed,
      c.map.ensures.within,
    )

pub returns-then-left-edit-clause-moved : goal.returns-then-left-edit-clause-moved
returns-then-left-edit-clause-moved c =
    let whole = change_of c.self.inside in
    let p = c.loop-passed.passed in
    let ls = c.lengths-lengths.result.now in
    let passed : IsPassed whole p = subst (λ (x : Change). IsPassed x p)
    (sym c.self.view_is) c.loop-passed.invariant.passed in
    let h = moves whole ls p c.lengths-lengths.ensures c.loop-passed-test.true passed
    c.args.side
    c.args.char_idx c.map.result c.self.invariant.normal c.loop-passed.invariant.reaches
    c.map.ensures.moved in
    omega (arith, h, ap (λ (x : Change). moved c.args.side (ops x) c.args.char_idx) c.self.view_is)

pub returns-then-left-edit-clause-between : goal.returns-then-left-edit-clause-between
returns-then-left-edit-clause-between c =
    let whole = change_of c.self.inside in
    let p = c.loop-passed.passed in
    let ls = c.lengths-lengths.result.now in
    let passed : IsPassed whole p = subst (λ (x : Change). IsPassed x p)
    (sym c.self.view_is) c.loop-passed.invariant.passed in
    let q : Passed = record {
      count = p.count;
      end = p.end;
      new_end = p.new_end;
      start = p.end + (get_or ls p.count none).kept;
    } in
    subst (λ (x : Change). IsBetween x q) c.self.view_is
    (between_next whole.edits whole.rest p.count no_edit (get_or ls p.count none)
    (below whole ls p c.lengths-lengths.ensures c.loop-passed-test.true passed)
    (same whole ls p c.lengths-lengths.ensures c.loop-passed-test.true passed)
    p.end p.new_end p.start passed)

pub overflow_add-passed-in-loop-passed-4 : goal.overflow_add-passed-in-loop-passed-4
overflow_add-passed-in-loop-passed-4 c =
    let whole = change_of c.self.inside in
    let p = c.loop-passed.passed in
    let ls = c.lengths-lengths.result.now in
    let passed : IsPassed whole p = subst (λ (x : Change). IsPassed x p)
    (sym c.self.view_is) c.loop-passed.invariant.passed in
    omega (arith, after_end whole ls p c.lengths-lengths.ensures c.loop-passed-test.true passed)

pub overflow_add-passed-in-loop-passed-5 : goal.overflow_add-passed-in-loop-passed-5
overflow_add-passed-in-loop-passed-5 c =
    let whole = change_of c.self.inside in
    let p = c.loop-passed.passed in
    let ls = c.lengths-lengths.result.now in
    let passed : IsPassed whole p = subst (λ (x : Change). IsPassed x p)
    (sym c.self.view_is) c.loop-passed.invariant.passed in
    omega (arith, after_end whole ls p c.lengths-lengths.ensures c.loop-passed-test.true passed)

pub loop-passed-preserved : goal.loop-passed-preserved
loop-passed-preserved c =
    let whole = change_of c.self.inside in
    let p = c.loop-passed.passed in
    let ls = c.lengths-lengths.result.now in
    let passed : IsPassed whole p = subst (λ (x : Change). IsPassed x p)
    (sym c.self.view_is) c.loop-passed.invariant.passed in
    let l = get_or ls p.count none in
    let q : Passed = record {
      count = p.count + 1;
      end = p.end + (l.kept + l.deleted);
      new_end = p.new_end + (l.kept + l.inserted);
      start = p.start;
    } in
    record {
      reaches = record { le = omega arith; more = λ _. omega arith };
      passed = subst (λ (x : Change). IsPassed x q) c.self.view_is
          (next_passed whole.edits whole.rest p.count no_edit l
          (below whole ls p c.lengths-lengths.ensures c.loop-passed-test.true passed)
          (same whole ls p c.lengths-lengths.ensures c.loop-passed-test.true passed) p.end p.new_end
          p.start p.start passed);
    }

pub returns-clause-moved : goal.returns-clause-moved
returns-clause-moved c =
    let whole = change_of c.self.inside in
    let p = c.loop-passed.passed in
    let ls = c.lengths-lengths.result.now in
    let passed : IsPassed whole p = subst (λ (x : Change). IsPassed x p)
    (sym c.self.view_is) c.loop-passed.invariant.passed in
    let all : length whole.edits ≤ p.count = omega
    (arith, c.lengths-lengths.ensures.count, c.loop-passed-test.false) in
    omega (
      arith,
      after_all whole p c.args.side c.args.char_idx all passed c.loop-passed.invariant.reaches
          (omega (arith, ap (λ (x : Change). before x) c.self.view_is)),
      ap (λ (x : Change). moved c.args.side (ops x) c.args.char_idx) c.self.view_is,
    )

pub returns-clause-between : goal.returns-clause-between
returns-clause-between c =
    let whole = change_of c.self.inside in
    let p = c.loop-passed.passed in
    let ls = c.lengths-lengths.result.now in
    let passed : IsPassed whole p = subst (λ (x : Change). IsPassed x p)
    (sym c.self.view_is) c.loop-passed.invariant.passed in
    let all : length whole.edits ≤ p.count = omega
    (arith, c.lengths-lengths.ensures.count, c.loop-passed-test.false) in
    let start = c.self.inside.len_before + 1 in
    let q : Passed = record {
      count = p.count;
      end = p.end;
      new_end = p.new_end;
      start = start;
    } in
    subst (λ (x : Change). IsBetween x q) c.self.view_is
    (between_last whole.edits whole.rest p.count p.end p.new_end p.start start all passed
    (ap (λ n. n + 1) c.self.invariant.before_is))
