use Rattle.std.proofs.Common.{◌≡◌, ℕ, ◌<◌, ◌≤◌, ◌^◌, length, refl, arith}
use Rattle.rope_text.specs.TextInfo.{HasPart}
use Rattle.rope_leaf.specs.Narrow.{IsNarrow, FitsWith}
use Rattle.rope_leaf.specs.CountRows.{counts_at}
use Rattle.rope_leaf.proofs.CountsKept.{many, total_seen, all_below, was_below, is_below, early_same, late_sums, shifted_totals}
use Rattle.rope_leaf.proofs.CellRows.{shifted_row}
use Rattle.rope_leaf.specs.Shifted.{IsShifted}
use Rattle.rope_leaf.proofs.search.count_rows.CountRows.retotal.Goals.{After-self, After-shift-4}
use Rattle.rope_leaf.proofs.search.count_rows.CountRows.retotal.Goals as goal

-- the properties of each total from the index on
module _ (c : After-self) where
  n : c.self.inside.len ≡ length c.args.self.now
  n = many c.self.inside c.args.self.now c.self.view_is

  part : (j : ℕ) → c.args.place ≤ j → j < c.self.inside.len
      → HasPart (counts_at c.self.inside j) c.args.old
  part j le lt =
      let d = counts_at c.self.inside 0 in
      let to : j < length c.args.self.now = omega (arith, n) in
      rw (total_seen c.self.inside c.args.self.now j d c.self.view_is to) at
      (c.requires.part j d le to)

  fits : (j : ℕ) → c.args.place ≤ j → j < c.self.inside.len
      → FitsWith (counts_at c.self.inside j) c.args.old c.args.new
  fits j le lt =
      let d = counts_at c.self.inside 0 in
      let to : j < length c.args.self.now = omega (arith, n) in
      let all = all_below c.self.inside c.args.self.now c.self.invariant c.self.view_is in
      rw (total_seen c.self.inside c.args.self.now j d c.self.view_is to) at
      (c.requires.fits all j d le to)

  first : c.args.place < c.self.inside.len
  first = omega (arith, c.requires.within, n)

  was : IsNarrow c.args.old
  was = was_below (2 ^ 32) (counts_at c.self.inside c.args.place) c.args.old
      (c.self.invariant.below c.args.place first) (part c.args.place (omega arith) first)

  is : IsNarrow c.args.new
  is = is_below (2 ^ 32) (counts_at c.self.inside c.args.place) c.args.old c.args.new
      (part c.args.place (omega arith) first) (fits c.args.place (omega arith) first)

pub shift-requires-clause-place : goal.shift-requires-clause-place
shift-requires-clause-place c =
    omega (
      arith,
      c.requires.within,
      c.self.invariant.few,
      many c.self.inside c.args.self.now c.self.view_is,
    )

pub shift-requires-clause-old : goal.shift-requires-clause-old
shift-requires-clause-old c = (was (goal.at.shift-requires-clause-old c).After-self).bytes

pub shift-requires-clause-new : goal.shift-requires-clause-new
shift-requires-clause-new c = (is (goal.at.shift-requires-clause-new c).After-self).bytes

pub shift-requires-2-clause-place : goal.shift-requires-2-clause-place
shift-requires-2-clause-place c =
    omega (
      arith,
      c.requires.within,
      c.self.invariant.few,
      many c.self.inside c.args.self.now c.self.view_is,
    )

pub shift-requires-2-clause-old : goal.shift-requires-2-clause-old
shift-requires-2-clause-old c = (was (goal.at.shift-requires-2-clause-old c).After-self).chars

pub shift-requires-2-clause-new : goal.shift-requires-2-clause-new
shift-requires-2-clause-new c = (is (goal.at.shift-requires-2-clause-new c).After-self).chars

pub shift-requires-3-clause-place : goal.shift-requires-3-clause-place
shift-requires-3-clause-place c =
    omega (
      arith,
      c.requires.within,
      c.self.invariant.few,
      many c.self.inside c.args.self.now c.self.view_is,
    )

pub shift-requires-3-clause-old : goal.shift-requires-3-clause-old
shift-requires-3-clause-old c = (was (goal.at.shift-requires-3-clause-old c).After-self).pairs

pub shift-requires-3-clause-new : goal.shift-requires-3-clause-new
shift-requires-3-clause-new c = (is (goal.at.shift-requires-3-clause-new c).After-self).pairs

pub shift-requires-4-clause-place : goal.shift-requires-4-clause-place
shift-requires-4-clause-place c =
    omega (
      arith,
      c.requires.within,
      c.self.invariant.few,
      many c.self.inside c.args.self.now c.self.view_is,
    )

pub shift-requires-4-clause-old : goal.shift-requires-4-clause-old
shift-requires-4-clause-old c = (was (goal.at.shift-requires-4-clause-old c).After-self).breaks

pub shift-requires-4-clause-new : goal.shift-requires-4-clause-new
shift-requires-4-clause-new c = (is (goal.at.shift-requires-4-clause-new c).After-self).breaks

-- each row has the new counts
bytes : (c : After-shift-4)
    → ((j : ℕ) → c.args.place ≤ j → j < c.self.inside.len
    → HasPart (counts_at c.self.inside j) c.args.old)
    → ((j : ℕ) → c.args.place ≤ j → j < c.self.inside.len
    → FitsWith (counts_at c.self.inside j) c.args.old c.args.new)
    → IsShifted c.self.inside.bytes c.shift.new.counts c.args.place c.self.inside.len
    c.args.old.bytes c.args.new.bytes
bytes c p f =
    shifted_row c.self.inside.bytes c.shift.new.counts c.args.place c.self.inside.len
    c.args.old.bytes c.args.new.bytes c.self.invariant.few c.self.invariant.bytes
    c.shift.ensures.len c.shift.ensures.before c.shift.ensures.after
    (λ j le lt. ((p j le lt).bytes, (f j le lt).bytes))

chars : (c : After-shift-4)
    → ((j : ℕ) → c.args.place ≤ j → j < c.self.inside.len
    → HasPart (counts_at c.self.inside j) c.args.old)
    → ((j : ℕ) → c.args.place ≤ j → j < c.self.inside.len
    → FitsWith (counts_at c.self.inside j) c.args.old c.args.new)
    → IsShifted c.self.inside.chars c.shift-2.new.counts c.args.place c.self.inside.len
    c.args.old.chars c.args.new.chars
chars c p f =
    shifted_row c.self.inside.chars c.shift-2.new.counts c.args.place c.self.inside.len
    c.args.old.chars c.args.new.chars c.self.invariant.few c.self.invariant.chars
    c.shift-2.ensures.len c.shift-2.ensures.before c.shift-2.ensures.after
    (λ j le lt. ((p j le lt).chars, (f j le lt).chars))

pairs : (c : After-shift-4)
    → ((j : ℕ) → c.args.place ≤ j → j < c.self.inside.len
    → HasPart (counts_at c.self.inside j) c.args.old)
    → ((j : ℕ) → c.args.place ≤ j → j < c.self.inside.len
    → FitsWith (counts_at c.self.inside j) c.args.old c.args.new)
    → IsShifted c.self.inside.pairs c.shift-3.new.counts c.args.place c.self.inside.len
    c.args.old.utf16_surrogates c.args.new.utf16_surrogates
pairs c p f =
    shifted_row c.self.inside.pairs c.shift-3.new.counts c.args.place c.self.inside.len
    c.args.old.utf16_surrogates c.args.new.utf16_surrogates c.self.invariant.few
    c.self.invariant.pairs c.shift-3.ensures.len c.shift-3.ensures.before c.shift-3.ensures.after
    (λ j le lt. ((p j le lt).pairs, (f j le lt).pairs))

breaks : (c : After-shift-4)
    → ((j : ℕ) → c.args.place ≤ j → j < c.self.inside.len
    → HasPart (counts_at c.self.inside j) c.args.old)
    → ((j : ℕ) → c.args.place ≤ j → j < c.self.inside.len
    → FitsWith (counts_at c.self.inside j) c.args.old c.args.new)
    → IsShifted c.self.inside.breaks c.shift-4.new.counts c.args.place c.self.inside.len
    c.args.old.break_count c.args.new.break_count
breaks c p f =
    shifted_row c.self.inside.breaks c.shift-4.new.counts c.args.place c.self.inside.len
    c.args.old.break_count c.args.new.break_count c.self.invariant.few c.self.invariant.breaks
    c.shift-4.ensures.len c.shift-4.ensures.before c.shift-4.ensures.after
    (λ j le lt. ((p j le lt).breaks, (f j le lt).breaks))

pub invariant_of-self : goal.invariant_of-self
invariant_of-self c =
    let e = (goal.at.invariant_of-self c).After-shift-4 in
    let p = part (goal.at.invariant_of-self c).After-self in
    let f = fits (goal.at.invariant_of-self c).After-self in
    shifted_totals c.self.inside _ c.args.self.now c.self.invariant c.self.view_is c.args.place
    c.args.old c.args.new refl (bytes e p f) (chars e p f) (pairs e p f) (breaks e p f) f

pub returns-clause-before : goal.returns-clause-before
returns-clause-before c =
    let e = (goal.at.returns-clause-before c).After-shift-4 in
    let p = part (goal.at.returns-clause-before c).After-self in
    let f = fits (goal.at.returns-clause-before c).After-self in
    λ j d early. early_same c.self.inside _ c.args.self.now c.self.invariant c.self.view_is
    c.args.place c.args.old c.args.new refl (bytes e p f) (chars e p f) (pairs e p f) (breaks e p f)
    j d (omega (arith, early, c.requires.within)) early

pub returns-clause-after : goal.returns-clause-after
returns-clause-after c =
    let e = (goal.at.returns-clause-after c).After-shift-4 in
    let p = part (goal.at.returns-clause-after c).After-self in
    let f = fits (goal.at.returns-clause-after c).After-self in
    λ j d late lt. late_sums c.self.inside _ c.args.self.now c.self.invariant c.self.view_is
    c.args.place c.args.old c.args.new refl (bytes e p f) (chars e p f) (pairs e p f) (breaks e p f)
    j d late lt
