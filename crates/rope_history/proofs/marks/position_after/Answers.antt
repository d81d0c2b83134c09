use Rattle.std.proofs.Common.{◌≡◌, ◌-◌, ◌<◌, length, get_or, ap, arith, inl, inr}
use Rattle.std.proofs.lemmas.Bool.{cases_lt}
use Rattle.rope_history.specs.Marking.{start_of}
use Rattle.rope_history.specs.MarkLists.{marks_in}
use Rattle.rope_history.proofs.OrderLaws.{at_in, count_in}
use Rattle.rope_history.proofs.marks.position_after.Goals as goal

pub returns-then-start_at-start-clause-before : goal.returns-then-start_at-start-clause-before
returns-then-start_at-start-clause-before c = λ k d lt.
    let marks = c.args.marks.now in
    let order = c.args.order.now in
    let last = c.loop-position.position - 1 in
    let within = c.loop-position.invariant.within in
    let at : last < length order = omega (arith, within, c.loop-position-test.true) in
    omega (
      arith,
      c.requires.in_order k last d (omega arith) (omega (arith, at, count_in marks order)),
      ap start_of (at_in marks order last d at),
      c.start_at.ensures,
      c.if-start_at-start.true,
    )

pub loop-position-preserved : goal.loop-position-preserved
loop-position-preserved c =
    let marks = c.args.marks.now in
    let order = c.args.order.now in
    let last = c.loop-position.position - 1 in
    let within = c.loop-position.invariant.within in
    let at : last < length order = omega (arith, within, c.loop-position-test.true) in
    record {
      within = omega arith;
      after = λ k d le lt.
          elim (cases_lt last k) [
            | inl more ↦ c.loop-position.invariant.after k d (omega (arith, more)) lt
            | inr here ↦
                let same : k ≡ last = omega arith in
                omega (
                  arith,
                  ap (λ i. (get_or (marks_in marks order) i d).start) same,
                  ap start_of (at_in marks order last d at),
                  c.start_at.ensures,
                  c.if-start_at-start.false,
                )
          ];
    }
