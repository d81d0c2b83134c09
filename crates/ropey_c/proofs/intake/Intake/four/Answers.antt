use Rattle.std.proofs.Common.{ℕ, ◌∙◌, ap, arith}
use Rattle.std.proofs.lemmas.List.{length-take}
use Rattle.ropey_c.specs.Intake.{Taking}
use Rattle.ropey_c.proofs.Pending.{four_bytes}
use Rattle.ropey_c.proofs.intake.Intake.four.Goals as goal

pub returns-clause-bytes : goal.returns-clause-bytes
returns-clause-bytes c =
    let a = c.self.inside.rest_len in
    let m = c.min-more.result in
    let first = c.copy_from_slice.new.self in
    let more = c.copy_from_slice-2.new.self in
    let rest = ap (λ (t : Taking). t.rest) c.self.view_is in
    let head = c.copy_from_slice.ensures.after ∙ rest in
    four_bytes a m first more _ _ c.args.self.now.rest c.args.bytes.now
    (omega (arith, c.copy_from_slice.ensures.len, length-take {A = ℕ}, c.self.invariant.short))
    (omega (
      arith,
      c.copy_from_slice-2.ensures.len,
      length-take {A = ℕ},
      c.self.invariant.short,
      c.min-more.ensures,
    ))
    head c.copy_from_slice-2.ensures.after c.min-more.ensures
