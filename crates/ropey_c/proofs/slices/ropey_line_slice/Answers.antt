use Rattle.std.proofs.Common.{refl, ap, ◌∙◌, arith}
use Rattle.ropey_c.specs.Slices.{shown_as}
use Rattle.ropey_c.proofs.slices.ropey_line_slice.Goals as goal

pub returns-clause-answer : goal.returns-clause-answer
returns-clause-answer c =
    rw c.in-Some.ensures.found ((
      (λ past. absurd (omega (arith, past, c.if-line_idx-len_lines.false, c.len_lines.ensures))),
      (λ _. (refl, c.from.ensures ∙ ap shown_as c.line.ensures)),
    )
    )
