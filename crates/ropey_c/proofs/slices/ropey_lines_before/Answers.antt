use Rattle.std.proofs.Common.{refl, ap, ◌∙◌, subst, arith}
use Rattle.rope_text.specs.Sides.{ahead, turned}
use Rattle.ropey_c.specs.Slices.{Shows}
use Rattle.ropey_c.proofs.Showing.{lines_shown}
use Rattle.ropey_c.proofs.slices.ropey_lines_before.Goals as goal

pub returns-clause-answer : goal.returns-clause-answer
returns-clause-answer c =
    rw c.in-Some.ensures.found (
    let within = c.if-line_idx-len_lines.false in (
      λ past. absurd (omega (arith, past, within, c.len_lines.ensures)),
      λ _. (
        refl,
        subst (λ lines. Shows lines c.args.lines.now c.fill.new.list c.fill.result)
            (ap ahead c.reversed.ensures ∙ ap (λ x. ahead (turned x)) c.lines_at.ensures)
            (lines_shown _ _ _ _ c.fill.ensures),
      ),
    )
    )
