use Rattle.std.proofs.Common.{refl, ap, subst, arith}
use Rattle.rope_text.specs.Sides.{ahead}
use Rattle.ropey_c.specs.Slices.{Shows}
use Rattle.ropey_c.proofs.Showing.{lines_shown}
use Rattle.ropey_c.proofs.slices.ropey_lines_from_with_before.Goals as goal

pub returns-clause-answer : goal.returns-clause-answer
returns-clause-answer c =
    rw c.in-Some.ensures.found (
    let within = c.if-line_idx-len_lines.false in (
      (
        λ past. absurd (omega (arith, past, within, c.len_lines.ensures)),
        λ _. (
          refl,
          subst (λ lines. Shows lines c.args.lines.now c.fill.new.list
              c.fill.result) (ap ahead c.lines_and_counts_at-found.ensures.lines)
              (lines_shown _ _ _ _ c.fill.ensures),
        ),
      ),
      λ other. absurd (other refl),
      λ _. c.before_line.ensures,
    )
    )
