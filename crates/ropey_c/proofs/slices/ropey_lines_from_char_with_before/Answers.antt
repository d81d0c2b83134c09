use Rattle.std.proofs.Common.{refl, ap, ◌∙◌, subst, arith}
use Rattle.rope_text.specs.LineParts.{lines_of}
use Rattle.rope_text.specs.Sides.{ahead}
use Rattle.ropey_c.specs.Slices.{Shows}
use Rattle.ropey_c.proofs.Showing.{lines_shown}
use Rattle.ropey_c.proofs.slices.ropey_lines_from_char_with_before.Goals as goal

pub returns-clause-answer : goal.returns-clause-answer
returns-clause-answer c =
    rw c.in-Some.ensures.found (
    let within = c.if-char_idx-len_chars.false in (
      λ past. absurd (omega (arith, past, within, c.len_chars.ensures.value)),
      λ _. (
        refl,
        c.rest_from.ensures.before,
        subst (λ lines. Shows lines c.args.lines.now c.fill.new.list c.fill.result)
            (ap ahead c.lines.ensures ∙ ap lines_of c.rest_from.ensures.rest)
            (lines_shown _ _ _ _ c.fill.ensures),
      ),
    )
    )
