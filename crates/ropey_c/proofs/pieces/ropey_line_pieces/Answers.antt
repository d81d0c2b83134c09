use Rattle.std.proofs.Common.{refl, ap, ◌∙◌, subst, arith}
use Rattle.rope_text.specs.Content.{Content}
use Rattle.rope_text.specs.Sides.{ahead}
use Rattle.ropey_c.specs.Pieces.{Fills}
use Rattle.ropey_c.proofs.Showing.{chunks_filled}
use Rattle.ropey_c.proofs.pieces.ropey_line_pieces.Goals as goal

pub returns-clause-answer : goal.returns-clause-answer
returns-clause-answer c =
    rw c.in-Some.ensures.found (
    let within = c.if-line_idx-len_lines.false in (
      λ past. absurd (omega (arith, past, within, c.len_lines.ensures)),
      λ _. (
        refl,
        c.line_to_byte.ensures,
        c.line_to_byte-2.ensures,
        subst (λ chunks. Fills chunks c.args.pieces.now c.fill.new.list c.fill.result)
            (ap ahead c.chunks.ensures ∙ ap (λ (s : Content). s.chunks) c.line.ensures)
            (chunks_filled _ _ _ _ c.fill.ensures),
      ),
    )
    )
