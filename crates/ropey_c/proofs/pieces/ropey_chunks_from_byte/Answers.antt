use Rattle.std.proofs.Common.{refl, ap, subst, arith}
use Rattle.rope_text.specs.Lookup.{found_chunk}
use Rattle.rope_text.specs.Sides.{ahead}
use Rattle.ropey_c.specs.Pieces.{Fills}
use Rattle.ropey_c.proofs.Showing.{chunks_filled}
use Rattle.ropey_c.proofs.pieces.ropey_chunks_from_byte.Goals as goal

pub returns-clause-answer : goal.returns-clause-answer
unfolding found_chunk
returns-clause-answer c =
    rw c.in-Some.ensures.found (
    let found = c.chunks_at_byte-cursor in
    let within = c.if-byte_idx-len_bytes.false in (
      λ past. absurd (omega (arith, past, within, c.len_bytes.ensures.value)),
      λ _. (
        refl,
        found.ensures.before.bytes_are,
        subst (λ chunks. Fills chunks c.args.pieces.now c.fill.new.list c.fill.result)
            (ap ahead found.ensures.cursor_is) (chunks_filled _ _ _ _ c.fill.ensures),
      ),
    )
    )
