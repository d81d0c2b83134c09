use Rattle.std.proofs.Common.{◌-◌, ◌∙◌, length, ap, arith}
use Rattle.std.specs.List.{concat}
use Rattle.rope_text.specs.Conversions.{char_to_byte}
use Rattle.rope_text.proofs.AsciiTexts.{ascii_front}
use Rattle.rope_slice.specs.Slice.{text_of}
use Rattle.rope_slice.proofs.AsciiChunks.{ascii_here}
use Rattle.rope_slice.proofs.span.Span.at.Goals.{then-info, else-info}
use Rattle.rope_slice.proofs.span.Span.at.Goals as goal

pub returns-clause-byte : goal.returns-clause-byte
returns-clause-byte c =
    let p = c.holding-span.result.0 in
    let e = c.holding-span.ensures in
    elim c.if-info.branch [
      | then-info w ↦
          let ascii =
          ascii_here p (text_of c.args.slice.now) e.text
          (omega (
            arith,
            w.if-info.true,
            ap (λ i. i.chars) c.requires.info,
            ap (λ i. i.bytes) c.requires.info,
          )) in
          rw w.byte-is (omega (
            arith,
            e.before.chars_are,
            e.starts,
            e.within,
            ascii_front p.here ascii (c.args.char_idx - length (concat p.before)),
          ))
      | else-info w ↦
          w.byte-is ∙ w.char_to_byte_idx-byte.ensures.value
          ∙ ap (λ t. char_to_byte t (c.args.char_idx - c.holding-span.result.1.chars))
          w.chunk.ensures
          ∙ ap (λ k. char_to_byte p.here (c.args.char_idx - k)) e.before.chars_are
    ]
