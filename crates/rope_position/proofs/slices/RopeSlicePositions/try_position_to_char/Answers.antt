use Rattle.std.proofs.Common.{ap, sym, ◌∙◌, arith}
use Rattle.rope_slice.specs.Slice.{text_of, breaks_of}
use Rattle.rope_text.specs.Content.{Content}
use Rattle.rope_text.specs.Conversions.{utf16_to_char}
use Rattle.rope_position.proofs.Columns.{in_text, value_is}
use Rattle.rope_position.proofs.slices.RopeSlicePositions.try_position_to_char.Goals as goal

pub overflow_add-result : goal.overflow_add-result
overflow_add-result c =
    let inside = value_is _ _ _ (sym c.in-Ok.is ∙ c.try_utf16_cu_to_char.ensures)
    ∙ ap (λ (line : Content). utf16_to_char line.text c.args.position.column) c.line-line.ensures in
    omega (
      arith,
      inside,
      c.line_to_char.ensures,
      c.len_chars.ensures,
      in_text (breaks_of c.args.self.now) (text_of c.args.self.now) c.args.position.line
          c.args.position.column,
    )
