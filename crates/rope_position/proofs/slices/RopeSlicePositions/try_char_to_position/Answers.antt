use Rattle.std.proofs.Common.{arith}
use Rattle.rope_text.proofs.LineLaws.{line_start-le-length}
use Rattle.rope_slice.specs.Slice.{text_of, breaks_of}
use Rattle.rope_text.proofs.ConversionLaws.{char_to_line-less}
use Rattle.rope_position.proofs.Columns.{position_by, position_fine}
use Rattle.rope_position.proofs.slices.RopeSlicePositions.try_char_to_position.Goals as goal

pub line_to_char-requires : goal.line_to_char-requires
line_to_char-requires c =
    omega (
      arith,
      c.char_to_line-line.ensures,
      char_to_line-less (breaks_of c.args.self.now) (text_of c.args.self.now) c.args.char_idx,
    )

pub char_to_utf16_cu-before-requires : goal.char_to_utf16_cu-before-requires
char_to_utf16_cu-before-requires c =
    omega (
      arith,
      c.line_to_char.ensures,
      line_start-le-length (breaks_of c.args.self.now)
          (text_of c.args.self.now) c.char_to_line-line.result,
    )

pub overflow_sub-column : goal.overflow_sub-column
overflow_sub-column c =
    (position_by (breaks_of c.args.self.now) (text_of c.args.self.now) c.args.char_idx
    c.char_to_line-line.result c.line_to_char.result c.char_to_utf16_cu-before.result
    c.char_to_utf16_cu.result (omega (arith, c.len_chars-len.ensures)) c.char_to_line-line.ensures
    c.line_to_char.ensures c.char_to_utf16_cu-before.ensures c.char_to_utf16_cu.ensures).0

pub returns : goal.returns
returns c =
    position_fine c.args.char_idx _ _ _ (omega (arith, c.len_chars-len.ensures))
    (position_by (breaks_of c.args.self.now) (text_of c.args.self.now) c.args.char_idx
    c.char_to_line-line.result c.line_to_char.result c.char_to_utf16_cu-before.result
    c.char_to_utf16_cu.result (omega (arith, c.len_chars-len.ensures)) c.char_to_line-line.ensures
    c.line_to_char.ensures c.char_to_utf16_cu-before.ensures c.char_to_utf16_cu.ensures).1
