use Rattle.std.proofs.Common.{sym, arith}
use Rattle.std.proofs.lemmas.List.{length-take-le}
use Rattle.rope_text.proofs.LineLaws.{line_start-le-length}
use Rattle.rope_text.proofs.ConversionLaws.{char_to_line-less}
use Rattle.rope_slice.specs.Slice.{text_of, breaks_of}
use Rattle.rope_position.specs.declared.encoding.Encoding.TheVariants.{Utf8, Utf16, Utf32}
use Rattle.rope_position.proofs.Columns.{encoded_by, position_fine}
use Rattle.rope_position.proofs.slices.RopeSlicePositions.try_char_to_position_in.Goals as goal

pub line_to_char-start-requires : goal.line_to_char-start-requires
line_to_char-start-requires c = omega (
  arith,
  c.char_to_line-line.ensures,
  char_to_line-less
      (breaks_of c.args.self.now) (text_of c.args.self.now) c.args.char_idx,
)

pub char_to_byte-requires-in-Utf8 : goal.char_to_byte-requires-in-Utf8
char_to_byte-requires-in-Utf8 c = omega (
  arith,
  c.line_to_char-start.ensures,
  line_start-le-length
      (breaks_of c.args.self.now) (text_of c.args.self.now) c.char_to_line-line.result,
)

pub char_to_utf16_cu-requires-in-Utf16 : goal.char_to_utf16_cu-requires-in-Utf16
char_to_utf16_cu-requires-in-Utf16 c = omega (
  arith,
  c.line_to_char-start.ensures,
  line_start-le-length (breaks_of c.args.self.now) (text_of c.args.self.now)
      c.char_to_line-line.result,
)

pub overflow_sub-column : goal.overflow_sub-column
overflow_sub-column c =
    (encoded_by Utf8 (breaks_of c.args.self.now) (text_of c.args.self.now) c.args.char_idx
    c.char_to_line-line.result c.line_to_char-start.result c.char_to_byte-in-Utf8.result
    c.char_to_byte.result (omega (arith, c.len_chars-len.ensures))
    c.char_to_line-line.ensures c.line_to_char-start.ensures c.char_to_byte-in-Utf8.ensures
    c.char_to_byte.ensures).0

pub overflow_sub-column-in-Utf16 : goal.overflow_sub-column-in-Utf16
overflow_sub-column-in-Utf16 c =
    (encoded_by Utf16 (breaks_of c.args.self.now) (text_of c.args.self.now) c.args.char_idx
    c.char_to_line-line.result c.line_to_char-start.result c.char_to_utf16_cu-in-Utf16.result
    c.char_to_utf16_cu.result (omega (arith, c.len_chars-len.ensures))
    c.char_to_line-line.ensures c.line_to_char-start.ensures c.char_to_utf16_cu-in-Utf16.ensures
    c.char_to_utf16_cu.ensures).0

pub overflow_sub-column-in-Utf32 : goal.overflow_sub-column-in-Utf32
overflow_sub-column-in-Utf32 c =
    (encoded_by Utf32 (breaks_of c.args.self.now) (text_of c.args.self.now) c.args.char_idx
    c.char_to_line-line.result c.line_to_char-start.result c.line_to_char-start.result
    c.args.char_idx (omega (arith, c.len_chars-len.ensures))
    c.char_to_line-line.ensures c.line_to_char-start.ensures
    (sym (length-take-le c.line_to_char-start.result (text_of c.args.self.now)
    (omega (
      arith,
      c.line_to_char-start.ensures,
      line_start-le-length (breaks_of c.args.self.now)
          (text_of c.args.self.now) c.char_to_line-line.result,
    ))))
    (sym (length-take-le c.args.char_idx (text_of c.args.self.now)
    (omega (arith, c.len_chars-len.ensures))))).0

pub returns-in-Utf8 : goal.returns-in-Utf8
returns-in-Utf8 c =
    rw c.in-Utf8.is (position_fine c.args.char_idx _ _ _ (omega (arith, c.len_chars-len.ensures))
    (encoded_by Utf8 (breaks_of c.args.self.now) (text_of c.args.self.now) c.args.char_idx
    c.char_to_line-line.result c.line_to_char-start.result c.char_to_byte-in-Utf8.result
    c.char_to_byte.result (omega (arith, c.len_chars-len.ensures))
    c.char_to_line-line.ensures c.line_to_char-start.ensures c.char_to_byte-in-Utf8.ensures
    c.char_to_byte.ensures).1)

pub returns-in-Utf16 : goal.returns-in-Utf16
returns-in-Utf16 c =
    rw c.in-Utf16.is (position_fine c.args.char_idx _ _ _ (omega (arith, c.len_chars-len.ensures))
    (encoded_by Utf16 (breaks_of c.args.self.now) (text_of c.args.self.now) c.args.char_idx
    c.char_to_line-line.result c.line_to_char-start.result c.char_to_utf16_cu-in-Utf16.result
    c.char_to_utf16_cu.result (omega (arith, c.len_chars-len.ensures))
    c.char_to_line-line.ensures c.line_to_char-start.ensures c.char_to_utf16_cu-in-Utf16.ensures
    c.char_to_utf16_cu.ensures).1)
