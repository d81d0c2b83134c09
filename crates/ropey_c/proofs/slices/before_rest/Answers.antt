use Rattle.std.proofs.Common.{refl, ap, ◌∙◌, arith}
use Rattle.rope_text.specs.Text.{byte_len, utf16_len}
use Rattle.rope_text.specs.Breaks.{break_count}
use Rattle.rope_text.proofs.Measures.{IsMeasure-byte_len, IsMeasure-utf16_len, size_parts}
use Rattle.rope_text.proofs.SliceLaws.{break_count-drop}
use Rattle.rope_slice.specs.Slice.{text_of}
use Rattle.ropey_c.proofs.slices.before_rest.Goals as goal

pub overflow_sub-result : goal.overflow_sub-result
overflow_sub-result c =
    omega (
      arith,
      c.len_bytes.ensures.value,
      c.len_bytes-2.ensures.value,
      ap byte_len c.requires.rest,
      size_parts byte_len IsMeasure-byte_len c.args.rope.now.text c.args.char_idx,
    )

pub overflow_sub-result-2 : goal.overflow_sub-result-2
overflow_sub-result-2 c =
    omega (
      arith,
      c.len_utf16_cu.ensures,
      c.len_utf16_cu-2.ensures,
      ap utf16_len c.requires.rest,
      size_parts utf16_len IsMeasure-utf16_len c.args.rope.now.text c.args.char_idx,
    )

pub overflow_sub-result-3 : goal.overflow_sub-result-3
overflow_sub-result-3 c =
    let same = ap (λ breaks. break_count breaks (text_of c.args.rest.now)) c.requires.breaks
    ∙ ap (break_count c.args.rope.now.breaks) c.requires.rest in
    omega (
      arith,
      c.len_lines.ensures,
      c.len_lines-2.ensures,
      same,
      break_count-drop c.args.rope.now.breaks c.args.rope.now.text c.args.char_idx
          c.requires.within,
    )

pub returns : goal.returns
returns c =
    let same = ap (λ breaks. break_count breaks (text_of c.args.rest.now)) c.requires.breaks
    ∙ ap (break_count c.args.rope.now.breaks) c.requires.rest in
    record {
      bytes = omega (
        arith,
        c.len_bytes.ensures.value,
        c.len_bytes-2.ensures.value,
        ap byte_len c.requires.rest,
        size_parts byte_len IsMeasure-byte_len c.args.rope.now.text c.args.char_idx,
      );
      chars = refl;
      utf16 = omega (
        arith,
        c.len_utf16_cu.ensures,
        c.len_utf16_cu-2.ensures,
        ap utf16_len c.requires.rest,
        size_parts utf16_len IsMeasure-utf16_len c.args.rope.now.text c.args.char_idx,
      );
      line_breaks =
          omega (
            arith,
            c.len_lines.ensures,
            c.len_lines-2.ensures,
            same,
            break_count-drop c.args.rope.now.breaks c.args.rope.now.text c.args.char_idx
                c.requires.within,
          );
    }
