use Rattle.std.proofs.Common.{arith}
use Rattle.rope_text.specs.Text.{byte_len}
use Rattle.rope_text.proofs.Measures.{IsMeasure-byte_len, size_le}
use Rattle.ropey_c.proofs.Bytes.{cut_within, removed_bytes}
use Rattle.ropey_c.proofs.replace.len_without.Goals as goal

pub overflow_sub-cut : goal.overflow_sub-cut
overflow_sub-cut c =
    omega (
      arith,
      c.char_to_byte-2.ensures,
      c.char_to_byte.ensures,
      size_le byte_len IsMeasure-byte_len c.args.rope.now.text c.args.start c.args.end
          c.requires.ordered,
    )

pub overflow_sub-result : goal.overflow_sub-result
overflow_sub-result c =
    omega (
      arith,
      c.char_to_byte-2.ensures,
      c.char_to_byte.ensures,
      c.len_bytes.ensures.value,
      cut_within c.args.rope.now.text c.args.start c.args.end,
    )

pub returns-clause-value : goal.returns-clause-value
returns-clause-value c =
    omega (
      arith,
      c.char_to_byte-2.ensures,
      c.char_to_byte.ensures,
      c.len_bytes.ensures.value,
      removed_bytes c.args.rope.now.text c.args.start c.args.end c.requires.ordered,
    )
