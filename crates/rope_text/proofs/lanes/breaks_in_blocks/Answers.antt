use Rattle.std.proofs.Common.{drop, arith}
use Rattle.std.proofs.lemmas.List.{length-drop}
use Rattle.rope_text.proofs.Blocks.{byte_break_count_le}
use Rattle.rope_text.proofs.lanes.breaks_in_blocks.Goals as goal

pub overflow_add-result : goal.overflow_add-result
overflow_add-result c =
    omega (
      arith,
      byte_break_count_le c.args.breaks (drop c.args.from c.args.bytes.now),
      length-drop c.args.from c.args.bytes.now,
    )

pub overflow_add-result-2 : goal.overflow_add-result-2
overflow_add-result-2 c =
    omega (
      arith,
      byte_break_count_le c.args.breaks (drop c.args.from c.args.bytes.now),
      length-drop c.args.from c.args.bytes.now,
    )
