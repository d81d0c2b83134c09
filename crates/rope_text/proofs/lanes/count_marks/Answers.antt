use Rattle.std.proofs.Common.{drop, arith}
use Rattle.std.proofs.lemmas.List.{length-drop}
use Rattle.rope_text.proofs.Blocks.{marks_le}
use Rattle.rope_text.proofs.lanes.count_marks.Goals as goal

pub overflow_add-total : goal.overflow_add-total
overflow_add-total c =
    omega (
      arith,
      c.loop-i.invariant,
      c.marks_in-total.ensures,
      marks_le c.args.mark (drop c.args.from c.args.bytes.now),
      length-drop c.args.from c.args.bytes.now,
    )

pub overflow_add-result : goal.overflow_add-result
overflow_add-result c =
    omega (
      arith,
      c.loop-i.invariant,
      c.marks_between.ensures,
      marks_le c.args.mark (drop c.args.from c.args.bytes.now),
      length-drop c.args.from c.args.bytes.now,
    )
