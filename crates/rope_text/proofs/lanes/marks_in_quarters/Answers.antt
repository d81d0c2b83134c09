use Rattle.std.proofs.Common.{◌*◌, ◌/◌, drop, arith}
use Rattle.std.proofs.lemmas.List.{length-drop}
use Rattle.rope_text.proofs.Blocks.{marks_le}
use Rattle.rope_text.proofs.lanes.marks_in_quarters.Goals as goal

pub overflow_add-second : goal.overflow_add-second
overflow_add-second c =
    let quarter = c.args.to / 128 * 32 in
    omega (
      arith,
      c.loop-i.invariant,
      c.marks_in-second.ensures,
      marks_le c.args.mark (drop quarter c.args.bytes.now),
      length-drop quarter c.args.bytes.now,
    )

pub overflow_add-third : goal.overflow_add-third
overflow_add-third c =
    let quarter = c.args.to / 128 * 32 in
    omega (
      arith,
      c.loop-i.invariant,
      c.marks_in-third.ensures,
      marks_le c.args.mark (drop (2 * quarter) c.args.bytes.now),
      length-drop (2 * quarter) c.args.bytes.now,
    )

pub overflow_add-fourth : goal.overflow_add-fourth
overflow_add-fourth c =
    let quarter = c.args.to / 128 * 32 in
    omega (
      arith,
      c.loop-i.invariant,
      c.marks_in-fourth.ensures,
      marks_le c.args.mark (drop (3 * quarter) c.args.bytes.now),
      length-drop (3 * quarter) c.args.bytes.now,
    )
