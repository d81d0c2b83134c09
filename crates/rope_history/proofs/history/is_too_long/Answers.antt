use Rattle.std.proofs.Common.{ap, arith, rules}
use Rattle.rope_changes.specs.Applied.{inserted_bytes}
use Rattle.rope_history.proofs.history.is_too_long.Goals as goal

pub returns-then-bytes-room-clause-value : goal.returns-then-bytes-room-clause-value
returns-then-bytes-room-clause-value c = (
  λ _. omega (
    arith,
    ap inserted_bytes c.in-Some.ensures.edits,
    c.len_bytes-bytes.ensures,
    c.len_bytes-room.ensures.value,
    c.loop-edit.invariant,
    c.if-bytes-room.true,
  ),
  λ _. search rules,
)

pub loop-edit-preserved : goal.loop-edit-preserved
loop-edit-preserved c =
    omega (
      arith,
      ap inserted_bytes c.in-Some.ensures.edits,
      c.len_bytes-bytes.ensures,
      c.if-bytes-room.false,
      c.loop-edit.invariant,
    )
