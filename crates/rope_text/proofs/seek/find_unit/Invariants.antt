use Rattle.std.proofs.Common.{◌≡◌, ◌+◌, drop}
use Rattle.rope_text.specs.ByteBreaks.{unit_count}
use Rattle.rope_text.proofs.seek.find_unit.Given as goal

abbrev pub invariant-loop-at : goal.invariant-loop-at
invariant-loop-at l = unit_count (drop l.from l.bytes) + l.left
    ≡ l.fn.n + unit_count (drop l.at l.bytes)
