use Rattle.std.proofs.Common.{◌≡◌, ◌+◌, drop}
use Rattle.rope_text.specs.Marks.{marks}
use Rattle.rope_text.proofs.seek.find.Given as goal

abbrev pub invariant-loop-at : goal.invariant-loop-at
invariant-loop-at l = marks l.mark (drop l.from l.bytes) + l.left
    ≡ l.fn.n + marks l.mark (drop l.at l.bytes)
