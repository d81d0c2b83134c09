use Rattle.std.proofs.Common.{◌≡◌, ◌≤◌, ◌+◌, length, drop}
use Rattle.rope_text.specs.declared.lanes.Mark.TheVariants.{Break}
use Rattle.rope_text.specs.ByteBreaks.{byte_break_count}
use Rattle.rope_text.specs.Marks.{ahead}
use Rattle.rope_text.proofs.seek.skip_breaks_back.Given as goal

abbrev pub invariant-loop-at : goal.invariant-loop-at
invariant-loop-at l = record {
  within : l.at ≤ length l.bytes;
  ahead : 32 ≤ l.at → l.at + ahead (Break l.fn.breaks) ≤ length l.bytes;
  counted : l.n + (l.left + byte_break_count l.fn.breaks (drop l.at l.bytes))
      ≡ byte_break_count l.fn.breaks l.bytes;
}

abbrev pub decreases-loop-at : goal.decreases-loop-at
decreases-loop-at l = l.at
