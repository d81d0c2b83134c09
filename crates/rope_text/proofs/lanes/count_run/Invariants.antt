use Rattle.std.proofs.Common.{◌≡◌, ◌≤◌, ◌+◌, ◌-◌, ◌/◌, ◌%◌}
use Rattle.rope_text.specs.Runs.{IsRun}
use Rattle.rope_text.proofs.lanes.count_run.Given as goal

abbrev pub invariant-loop-i : goal.invariant-loop-i
invariant-loop-i l = record {
  not_before : l.from ≤ l.i;
  within : l.i ≤ l.from + l.size;
  whole : ((l.from + l.size) - l.i) % 64 ≡ 0;
  short : l.size ≤ 4032;
  run : IsRun l.breaks l.bytes l.from (l.i - l.from) ((l.i - l.from) / 16) l.chars l.pairs l.ascii
      l.multibyte;
}

abbrev pub decreases-loop-i : goal.decreases-loop-i
decreases-loop-i l = (l.from + l.size) - l.i
