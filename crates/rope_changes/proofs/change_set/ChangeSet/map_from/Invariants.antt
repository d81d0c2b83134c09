-- The replacements that are passed end before the index.
use Rattle.std.proofs.Common.{◌-◌, length}
use Rattle.rope_changes.specs.Passed.{Reaches, IsPassed}
use Rattle.rope_changes.proofs.change_set.ChangeSet.map_from.Given as goal

abbrev pub invariant-loop-passed : goal.invariant-loop-passed
invariant-loop-passed l = record {
  reaches : Reaches l.passed l.char_idx;
  passed : IsPassed l.self l.passed;
}

abbrev pub decreases-loop-passed : goal.decreases-loop-passed
decreases-loop-passed l = length l.lengths - l.passed.count
