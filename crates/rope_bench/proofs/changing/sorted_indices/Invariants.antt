-- No index so far is past the end.
use Rattle.std.proofs.Common.{◌≤◌}
use Rattle.std.specs.List.{All}
use Rattle.rope_bench.proofs.changing.sorted_indices.Given as goal

abbrev pub invariant-loop-k : goal.invariant-loop-k
invariant-loop-k l = All (λ i. i ≤ l.len) l.indices.items
