use Rattle.std.proofs.Common.{◌≡◌, take}
use Rattle.rope_leaf.proofs.search.widened.Given as goal

abbrev pub invariant-loop-place : goal.invariant-loop-place
invariant-loop-place l = l.wide.value.items ≡ take l.place l.totals
