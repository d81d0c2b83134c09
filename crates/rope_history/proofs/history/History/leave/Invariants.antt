-- The parents before the index were made the current version.
use Rattle.std.proofs.Common.{◌≡◌, take}
use Rattle.rope_history.specs.Versions.{ascended}
use Rattle.rope_history.specs.Views.{history_of}
use Rattle.rope_history.proofs.history.History.leave.Given as goal

abbrev pub invariant-loop-parent : goal.invariant-loop-parent
invariant-loop-parent l = record {
  items : l.parent-items ≡ l.fn.parents.items;
  up : history_of l.self-inside ≡ ascended l.fn.self (take l.parent-index l.parent-items);
}
