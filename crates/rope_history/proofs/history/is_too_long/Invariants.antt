-- The room that is left, and the replacements that are left.
use Rattle.std.proofs.Common.{◌≡◌, ◌+◌, length}
use Rattle.rope_changes.specs.Applied.{inserted_bytes}
use Rattle.rope_history.proofs.history.is_too_long.Given as goal

abbrev pub invariant-loop-edit : goal.invariant-loop-edit
invariant-loop-edit l =
    inserted_bytes l.change.edits + l.room ≡ l.initial.room + inserted_bytes l.edits.edits

abbrev pub decreases-loop-edit : goal.decreases-loop-edit
decreases-loop-edit l = length l.edits.edits
