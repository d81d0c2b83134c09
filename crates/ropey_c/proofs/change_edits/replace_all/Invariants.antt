-- The edits that are left are made in the changes so far.
use Rattle.std.proofs.Common.{◌≡◌, ℕ, drop, map}
use Rattle.rope_changes.specs.Built.{built}
use Rattle.ropey_c.specs.ChangeEdits.{edit_of, IsEditsStatus}
use Rattle.ropey_c.proofs.change_edits.replace_all.Given as goal

abbrev pub invariant-loop-edit : goal.invariant-loop-edit
invariant-loop-edit l = record {
  built : built l.fn.changes (map edit_of l.edits) ≡ built l.changes
      (map edit_of (drop l.edit-index l.edits));
  status : (s : ℕ) → IsEditsStatus l.changes (drop l.edit-index l.edits) s →
      IsEditsStatus l.fn.changes l.edits s;
}
