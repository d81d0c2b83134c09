-- The edits that are left are made of the change so far.
use Rattle.std.proofs.Common.{◌≡◌, drop}
use Rattle.rope_changes.specs.Change.{before}
use Rattle.rope_changes.specs.Built.{unchanged, built, first_error, RefusesOne}
use Rattle.rope_changes.specs.declared.error.ChangeError.{ChangeError}
use Rattle.rope_changes.proofs.change_set.ChangeSet.of_edits.Given as goal

abbrev pub invariant-loop-edit : goal.invariant-loop-edit
invariant-loop-edit l = record {
  built : built (unchanged l.len) l.edits ≡ built l.change (drop l.edit-index l.edits);
  error : first_error (unchanged l.len) l.edits ≡ first_error l.change (drop l.edit-index l.edits);
  refuses : (e : ChangeError) → RefusesOne l.change (drop l.edit-index l.edits) e
      → RefusesOne (unchanged l.len) l.edits e;
  len : before l.change ≡ l.len;
}
