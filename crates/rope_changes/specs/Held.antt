-- What a change set holds.
use Rattle.std.specs.Prelude.{◌≡◌, ◌<◌, ◌^◌}
use Rattle.rope_changes.specs.Change.{Change, before, after, IsNormal}
use Rattle.rope_changes.specs.declared.change_set.ChangeSet.TheInside.{Inside}

abbrev pub change_of : Inside → Change
change_of a = record { edits = a.edits; rest = a.rest }

-- both lengths are those of texts, and the replacements are in normal form
pub record IsChangeSet (a : Inside) : Type 0 where
  pub before_is : a.len_before ≡ before (change_of a)
  pub after_is : a.len_after ≡ after (change_of a)
  pub before_fits : a.len_before < 2 ^ 63
  pub after_fits : a.len_after < 2 ^ 63
  pub normal : IsNormal (change_of a)
