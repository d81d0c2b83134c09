-- The replacements of a change, read one after the other.
use Rattle.std.specs.Prelude.{◌≡◌, ℕ, ◌+◌, ◌-◌, ◌<◌, ◌≤◌, ◌^◌, List, ◌∷◌, length}
use Rattle.std.specs.Str.{chars}
use Rattle.rope_changes.specs.Ops.{len_before, len_after}
use Rattle.rope_changes.specs.Change.{Edit, ops_of}
use Rattle.rope_changes.specs.declared.change_set.Edits.TheInside.{Inside}
use Rattle.rope_changes.specs.declared.change_set.EditRange.{EditRange}

-- the replacements that are left, and the end of the one before them in the text before and in the
-- text after
pub record Remaining : Type 0 where
  pub edits : List Edit
  pub end : ℕ
  pub new_end : ℕ

abbrev pub remaining_of : Inside → Remaining
remaining_of a = record { edits = a.left; end = a.end; new_end = a.new_end }

-- both ends stay within the texts
pub record IsReading (a : Inside) : Type 0 where
  pub before : a.end + len_before (ops_of a.left 0) < 2 ^ 63
  pub after : a.new_end + len_after (ops_of a.left 0) < 2 ^ 63

-- the first of the replacements that are left, with its ranges in both texts, and those after it
pub record IsNext (old : Remaining) (e : EditRange) (new : Remaining) : Type 0 where
  pub starts : old.end ≤ e.start
  pub ordered : e.start ≤ e.end
  pub edits : old.edits ≡ record {
    kept = e.start - old.end;
    text = chars e.text.now;
    deleted = e.end - e.start;
  } ∷ new.edits
  pub new_start : e.new_start ≡ old.new_end + (e.start - old.end)
  pub new_end : e.new_end ≡ e.new_start + length (chars e.text.now)
  pub end_is : new.end ≡ e.end
  pub new_end_is : new.new_end ≡ e.new_end
