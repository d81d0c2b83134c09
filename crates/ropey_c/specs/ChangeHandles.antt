-- What a handle of changes owns or lends.
use Rattle.std.specs.Prelude.{Option}
use Rattle.std.specs.Coded.{Coded}
use base.Fml.{Fml}
use denote.RawPtr.{Ptr}
use Rattle.std.specs.declared.alloc.Global.{Global}
use Rattle.rope_changes.specs.Change.{Change}
use Rattle.rope_changes.specs.contracts.ChangeSet.{the_row}
use Rattle.ropey_c.specs.Handles.{held_at, held_lent}

-- how the logic stores a change
abbrev pub changes_code : Coded Change
changes_code = the_row.coded

-- no changes at null, and otherwise what a box of them owns
abbrev pub changes_at : Global → Ptr → Option Change → Fml
changes_at alloc p changes = held_at the_row alloc p changes

-- no changes at null, and otherwise changes that are lent
abbrev pub changes_lent : Ptr → Option Change → Fml
changes_lent p changes = held_lent the_row p changes
