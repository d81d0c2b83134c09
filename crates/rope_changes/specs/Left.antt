-- What is left of a change that is read one run of operations at a time.
use Rattle.std.specs.Prelude.{◌≡◌, ℕ, ◌+◌, ◌≤◌, ◌⊎◌, List, [], ◌∷◌, length}
use Rattle.std.specs.Str.{chars}
use Rattle.rope_changes.specs.Ops.{Op}
use Rattle.rope_changes.specs.Change.{Edit, keeping, inserting, deleting, ops_of}
use Rattle.rope_changes.specs.declared.cursor.Cursor.TheInside.{Inside}

-- what is left of one replacement, those after it, and the number of characters kept after the last
-- one
pub record Left : Type 0 where
  pub kept : ℕ
  pub text : List ℕ
  pub deleted : ℕ
  pub edits : List Edit
  pub rest : ℕ

-- the operations that are left
abbrev pub left : Left → List Op
left l = keeping l.kept (inserting l.text (deleting l.deleted (ops_of l.edits l.rest)))

-- one run of operations at least is left of the replacement, or no operation is left
abbrev pub IsLoaded : Left → Type 0
IsLoaded l = (1 ≤ l.kept + length l.text + l.deleted) ⊎ (left l ≡ [])

-- a text is inserted next
abbrev pub Inserts : Left → Type 0
Inserts l = (l.kept ≡ 0) × (1 ≤ length l.text)

abbrev pub left_of : Inside → Left
left_of a =
    record {
      kept = a.kept;
      text = chars a.text.now;
      deleted = a.deleted;
      edits = a.later;
      rest = a.rest;
    }

-- each replacement inserts or deletes something
abbrev pub AreChanging : List Edit → Type 0
AreChanging [] = Unit {0}
AreChanging (e ∷ edits) = (1 ≤ length e.text + e.deleted) × AreChanging edits

-- the text is counted, and each replacement changes something
pub record IsCursor (a : Inside) : Type 0 where
  pub counted : a.inserted ≡ length (chars a.text.now)
  pub changing : AreChanging a.later
