-- Lists of edits as C gives them, and replacements of changes as C sees them.
use Rattle.std.specs.Prelude.{◌≡◌, ◌⊎◌, ℕ, ◌+◌, ◌<◌, List, [], ◌∷◌, length, take, drop, map, Option, Some, None}
use Rattle.std.specs.Str.{chars, encode_utf8_all}
use Rattle.rope_changes.specs.declared.Edit.{Edit}
use Rattle.rope_changes.specs.Change as change
use Rattle.rope_changes.specs.Change.{Change, replaced, ops}
use Rattle.rope_changes.specs.Built.{unchanged, built}
use Rattle.rope_changes.specs.Ops.{run}
use Rattle.ropey_c.specs.Status.{IsStatus}
use Rattle.ropey_c.specs.ChangeStatus.{IsReplaceStatus, IsApplyStatus}
use Rattle.ropey_c.specs.declared.status.TheConstants.{OK, NO_CHANGES_HELD}
use Rattle.ropey_c.specs.declared.change_edits.GivenEdit.{GivenEdit}
use Rattle.ropey_c.specs.declared.change_edits.Replacement.{Replacement}

-- an edit that C gives, with its bytes as a text
abbrev pub edit_of : GivenEdit → Edit
edit_of given = record { start = given.start; end = given.end; text = given.text }

-- the status of edits that are made in order, up to the first that is refused
abbrev pub IsEditsStatus : Change → List GivenEdit → ℕ → Type 0
IsEditsStatus c [] status = IsStatus None status
IsEditsStatus c (e ∷ edits) status =
    ((0 < status) × IsReplaceStatus c e.start e.end e.text.now status)
    ⊎ (IsReplaceStatus c e.start e.end e.text.now OK
    × IsEditsStatus (replaced c e.start e.end (chars e.text.now)) edits status)

-- a text with all edits made, whose indices are those of this text
abbrev pub edited : List ℕ → List GivenEdit → List ℕ
edited text edits = run (ops (built (unchanged (length text)) (map edit_of edits))) text

-- the status of edits that are made in a text: that of the first that is refused, and otherwise
-- that of the changes that they make
abbrev pub IsAppliedStatus : List ℕ → List GivenEdit → ℕ → Type 0
IsAppliedStatus text edits status =
    ((0 < status) × IsEditsStatus (unchanged (length text)) edits status)
    ⊎ (IsEditsStatus (unchanged (length text)) edits OK
    × IsApplyStatus (built (unchanged (length text)) (map edit_of edits)) text status)

-- a replacement as C sees it: its range in both texts, and the bytes of its text
pub record Listed : Type 0 where
  pub start : ℕ
  pub end : ℕ
  pub new_start : ℕ
  pub new_end : ℕ
  pub bytes : List ℕ

abbrev pub shown_of : Replacement → Listed
shown_of r = record {
  start = r.start;
  end = r.end;
  new_start = r.new_start;
  new_end = r.new_end;
  bytes = r.text.now;
}

-- replacements in order, after those that end at `end` in the text before and at `new_end` in the
-- text after
abbrev pub listed : ℕ → ℕ → List change.Edit → List Listed
listed end new_end [] = []
listed end new_end (e ∷ edits) =
    record {
      start = end + e.kept;
      end = end + e.kept + e.deleted;
      new_start = new_end + e.kept;
      new_end = new_end + e.kept + length e.text;
      bytes = encode_utf8_all e.text;
    }
    ∷ listed (end + e.kept + e.deleted) (new_end + e.kept + length e.text) edits

-- the replacements are written to the front of a list as far as there is room, and the rest of it
-- stays; they are counted
pub record Lists (edits : List change.Edit) (old new : List Replacement) (count : ℕ) : Type 0 where
  pub count_is : count ≡ length edits
  pub written : map shown_of (take count new) ≡ take (length old) (listed 0 0 edits)
  pub kept : drop count new ≡ drop count old
  pub room : length new ≡ length old

abbrev pub ListsAt : Option Change → ℕ → List Replacement → List Replacement → ℕ → ℕ → Type 0
ListsAt None status old new count_old count =
    (status ≡ NO_CHANGES_HELD) × (new ≡ old) × (count ≡ count_old)
ListsAt (Some c) status old new count_old count = (status ≡ OK) × Lists c.edits old new count
