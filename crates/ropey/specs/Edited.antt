-- The effects and errors of edits of ropes.
use Rattle.std.specs.Prelude.{◌≡◌, ℕ, List, ◌++◌, length, take, drop, Option, None, IsSome, Result, IsOk, OnErr}
use Rattle.rope_text.specs.declared.error.Error.{Error}
use Rattle.rope_text.specs.Edit.{inserted, insert_error, removed, range_start, range_end, char_range_error, append_error, IsRefusal}
use Rattle.rope_slice.specs.Sliced.{HasCharRange}
use Rattle.ropey.specs.View.{RopeView, IsRope}

-- after an error an edit leaves the rope unchanged; in either case it leaves a rope with its old
-- set of line breaks
abbrev pub IsEdit : {A : Type 0} → Result A Error → RopeView → RopeView → Type 0
IsEdit result old new = OnErr result (new ≡ old) × (new.breaks ≡ old.breaks) × IsRope new

-- an edit without effect: it succeeds, and leaves the rope unchanged, with its chunks
abbrev pub IsIdle : {A : Type 0} → Result A Error → RopeView → RopeView → Type 0
IsIdle result old new = IsOk result × (new ≡ old)

-- a text may be inserted: before a character of the old text or at its end, and the new text is not
-- too long
abbrev pub CanInsert : List ℕ → ℕ → List ℕ → Type 0
CanInsert old char_idx text = insert_error old char_idx text ≡ None

-- the text may be inserted there, and the new text is the old one with it before that character
abbrev pub IsInsert : List ℕ → ℕ → List ℕ → List ℕ → Type 0
IsInsert old char_idx text new = CanInsert old char_idx text × (new ≡ inserted old char_idx text)

-- the error of an insert: that of the index, else that of the size, else `OutOfMemory`
abbrev pub IsInsertRefusal : List ℕ → ℕ → List ℕ → Error → Type 0
IsInsertRefusal old char_idx text = IsRefusal (insert_error old char_idx text)

-- the old text has the range of characters, and the new text is the old one without them
abbrev pub IsRemoval : List ℕ → Option ℕ → Option ℕ → List ℕ → Type 0
IsRemoval old start end new =
    HasCharRange old start end
    × (new ≡ removed old (range_start start) (range_end end (length old)))

-- the error of a removal: that of the range, else `OutOfMemory`
abbrev pub IsRemovalRefusal : List ℕ → Option ℕ → Option ℕ → Error → Type 0
IsRemovalRefusal old start end = IsRefusal (char_range_error start end (length old))

-- a rope may be appended to another: the two have the same set of line breaks, and the new text is
-- not too long
abbrev pub CanAppend : RopeView → RopeView → Type 0
CanAppend old other = append_error old.breaks other.breaks old.text other.text ≡ None

-- a rope may not be appended: the two sets of line breaks differ, or the new text is too long
abbrev pub CannotAppend : RopeView → RopeView → Type 0
CannotAppend old other = IsSome (append_error old.breaks other.breaks old.text other.text)

-- a rope may be appended, and the new text is the old one followed by the other's
abbrev pub IsAppend : RopeView → RopeView → RopeView → Type 0
IsAppend old other new = CanAppend old other × (new.text ≡ old.text ++ other.text)

-- the error of an append: that of the two sets, else that of the size, else `OutOfMemory`
abbrev pub IsAppendRefusal : RopeView → RopeView → Error → Type 0
IsAppendRefusal old other = IsRefusal (append_error old.breaks other.breaks old.text other.text)

-- a rope is split before a character: it keeps those before it, and the rest is a rope with the
-- same set of line breaks
abbrev pub IsCutAt : ℕ → RopeView → RopeView → RopeView → Type 0
IsCutAt char_idx old new back =
    (new.text ≡ take char_idx old.text) × (back.text ≡ drop char_idx old.text)
    × (back.breaks ≡ old.breaks) × IsRope back
