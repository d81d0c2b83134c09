-- Changes made of changes: two in a row as one, the inverse of one, and one carried over another.
use Rattle.std.specs.Prelude.{ℕ, List, [], ◌∷◌}
use Rattle.rope_changes.specs.Ops.{Op, keep, delete, insert, len_after}
use Rattle.rope_changes.specs.Change.{keeping}

-- a later change at a character that an earlier one keeps; `rest` composes the remaining operations
-- of both
abbrev pub onto_kept : (List Op → List Op) → List Op → List Op
onto_kept rest [] = keep ∷ rest []
onto_kept rest (keep ∷ later) = keep ∷ rest later
onto_kept rest (delete ∷ later) = delete ∷ rest later
onto_kept rest (insert c ∷ later) = insert c ∷ onto_kept rest later

-- a later change at a character that an earlier one inserts
abbrev pub onto_inserted : ℕ → (List Op → List Op) → List Op → List Op
onto_inserted c rest [] = insert c ∷ rest []
onto_inserted c rest (keep ∷ later) = insert c ∷ rest later
onto_inserted c rest (delete ∷ later) = rest later
onto_inserted c rest (insert d ∷ later) = insert d ∷ onto_inserted c rest later

-- a change and then a later one, as one change
abbrev pub compose : List Op → List Op → List Op
compose [] later = later
compose (keep ∷ ops) later = onto_kept (compose ops) later
compose (delete ∷ ops) later = delete ∷ compose ops later
compose (insert c ∷ ops) later = onto_inserted c (compose ops) later

-- the change that leads back to the text before
abbrev pub inverse : List Op → List ℕ → List Op
inverse [] text = []
inverse (keep ∷ ops) [] = inverse ops []
inverse (keep ∷ ops) (c ∷ text) = keep ∷ inverse ops text
inverse (delete ∷ ops) [] = inverse ops []
inverse (delete ∷ ops) (c ∷ text) = insert c ∷ inverse ops text
inverse (insert c ∷ ops) text = delete ∷ inverse ops text

-- a change of the text after another one, which kept the next character, or deleted it; `rest`
-- rebases the remaining operations
abbrev pub past_kept : (List Op → List Op) → List Op → List Op
past_kept rest [] = []
past_kept rest (keep ∷ ops) = keep ∷ rest ops
past_kept rest (delete ∷ ops) = delete ∷ rest ops
past_kept rest (insert c ∷ ops) = insert c ∷ past_kept rest ops

abbrev pub past_deleted : (List Op → List Op) → List Op → List Op
past_deleted rest [] = []
past_deleted rest (keep ∷ ops) = rest ops
past_deleted rest (delete ∷ ops) = rest ops
past_deleted rest (insert c ∷ ops) = insert c ∷ past_deleted rest ops

-- the second change as a change of the text after the first; where both insert at one index, what
-- the first inserts comes first
abbrev pub rebase_second : List Op → List Op → List Op
rebase_second [] second = second
rebase_second (keep ∷ ops) second = past_kept (rebase_second ops) second
rebase_second (delete ∷ ops) second = past_deleted (rebase_second ops) second
rebase_second (insert c ∷ ops) second = keep ∷ rebase_second ops second

-- a character that is kept, or deleted, in the text after a second change
abbrev pub over_kept : (List Op → List Op) → List Op → List Op
over_kept rest [] = keep ∷ rest []
over_kept rest (keep ∷ second) = keep ∷ rest second
over_kept rest (delete ∷ second) = rest second
over_kept rest (insert c ∷ second) = keep ∷ over_kept rest second

abbrev pub over_deleted : (List Op → List Op) → List Op → List Op
over_deleted rest [] = delete ∷ rest []
over_deleted rest (keep ∷ second) = delete ∷ rest second
over_deleted rest (delete ∷ second) = rest second
over_deleted rest (insert c ∷ second) = keep ∷ over_deleted rest second

-- the first change as a change of the text after the second; where both insert at one index, what
-- the first inserts comes first
abbrev pub rebase_first : List Op → List Op → List Op
rebase_first [] second = keeping (len_after second) []
rebase_first (keep ∷ ops) second = over_kept (rebase_first ops) second
rebase_first (delete ∷ ops) second = over_deleted (rebase_first ops) second
rebase_first (insert c ∷ ops) second = insert c ∷ rebase_first ops second
