-- Where an index of the text before a change lies in the text after it.
use Rattle.std.specs.Prelude.{ℕ, zero, suc, List, [], ◌∷◌}
use Rattle.rope_changes.specs.Ops.{Op, keep, delete, insert}
use Rattle.rope_changes.specs.declared.side.Side.{Side}
use Rattle.rope_changes.specs.declared.side.Side.TheVariants.{Before, After}

-- before the text that is inserted at the index
abbrev pub moved_before : List Op → ℕ → ℕ
moved_before [] index = index
moved_before (keep ∷ ops) zero = zero
moved_before (keep ∷ ops) (suc index) = suc (moved_before ops index)
moved_before (delete ∷ ops) zero = zero
moved_before (delete ∷ ops) (suc index) = moved_before ops index
moved_before (insert c ∷ ops) zero = zero
moved_before (insert c ∷ ops) (suc index) = suc (moved_before ops (suc index))

-- after the text that is inserted at the index
abbrev pub moved_after : List Op → ℕ → ℕ
moved_after [] index = index
moved_after (keep ∷ ops) zero = zero
moved_after (keep ∷ ops) (suc index) = suc (moved_after ops index)
moved_after (delete ∷ ops) zero = moved_after ops zero
moved_after (delete ∷ ops) (suc index) = moved_after ops index
moved_after (insert c ∷ ops) index = suc (moved_after ops index)

abbrev pub moved : Side → List Op → ℕ → ℕ
moved Before ops index = moved_before ops index
moved After ops index = moved_after ops index

-- the character at an index is kept
abbrev pub IsKept : List Op → ℕ → Type 0
IsKept [] index = Unit {0}
IsKept (keep ∷ ops) zero = Unit {0}
IsKept (keep ∷ ops) (suc index) = IsKept ops index
IsKept (delete ∷ ops) zero = ⊥
IsKept (delete ∷ ops) (suc index) = IsKept ops index
IsKept (insert c ∷ ops) index = IsKept ops index
