-- Changes in normal form: where text is replaced, what is inserted comes before what is deleted.
use Rattle.std.specs.Prelude.{List, [], ◌∷◌}
use Rattle.rope_changes.specs.Ops.{Op, keep, delete, insert}
use Rattle.rope_changes.specs.Combined.{compose, rebase_first, rebase_second}
use Rattle.rope_changes.specs.declared.side.Side.{Side}
use Rattle.rope_changes.specs.declared.side.Side.TheVariants.{Before, After}

-- a deletion after the inserts that lead operations
abbrev pub delete_after : List Op → List Op
delete_after [] = delete ∷ []
delete_after (keep ∷ ops) = delete ∷ keep ∷ ops
delete_after (delete ∷ ops) = delete ∷ delete ∷ ops
delete_after (insert c ∷ ops) = insert c ∷ delete_after ops

-- operations in normal form: between two kept characters the inserts come before the deletions
abbrev pub normal_form : List Op → List Op
normal_form [] = []
normal_form (keep ∷ ops) = keep ∷ normal_form ops
normal_form (delete ∷ ops) = delete_after (normal_form ops)
normal_form (insert c ∷ ops) = insert c ∷ normal_form ops

-- a change and then a later one, as one change in normal form
abbrev pub composed : List Op → List Op → List Op
composed ops later = normal_form (compose ops later)

-- a change as one of the text after another change of the same text; where both insert at one
-- index, its text comes first on the side before, and second on the side after
abbrev pub carried : Side → List Op → List Op → List Op
carried Before ops over = rebase_first ops over
carried After ops over = rebase_second over ops

-- that change in normal form
abbrev pub rebased : Side → List Op → List Op → List Op
rebased side ops over = normal_form (carried side ops over)
