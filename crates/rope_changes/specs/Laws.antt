-- What changes have in common.
use Rattle.std.specs.Prelude.{◌≡◌, ℕ, suc, ◌-◌, ◌≤◌, List, length}
use Rattle.std.specs.List.{replace_range}
use Rattle.rope_changes.specs.Ops.{Op, run, len_before, len_after}
use Rattle.rope_changes.specs.Combined.{compose, inverse, rebase_first, rebase_second}
use Rattle.rope_changes.specs.Normal.{normal_form, composed, rebased}
use Rattle.rope_changes.specs.Change.{Change, ops, before, after, replaced, IsInOrder, IsNormal}
use Rattle.rope_changes.specs.Inverted.{inverted}
use Rattle.rope_changes.specs.Moved.{moved, moved_before, IsKept}
use Rattle.rope_changes.specs.declared.side.Side.{Side}
use Rattle.rope_changes.specs.declared.side.Side.TheVariants.{Before, After}

-- the text after a change of a text of the length before has the length after
abbrev pub LengthsAgree : Type 0
LengthsAgree =
    (a : List Op) (text : List ℕ) → len_before a ≡ length text → length (run a text) ≡ len_after a

-- a composition does what its two changes do in a row
abbrev pub ComposeApplies : Type 0
ComposeApplies =
    (a b : List Op) (text : List ℕ) → len_before a ≤ length text
    → run (compose a b) text ≡ run b (run a text)

-- an inverse leads back
abbrev pub InverseApplies : Type 0
InverseApplies =
    (a : List Op) (text : List ℕ) → len_before a ≤ length text
    → run (inverse a text) (run a text) ≡ text

-- two changes of one text lead to the same text, whichever comes first
abbrev pub Converges : Type 0
Converges =
    (a b : List Op) (text : List ℕ) → len_before a ≤ length text → len_before b ≤ length text
    → run (rebase_second a b) (run a text) ≡ run (rebase_first a b) (run b text)

-- the normal form of a change does what the change does
abbrev pub NormalFormApplies : Type 0
NormalFormApplies = (a : List Op) (text : List ℕ) → run (normal_form a) text ≡ run a text

-- and is a change of a text of the same length, to a text of the same length
abbrev pub NormalFormKeepsLengths : Type 0
NormalFormKeepsLengths =
    (a : List Op)
    → (len_before (normal_form a) ≡ len_before a) × (len_after (normal_form a) ≡ len_after a)

-- a change in normal form is its own normal form
abbrev pub NormalFormIsUnique : Type 0
NormalFormIsUnique = (c : Change) → IsNormal c → normal_form (ops c) ≡ ops c

-- changes in normal form with the same operations are the same replacements
abbrev pub OperationsTell : Type 0
OperationsTell = (c d : Change) → IsNormal c → IsNormal d → ops c ≡ ops d → c ≡ d

-- three changes in a row compose to one change, whether the first two or the last two are composed
-- first
abbrev pub CompositionsAssociate : Type 0
CompositionsAssociate = (a b c : List Op) → composed (composed a b) c ≡ composed a (composed b c)

-- two changes of one text, each rebased over the other with opposite sides, lead to the same text
abbrev pub RebasesConverge : Type 0
RebasesConverge =
    (a b : List Op) (text : List ℕ) → len_before a ≡ length text → len_before b ≡ length text
    → run (rebased After b a) (run a text) ≡ run (rebased Before a b) (run b text)

-- an index moves through a composition as through its two changes, if it stays before inserted text
abbrev pub MovesCompose : Type 0
MovesCompose =
    (a b : List Op) (index : ℕ)
    → moved_before (compose a b) index ≡ moved_before b (moved_before a index)

-- an index after a character that a composition keeps moves through the composition in normal form
-- as through both changes, if it stays before inserted text
abbrev pub MovesThroughComposed : Type 0
MovesThroughComposed = (a b : List Op) (index : ℕ) → IsKept (compose a b) index
    → moved_before (composed a b) (suc index) ≡ moved_before b (moved_before a (suc index))

-- the start of the text stays, if it stays before inserted text
abbrev pub StartStays : Type 0
StartStays = (a : List Op) → moved_before a 0 ≡ 0

-- indices keep their order
abbrev pub MovesKeepOrder : Type 0
MovesKeepOrder = (side : Side) (a : List Op) (i j : ℕ) → i ≤ j → moved side a i ≤ moved side a j

-- a range that is replaced after the last replacement is replaced in the text after the change, as
-- far from its end as in the text before
abbrev pub ReplacesRange : Type 0
ReplacesRange =
    (c : Change) (start end : ℕ) (new text : List ℕ) → IsInOrder c start end
    → before c ≡ length text
    → run (ops (replaced c start end new)) text
    ≡ replace_range (run (ops c) text) (after c - (before c - start))
    (after c - (before c - end)) new

-- the inverse of a change leads back to the text that it was made for
abbrev pub InvertsBack : Type 0
InvertsBack =
    (c : Change) (text : List ℕ) → before c ≡ length text
    → run (ops (inverted c text)) (run (ops c) text) ≡ text
