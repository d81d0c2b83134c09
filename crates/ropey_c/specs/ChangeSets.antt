-- What calls on a handle of changes do. Without changes they return `NO_CHANGES_HELD` and change
-- nothing.
use Rattle.std.specs.Prelude.{◌≡◌, ◌≢◌, ℕ, ◌<◌, ◌≤◌, ◌^◌, List, length, map, Option, Some, None, IfSome, IsSomeAnd}
use Rattle.std.specs.List.{All}
use Rattle.rope_changes.specs.Ops.{len_after}
use Rattle.rope_changes.specs.Change.{Change, before, after, ops, IsNormal}
use Rattle.rope_changes.specs.Inverted.{inverted}
use Rattle.rope_changes.specs.Moved.{moved}
use Rattle.rope_changes.specs.Normal.{composed, rebased}
use Rattle.rope_changes.specs.declared.Side.{Side}
use Rattle.ropey.specs.View.{RopeView}
use Rattle.ropey_c.specs.Status.{IsStatus}
use Rattle.ropey_c.specs.ChangeStatus.{IsMadeStatus}
use Rattle.ropey_c.specs.declared.status.TheConstants.{OK, NO_ROPE_HELD, NO_CHANGES_HELD, UNKNOWN_SIDE, LENGTHS_DIFFER, TOO_LONG, CHAR_INDEX_OUT_OF_BOUNDS}

-- a call that alters changes: its status is one that `Status` allows, a refusal leaves them as they
-- were, and otherwise `After` holds of the changes before and after
abbrev pub Alters : Option Change → Option Change → ℕ → (Change → Type 0)
    → (Change → Change → Type 0) → Type 0
Alters None None status Status After = status ≡ NO_CHANGES_HELD
Alters None (Some new) status Status After = ⊥
Alters (Some old) None status Status After = ⊥
Alters (Some old) (Some new) status Status After =
    Status old × (0 < status → new ≡ old) × (status ≡ OK → After old new)

-- a call that has nothing to do: on changes that `Empty` holds of it returns `OK` and leaves them
-- as they were
abbrev pub KeepsChanges : Option Change → Option Change → ℕ → (Change → Type 0) → Type 0
KeepsChanges old new status Empty = IfSome old (λ c. Empty c → (status ≡ OK) × (new ≡ old))

-- changes were made that `Made` holds of, unless their lengths differ; a refusal leaves what the
-- handle held
pub record Makes (expected len status : ℕ) (old new : Option Change)
    (Made : Change → Type 0) : Type 0 where
  pub status_is : IsMadeStatus expected len status
  pub err : 0 < status → new ≡ old
  pub ok : status ≡ OK → IsSomeAnd new Made

-- the changes that lead back to the text of a rope
abbrev pub InvertsTo : Option Change → Option RopeView → ℕ → Option Change → Option Change → Type 0
InvertsTo None rope status old new = (status ≡ NO_CHANGES_HELD) × (new ≡ old)
InvertsTo (Some c) None status old new = (status ≡ NO_ROPE_HELD) × (new ≡ old)
InvertsTo (Some c) (Some rope) status old new =
    Makes (before c) (length rope.text) status old new (λ made. made ≡ inverted c rope.text)

-- changes and then later ones, as one change in normal form
abbrev pub ComposesTo : Option Change → Option Change → ℕ → Option Change → Option Change → Type 0
ComposesTo None later status old new = (status ≡ NO_CHANGES_HELD) × (new ≡ old)
ComposesTo (Some c) None status old new = (status ≡ NO_CHANGES_HELD) × (new ≡ old)
ComposesTo (Some c) (Some later) status old new =
    Makes (before later) (after c) status old new
    (λ made. (ops made ≡ composed (ops c) (ops later)) × IsNormal made)

-- changes as changes of the text after others, on a side, unless the text after them would be too
-- long
pub record Rebases (side : Side) (c over : Change) (status : ℕ)
    (old new : Option Change) : Type 0 where
  pub differs : before c ≢ before over → status ≡ LENGTHS_DIFFER
  pub too_long : before c ≡ before over → 2 ^ 63 ≤ len_after (rebased side (ops c) (ops over))
      → status ≡ TOO_LONG
  pub memory : before c ≡ before over → len_after (rebased side (ops c) (ops over)) < 2 ^ 63
      → IsStatus None status
  pub err : 0 < status → new ≡ old
  pub ok : status ≡ OK
      → IsSomeAnd new (λ made. (ops made ≡ rebased side (ops c) (ops over)) × IsNormal made)

abbrev pub RebasesOn : Option Side → Change → Change → ℕ → Option Change → Option Change → Type 0
RebasesOn None c over status old new = (status ≡ UNKNOWN_SIDE) × (new ≡ old)
RebasesOn (Some side) c over status old new = Rebases side c over status old new

abbrev pub RebasesTo : Option Change → Option Change → Option Side → ℕ → Option Change
    → Option Change → Type 0
RebasesTo None over side status old new = (status ≡ NO_CHANGES_HELD) × (new ≡ old)
RebasesTo (Some c) None side status old new = (status ≡ NO_CHANGES_HELD) × (new ≡ old)
RebasesTo (Some c) (Some over) side status old new = RebasesOn side c over status old new

-- where an index of the text before lies in the text after, on a side
abbrev pub MovesOn : Option Side → Change → ℕ → ℕ → ℕ → ℕ → Type 0
MovesOn None c i status old new = (status ≡ UNKNOWN_SIDE) × (new ≡ old)
MovesOn (Some side) c i status old new =
    (before c < i → (status ≡ CHAR_INDEX_OUT_OF_BOUNDS) × (new ≡ old))
    × (i ≤ before c → (status ≡ OK) × (new ≡ moved side (ops c) i))

abbrev pub MovesAt : Option Change → Option Side → ℕ → ℕ → ℕ → ℕ → Type 0
MovesAt None side i status old new = (status ≡ NO_CHANGES_HELD) × (new ≡ old)
MovesAt (Some c) side i status old new = MovesOn side c i status old new

-- where indices of the text before lie in the text after; all of them move or none
abbrev pub MovesAllOn : Option Side → Change → ℕ → List ℕ → List ℕ → Type 0
MovesAllOn None c status old new = (status ≡ UNKNOWN_SIDE) × (new ≡ old)
MovesAllOn (Some side) c status old new =
    (¬ All (λ i. i ≤ before c) old → (status ≡ CHAR_INDEX_OUT_OF_BOUNDS) × (new ≡ old))
    × (All (λ i. i ≤ before c) old → (status ≡ OK) × (new ≡ map (moved side (ops c)) old))

abbrev pub MovesAllAt : Option Change → Option Side → ℕ → List ℕ → List ℕ → Type 0
MovesAllAt None side status old new = (status ≡ NO_CHANGES_HELD) × (new ≡ old)
MovesAllAt (Some c) side status old new = MovesAllOn side c status old new
