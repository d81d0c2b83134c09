-- What a builder's handle owns, and what calls on it do.
use Rattle.std.specs.Prelude.{◌≡◌, ◌≢◌, ℕ, ◌<◌, List, [], length, Option, Some, None, IsSomeAnd}
use Rattle.std.specs.Coded.{Coded}
use base.Fml.{Fml}
use denote.RawPtr.{Ptr}
use Rattle.std.specs.declared.alloc.Global.{Global}
use Rattle.rope_text.specs.declared.line_breaks.LineBreaks.{LineBreaks}
use Rattle.rope_text.specs.Text.{byte_len}
use Rattle.ropey.specs.View.{RopeView, IsBuilt}
use Rattle.ropey_c.specs.Intake.{Taking, nothing_taken, Takes}
use Rattle.ropey_c.specs.Handles.{held_at}
use Rattle.ropey_c.specs.Status.{IsStatus}
use Rattle.ropey_c.specs.declared.status.TheConstants.{OK, INVALID_UTF8, NO_BUILDER_HELD, UNKNOWN_BREAK_SET}
use Rattle.ropey_c.specs.contracts.intake.Intake.{the_row}

-- how the logic stores what a builder shows
abbrev pub intake_code : Coded Taking
intake_code = the_row.coded

-- no builder at null, and otherwise what a box of it owns
abbrev pub intake_at : Global → Ptr → Option Taking → Fml
intake_at alloc p intake = held_at the_row alloc p intake

-- a new builder was given nothing
abbrev pub Begins : Option LineBreaks → Option Taking → Option Taking → ℕ → Type 0
Begins None old new status = (status ≡ UNKNOWN_BREAK_SET) × (new ≡ old)
Begins (Some breaks) old new status = IsStatus None status
    × (status ≡ OK → new ≡ Some (nothing_taken breaks)) × (0 < status → new ≡ old)

-- bytes are handed to the builder, if there is one
abbrev pub TakesAt : Option Taking → Option Taking → List ℕ → ℕ → ℕ → ℕ → Type 0
TakesAt None new bytes status valid_old valid_new = (status ≡ NO_BUILDER_HELD) × (new ≡ None)
    × (valid_new ≡ valid_old)
TakesAt (Some old) new bytes status valid_old valid_new =
    IsSomeAnd new (λ taking. Takes old bytes status valid_old valid_new taking)

-- the rope of all that was given, or why there is none
pub record FinishesWith (old : Taking) (status valid_old valid_new : ℕ)
    (rope_old rope_new : Option RopeView) : Type 0 where
  pub earlier : old.refused ≢ OK → (status ≡ old.refused) × (valid_new ≡ valid_old)
  pub faulty : old.refused ≡ OK → 0 < length old.rest → (status ≡ INVALID_UTF8)
      × (valid_new ≡ byte_len old.text)
  pub fine : old.refused ≡ OK → length old.rest ≡ 0 → IsStatus None status
  pub ok : status ≡ OK → (old.refused ≡ OK) × (old.rest ≡ [])
      × IsSomeAnd rope_new (λ rope. (rope.text ≡ old.text) × IsBuilt old.breaks rope)
  pub err : 0 < status → rope_new ≡ rope_old
  pub kept : status ≢ INVALID_UTF8 → valid_new ≡ valid_old

abbrev pub FinishesAt : Option Taking → ℕ → ℕ → ℕ → Option RopeView → Option RopeView → Type 0
FinishesAt None status valid_old valid_new rope_old rope_new = (status ≡ NO_BUILDER_HELD)
    × (rope_new ≡ rope_old) × (valid_new ≡ valid_old)
FinishesAt (Some old) status valid_old valid_new rope_old rope_new =
    FinishesWith old status valid_old valid_new rope_old rope_new
