-- What clauses say of a `Shared`.
use base.Fml.{Fml}
use denote.RattleType.{RattleType}
use Rattle.std.specs.Prelude.{Option}
use Rattle.std.specs.Borrow.{Lends, LendsIf, MutBor}
use Rattle.std.specs.Arc.{arc_with_value}
use Rattle.rope_shared.specs.declared.shared.Shared.{Shared}
use Rattle.rope_shared.specs.declared.sole.Sole.{Sole}
use Rattle.rope_shared.specs.Sole.{arc_of}
use Rattle.rope_shared.specs.contracts.shared.Shared.{the_row}

-- the value
abbrev pub shared_value : {X : Type 0} → Shared X → X
shared_value s = s.arc.value

-- the same owner after w is written over its value
abbrev pub with_shared_value : {X : Type 0} → Shared X → X → Shared X
with_shared_value s w = record { arc = arc_with_value s.arc w }

-- s ends with the last value that r refers to, and unchanged if r is `None`
abbrev pub LendsValue : (R : RattleType) → MutBor (Shared R.Denot) → Option (MutBor R.Denot) → Fml
LendsValue R s r = LendsIf (the_row R) R s r (with_shared_value s.now) s.now

-- the first of several owners of the block of s, with w as its value
abbrev pub shared_of : {X : Type 0} → Sole X → X → Shared X
shared_of s w = record { arc = arc_of s w }

-- c ends as the first owner of the block of s, with the last value that r refers to
abbrev pub HoldsValue : (R : RattleType) → MutBor (Shared R.Denot) → Sole R.Denot → MutBor R.Denot
    → Fml
HoldsValue R c s r = Lends (the_row R) R c r (shared_of s)
