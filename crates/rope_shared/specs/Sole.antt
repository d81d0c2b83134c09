-- A borrow of the value of a `Sole`.
use base.Fml.{Fml}
use denote.RattleType.{RattleType}
use denote.Ref.{MutBor}
use denote.Follow.{follows}
use Rattle.std.specs.declared.sync.Arc.{Arc}
use Rattle.std.specs.declared.alloc.Global.{Global}
use Rattle.std.specs.contracts.sync.Arc as arc
use Rattle.std.specs.contracts.alloc.Global as heap
use Rattle.std.specs.contracts.impls.GlobalAllocator.TheImpl.{ghosts}
use Rattle.rope_shared.specs.declared.sole.Sole.{Sole}
use Rattle.rope_shared.specs.contracts.sole.Sole.{the_row}

-- the owner s after w is written over its value
abbrev pub with_value : {X : Type 0} → Sole X → X → Sole X
with_value s w = record { ptr = s.ptr; value = w }

-- once the borrow r ends, the `Sole<R>` that s refers to holds the last value written through r
abbrev pub sole_follows : (R : RattleType) → MutBor (Sole R.Denot) → MutBor R.Denot → Fml
sole_follows R s r = follows (the_row R) R s.ghost_name r.ghost_name (with_value s.now)

-- the `Arc` of the block of s, with w as its value
abbrev pub arc_of : {X : Type 0} → Sole X → X → Arc X Global
arc_of s w = record { ptr = s.ptr; value = w }

-- once the borrow r ends, the `Arc` that c refers to is that of s, with the last value of r
abbrev pub arc_holds : (R : RattleType) → Sole R.Denot → MutBor (Arc R.Denot Global)
    → MutBor R.Denot → Fml
arc_holds R s c r = follows (arc.the_row R heap.the_row ghosts) R c.ghost_name r.ghost_name (arc_of
    s)
