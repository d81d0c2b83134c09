-- A borrow of the value of a `Sole` in one thread.
use base.Fml.{Fml}
use denote.RattleType.{RattleType}
use denote.Ref.{MutBor}
use denote.Follow.{follows}
use Rattle.std.specs.declared.rc.Rc.{Rc}
use Rattle.std.specs.declared.alloc.Global.{Global}
use Rattle.std.specs.contracts.rc.Rc as rc
use Rattle.std.specs.contracts.alloc.Global as heap
use Rattle.std.specs.contracts.impls.GlobalAllocator.TheImpl.{ghosts}
use Rattle.rope_shared.specs.declared.local.sole.Sole.{Sole}
use Rattle.rope_shared.specs.contracts.local.sole.Sole.{the_row}

-- the owner s after w is written over its value
abbrev pub with_value : {X : Type 0} → Sole X → X → Sole X
with_value s w = record { ptr = s.ptr; value = w }

-- once the borrow r ends, the `Sole<R>` that s refers to holds the last value written through r
abbrev pub sole_follows : (R : RattleType) → MutBor (Sole R.Denot) → MutBor R.Denot → Fml
sole_follows R s r = follows (the_row R) R s.ghost_name r.ghost_name (with_value s.now)

-- the `Rc` of the block of s, with w as its value
abbrev pub rc_of : {X : Type 0} → Sole X → X → Rc X Global
rc_of s w = record { ptr = s.ptr; value = w }

-- once the borrow r ends, the `Rc` that c refers to is that of s, with the last value of r
abbrev pub rc_holds : (R : RattleType) → Sole R.Denot → MutBor (Rc R.Denot Global) → MutBor R.Denot
    → Fml
rc_holds R s c r = follows (rc.the_row R heap.the_row ghosts) R c.ghost_name r.ghost_name (rc_of s)
