-- What the only owner of a value in one thread owns and lends, in the words of the kit's `Rc`.
use base.Fraction.{full_share}
use base.Fml.{Lft, Fml, fsep}
use denote.RattleType.{RattleType}
use denote.RawPtr.{Ptr, lies_at, ◌+ₚ◌}
use denote.Sharing.{said, beside}
use denote.Struct.Lending.{lent_at}
use Rattle.std.specs.Arc.Ownership.{ptr_in_block}
use Rattle.std.specs.Rc.Ownership.{counter_at, value_offset, rc_box_dealloc}
use Rattle.std.specs.contracts.alloc.Global as heap
use Rattle.std.specs.contracts.impls.GlobalAllocator.TheImpl.{ghosts}

-- where the value of the block at p lies
abbrev pub value_of : (R : RattleType) → Ptr → Ptr
value_of R p = p +ₚ value_offset heap.the_row R

-- the right to free the block at p
abbrev pub frees_block : (R : RattleType) → Ptr → Fml
frees_block R p = rc_box_dealloc heap.the_row R ghosts.dealloc_token p

-- both counts of the block at p are 1
abbrev pub counts_one : Ptr → Fml
counts_one p = fsep (counter_at p 0 1) (counter_at p 8 1)

-- the block of an `Rc` that has one owner: the value x, the counts 1, and the right to free it
abbrev pub sole_memory : (R : RattleType) → Ptr → R.Denot → Fml
sole_memory R p x = fsep (ptr_in_block p) (fsep (lies_at R full_share (value_of R p) x) (fsep
    (counts_one p) (frees_block R p)))

-- the value x, lent
abbrev pub sole_lent : (R : RattleType) → Ptr → R.Denot → Lft → Fml
sole_lent R p x = beside (said (ptr_in_block p)) (lent_at R (value_of R p) x)
