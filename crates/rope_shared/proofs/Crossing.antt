-- The memory of a `Sole` says the same to each thread, if its value does.
use mir.Syntax.{Ty, w64, ty_int}
use mir.Raw.{raw}
use base.Fraction.{full_share}
use base.Fml.{ftrue}
use base.Shift.{Keyless}
use denote.Exit.{Exit, unchanged, leaves, hidden, under}
use denote.RattleType.{RattleType}
use denote.Memory.{lone}
use denote.RawPtr.{Ptr, block_ptr, null_ptr, block_of, count_of, lies_at, room_for, in_block, ◌+ₚ◌}
use denote.Builtin.{RawPtr}
use denote.Param.Send.{IsSend, IsSync, Quiet, Common, AllSend, part_keyless, owning_send, struct_send, struct_sync, sendable}
use denote.Struct.Owning.{shape, fields, to}
use denote.Struct.Struct.{exits_of}
use Rattle.std.specs.Arc.Ownership.{arc_inner_type, allocator_offset}
use Rattle.std.proofs.Crossing.{frees}
use Rattle.rope_shared.specs.Owning.{sole_memory, sole_lent, value_of}
use Rattle.rope_shared.specs.contracts.sole.Sole as sole
use Rattle.rope_shared.proofs.Words.{Z}

quiet : {D X : Type 0} (view : D → X) (e : Exit X) → Quiet e → Quiet (hidden (under view e))
quiet view unchanged q = λ x w. tt
quiet view (leaves L l S s r) q = λ d. q (view d)

lies : (R : RattleType) → IsSend R → (p : Ptr) (x : R.Denot) → Keyless (lies_at R full_share p x)
lies R s (block_ptr b o) x = part_keyless R s full_share x b o
lies R s null_ptr x = tt

room : (τ : Ty) (p : Ptr) → Keyless (room_for τ p)
room τ (block_ptr b o) = tt
room τ null_ptr = tt

inside : (p : Ptr) → Keyless (in_block p ftrue)
inside (block_ptr b o) = tt
inside null_ptr = tt

pointer : IsSend RawPtr
pointer = search sendable

lent_pointer : IsSync RawPtr
lent_pointer = search sendable

allocator : IsSend Z
allocator = search sendable

module _ (R : RattleType) where
  memory : IsSend R → (p : Ptr) (x : R.Denot) → Keyless (sole_memory R p x)
  memory s p x = let at : Ptr = p +ₚ allocator_offset Z R in let τ : Ty = arc_inner_type Z R in (
    (λ _. tt),
    (
      lies R s (value_of R p) x,
      (
        tt,
        λ h. (
          lies Z allocator at h,
          (
            frees.frees h τ p,
            (
              (
                room (ty_int w64) (p +ₚ 0),
                (
                  room (raw (lone Z.mir)) at,
                  room (raw (lone R.mir))
                      (value_of R p),
                ),
              ),
              room τ p,
            ),
          ),
        ),
      ),
    ),
  )

  shown : IsSync R → (p : Ptr) (x : R.Denot) → Common (sole_lent R p x)
  shown y p x κ = (
    (λ _. tt),
    (
      inside (value_of R p),
      y.shared x (block_of (value_of R p)) (count_of
          (value_of R p)) κ,
    ),
  )

  pub sole_send : IsSend R → IsSend (sole.the_row R)
  sole_send s = let O = sole.the_type R in let all : AllSend (fields O) = (pointer, tt) in
      owning_send O all (λ d. memory s d.ptr d.value)
      (λ k. quiet (to O) (exits_of k (fields O)) ((struct_send (shape O) all).leaving k))

  pub sole_sync : IsSync R → IsSync (sole.the_row R)
  sole_sync y = let O = sole.the_type R in
      record {
        shared = λ d b o κ. (
          (struct_sync (shape O) (lent_pointer, tt)).shared (to O d) b o
              κ,
          shown y d.ptr d.value κ,
        );
      }

-- for the goals of a caller that sends an owner, beside the kit's rules of this name
pub ruleset owners_cross = (sole_send, sole_sync)
