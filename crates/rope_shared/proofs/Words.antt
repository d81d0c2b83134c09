-- The machine values of a `Sole` and an `Arc`: one pointer each. Assumes `Logic`.
use Rattle.std.proofs.Common.{◌≡◌, Bool, true, false, List, [], ◌∷◌}
use seplogic.Ra.Ura.{Ura}
use mir.Syntax.{Sym}
use mir.Val.{Val}
use base.Fml.{Fml}
use base.Logic.{ent, sep, mono_r, ex_i}
use types.Logic.{Logic, sem}
use types.Kit.{Item, Goal, Seq, Step, step, ‵, ◌$◌, fsplit, fjoin}
use denote.RattleType.{RattleType}
use denote.RawPtr.{Ptr}
use Rattle.std.proofs.RcSteps.{word}
use Rattle.std.specs.Arc.Ownership.{arc_owns, ptr_in_block, sole_owns, counted_owns}
use Rattle.std.specs.contracts.sync.Arc as arc
use Rattle.std.specs.contracts.alloc.Global as heap
use Rattle.std.specs.contracts.impls.GlobalAllocator.TheImpl.{ghosts}
use Rattle.rope_shared.specs.Owning.{sole_memory}
use Rattle.rope_shared.specs.contracts.sole.Sole as sole
use Rattle.rope_shared.proofs.Pointers.{pointer_had, pointer_made}

-- what an `Arc` owns: the kit's word for it, which it doesn't pass on
abbrev pub either_owner : Fml → Fml → Bool → Fml
either_owner sole counted true = sole
either_owner sole counted false = counted

-- the allocator
abbrev pub Z : RattleType
Z = heap.the_row

module _ (R : RattleType) where
  abbrev pub Soles : RattleType
  Soles = sole.the_row R

  abbrev pub Arcs : RattleType
  Arcs = arc.the_row R Z ghosts

  abbrev pub sole_name : Sym
  sole_name = (sole.the_type R).name

  abbrev pub arc_name : Sym
  arc_name = (arc.the_type R Z ghosts).name

module _ (R : RattleType) {M : Type 1} {𝓤 : Ura M} {𝓛 : Logic 𝓤} {K : Type 0} {Γ : List (Item 𝓤)}
    {G : Goal 𝓤 𝓛.H} where
  pub sole_out : K → (d : (Soles R).Denot) (vs : List Val)
      → (vs ≡ word d.ptr ∷ [] → Seq K 𝓛 (‵ (sole_memory R d.ptr d.value) ∷ Γ) G)
      → Seq K 𝓛 (‵ ((Soles R).own_val d vs) ∷ Γ) G
  sole_out t d vs k = fsplit t $ pointer_had (sole_name R) (R ∷ []) d.ptr t vs k

  pub sole_in : K → (p : Ptr) (x : R.Denot)
      → Step K 𝓛 (‵ ((Soles R).own_val (record { ptr = p; value = x }) (word p ∷ [])) ∷ Γ) G
      (‵ (sole_memory R p x) ∷ Γ) G
  sole_in t p x = step (λ s. pointer_made (sole_name R) (R ∷ []) p t $ fjoin t $ s)

  pub arc_out : K → (d : (Arcs R).Denot) (vs : List Val)
      → (vs ≡ word d.ptr ∷ [] → Seq K 𝓛 (‵ (arc_owns Z ghosts.dealloc_token R d.ptr d.value) ∷ Γ) G)
      → Seq K 𝓛 (‵ ((Arcs R).own_val d vs) ∷ Γ) G
  arc_out t d vs k = fsplit t $ pointer_had (arc_name R) (R ∷ Z ∷ []) d.ptr t vs k

  pub arc_in : K → (p : Ptr) (x : R.Denot)
      → Step K 𝓛 (‵ ((Arcs R).own_val (record { ptr = p; value = x }) (word p ∷ [])) ∷ Γ) G
      (‵ (arc_owns Z ghosts.dealloc_token R p x) ∷ Γ) G
  arc_in t p x = step (λ s. pointer_made (arc_name R) (R ∷ Z ∷ []) p t $ fjoin t $ s)

module _ (R : RattleType) {M : Type 1} {𝓤 : Ura M} (𝓛 : Logic 𝓤) (p : Ptr) (x : R.Denot) where
  pub of_sole : ent 𝓤 (sep 𝓤 (sem 𝓛 (ptr_in_block p)) (sem 𝓛 (sole_owns Z ghosts.dealloc_token R p
      x))) (sem 𝓛 (arc_owns Z ghosts.dealloc_token R p x))
  of_sole = mono_r 𝓤 (sem 𝓛 (ptr_in_block p)) (ex_i 𝓤
      (λ (y : Bool). sem 𝓛 (either_owner (sole_owns Z ghosts.dealloc_token R p x) (counted_owns Z
      ghosts.dealloc_token R p x) y)) true)
