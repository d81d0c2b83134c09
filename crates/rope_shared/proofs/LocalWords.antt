-- The machine values of a `Sole` in one thread and an `Rc`: one pointer each. Assumes `Logic`.
use Rattle.std.proofs.Common.{◌≡◌, Bool, true, false, true≢false, List, [], ◌∷◌, subst}
use seplogic.Ra.Ura.{Ura}
use mir.Syntax.{Sym}
use mir.Val.{Val}
use base.Logic.{ent, ex_i}
use base.Fml.{ftrue}
use types.Logic.{Logic, sem}
use types.Kit.{Item, Goal, Seq, Step, step, ‵, ◌$◌, ◌∵◌, !, qed, move, drop, fsplit, fsplit3, fjoin, fjoin3, fpick, fpack, feq_l, done}
use denote.Steps.{nothing}
use denote.RattleType.{RattleType}
use denote.RawPtr.{Ptr, InBlock}
use Rattle.std.proofs.RcSteps.{word}
use Rattle.std.specs.Rc.Ownership.{rc_owns, sole_owns, counted_owns}
use Rattle.std.specs.contracts.rc.Rc as rc
use Rattle.std.specs.contracts.impls.GlobalAllocator.TheImpl.{ghosts}
use Rattle.rope_shared.specs.Local.Owning.{sole_memory}
use Rattle.rope_shared.specs.contracts.local.sole.Sole as sole
use Rattle.rope_shared.proofs.Words.{Z, either_owner}
use Rattle.rope_shared.proofs.Pointers.{pointer_had, pointer_made}

module _ (R : RattleType) where
  abbrev pub Soles : RattleType
  Soles = sole.the_row R

  abbrev pub Rcs : RattleType
  Rcs = rc.the_row R Z ghosts

  abbrev pub sole_name : Sym
  sole_name = (sole.the_type R).name

  abbrev pub rc_name : Sym
  rc_name = (rc.the_type R Z ghosts).name

module _ (R : RattleType) {M : Type 1} {𝓤 : Ura M} {𝓛 : Logic 𝓤} {K : Type 0} {Γ : List (Item 𝓤)}
    {G : Goal 𝓤 𝓛.H} where
  pub sole_out : K → (d : (Soles R).Denot) (vs : List Val)
      → (vs ≡ word d.ptr ∷ [] → Seq K 𝓛 (‵ (sole_memory R d.ptr d.value) ∷ Γ) G)
      → Seq K 𝓛 (‵ ((Soles R).own_val d vs) ∷ Γ) G
  sole_out t d vs k = fsplit t $ pointer_had (sole_name R) (R ∷ []) d.ptr t vs k

  pub sole_in : K → (p : Ptr) (x : R.Denot)
      → Step K 𝓛 (‵ ((Soles R).own_val (record { ptr = p; value = x }) (word p ∷ [])) ∷ Γ) G
      (‵ (sole_memory R p x) ∷ Γ) G
  sole_in t p x = step (λ s. pointer_made (sole_name R) (R ∷ []) p t $ fjoin t $ s)

  pub rc_out : K → (d : (Rcs R).Denot) (vs : List Val)
      → (vs ≡ word d.ptr ∷ [] → Seq K 𝓛 (‵ (rc_owns Z ghosts.dealloc_token R d.ptr d.value) ∷ Γ) G)
      → Seq K 𝓛 (‵ ((Rcs R).own_val d vs) ∷ Γ) G
  rc_out t d vs k = fsplit t $ pointer_had (rc_name R) (R ∷ Z ∷ []) d.ptr t vs k

  pub rc_in : K → (p : Ptr) (x : R.Denot)
      → Step K 𝓛 (‵ ((Rcs R).own_val (record { ptr = p; value = x }) (word p ∷ [])) ∷ Γ) G
      (‵ (rc_owns Z ghosts.dealloc_token R p x) ∷ Γ) G
  rc_in t p x = step (λ s. pointer_made (rc_name R) (R ∷ Z ∷ []) p t $ fjoin t $ s)

module _ (R : RattleType) {M : Type 1} {𝓤 : Ura M} (𝓛 : Logic 𝓤) (p : Ptr) (x : R.Denot) where
  pub of_sole : ent 𝓤 (sem 𝓛 (sole_owns Z ghosts.dealloc_token R p x)) (sem 𝓛 (rc_owns Z
      ghosts.dealloc_token R p x))
  of_sole = ex_i 𝓤 (λ (y : Bool). sem 𝓛 (either_owner (sole_owns Z ghosts.dealloc_token R p x)
      (counted_owns Z ghosts.dealloc_token R p x) y)) true

  pub of_counted : ent 𝓤 (sem 𝓛 (counted_owns Z ghosts.dealloc_token R p x)) (sem 𝓛 (rc_owns Z
      ghosts.dealloc_token R p x))
  of_counted = ex_i 𝓤 (λ (y : Bool). sem 𝓛 (either_owner (sole_owns Z ghosts.dealloc_token R p x)
      (counted_owns Z ghosts.dealloc_token R p x) y)) false

module _ (R : RattleType) {M : Type 1} {𝓤 : Ura M} (𝓛 : Logic 𝓤) (p : Ptr) (x : R.Denot) where
  pub sole_memory_of : InBlock p → ent 𝓤 (sem 𝓛 (sole_owns Z ghosts.dealloc_token R p x)) (sem 𝓛
      (sole_memory R p x))
  sole_memory_of inb = qed 𝓛 (‵ (sole_owns Z ghosts.dealloc_token R p x) ∷ []) ∵ fsplit3 ! $
      move ! (2 ∷ []) $ fsplit ! $ move ! (2 ∷ 3 ∷ []) $ fjoin ! $ move ! (1 ∷ 0 ∷ 2 ∷ []) $ fjoin3
      ! $ nothing ! $ fpack ! (InBlock p) (λ _. ftrue) inb $ fjoin ! $ done !

  pub of_sole_memory : ent 𝓤 (sem 𝓛 (sole_memory R p x)) (sem 𝓛 (sole_owns Z ghosts.dealloc_token R
      p x))
  of_sole_memory = qed 𝓛 (‵ (sole_memory R p x) ∷ []) ∵ fsplit ! $ drop ! $ fsplit3 ! $
      move ! (0 ∷ 2 ∷ []) $ fjoin ! $ move ! (1 ∷ []) $ fsplit ! $ move ! (0 ∷ 1 ∷ 2 ∷ []) $
      fjoin3 ! $ done !
