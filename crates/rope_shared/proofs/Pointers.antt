-- A struct of one pointer, by value and by shared reference, and an empty place for one. Assumes
-- `Logic`.
use Rattle.std.proofs.Common.{◌≡◌, ℕ, true≢false, List, [], ◌∷◌, ◌++◌, subst, refl}
use seplogic.Ra.Ura.{Ura}
use mir.Syntax.{Sym}
use mir.Val.{Val, vstruct, vnil, of_list}
use mir.Raw.{raw as bare}
use base.Fraction.{full_share}
use base.Fml.{Lft, Share, fat, flft}
use types.Logic.{Logic}
use types.Match.{live}
use types.Kit.{Item, Goal, Seq, Soaks, Step, step, ‵, ◌$◌, move, drop, fsplit, fjoin, fpick, fpack, feq_i, feq_l, rewrite, use1}
use denote.RattleType.{RattleType, Valss}
use denote.Builtin.{RawPtr}
use denote.RawPtr.{Ptr, ptr_val}
use denote.Steps.{nothing, looks, shuts}
use denote.Copied.{Struct-Copied}
use denote.Memory.{cell_at, part_at, hidden_shr}
use denote.Opens.{Shut}
use denote.Struct.Laws.{RawPtr-copy}
use denote.Struct.Struct.{Shape, Struct, within}
use Rattle.std.proofs.RcSteps.{word, word_ty}
use Rattle.std.specs.Prelude.{Option, None, Some, IsNone}
use Rattle.std.specs.contracts.option.Option as Opt

-- the struct ν at the types Rs
module _ (ν : Sym) (Rs : List RattleType) where
  abbrev one_pointer : Shape
  one_pointer = record { name = ν; args = []; types = Rs; fields = RawPtr ∷ [] }

  abbrev pub Pointer : RattleType
  Pointer = Struct one_pointer

  module _ (p : Ptr) {M : Type 1} {𝓤 : Ura M} {𝓛 : Logic 𝓤} {K : Type 0} {Γ : List (Item 𝓤)}
      {G : Goal 𝓤 𝓛.H} where
    pub pointer_had : K → (vs : List Val) → (vs ≡ word p ∷ [] → Seq K 𝓛 Γ G)
        → Seq K 𝓛 (‵ (Pointer.own_val (p, tt) vs) ∷ Γ) G
    pointer_had t vs k = fpick t (λ vss. fsplit t $ feq_l t (λ whole. fsplit t $
        feq_l t (λ first. drop t $
        k (subst (λ (ps : List Val). vs ≡ vstruct (of_list (ps ++ [])) ∷ []) first whole))))

    pub pointer_made : K → Step K 𝓛 (‵ (Pointer.own_val (p, tt) (word p ∷ [])) ∷ Γ) G Γ G
    pointer_made t = step (λ s.
        nothing t $ feq_i t (List Val) (ptr_val p ∷ []) (ptr_val p ∷ []) refl $ fjoin t $
        feq_i t (List Val) (word p ∷ []) (word p ∷ []) refl $ fjoin t $
        fpack t (Valss (RawPtr ∷ [])) (within one_pointer (p, tt) (word p ∷ [])) (
          ptr_val p ∷ [],
          tt,
        ) $ s)

  module _ (p : Ptr) {M : Type 1} {𝓤 : Ura M} {𝓛 : Logic 𝓤} {K : Type 0} {Γ : List (Item 𝓤)}
      {G : Goal 𝓤 𝓛.H} where
    -- [the pointer; the way back]
    pub pointer_out : K → Soaks G → {κ : Lft} {q : Share} (b o : ℕ)
        → ((q' : Share) → Seq K 𝓛 (‵ (fat q' (word_ty ν) b o (word p)) ∷ Shut 𝓛 κ q (part_at Pointer
        q' (p, tt) b o) ∷ Γ) G)
        → Seq K 𝓛 (‵ (hidden_shr Pointer κ (p, tt) b o) ∷ ‵ (flft κ q) ∷ Γ) G
    pointer_out t z b o k =
        looks t z Pointer (Struct-Copied 𝓛 one_pointer (refl, tt) (RawPtr-copy.copied M 𝓤 𝓛, tt)
        ).opens (p, tt) b o (λ q' vs. move t (3 ∷ []) $ drop t $ move t (1 ∷ []) $
        pointer_had p t vs (λ is.
        rewrite t 0 (λ (us : List Val). ‵ (cell_at q' (word_ty ν ∷ []) us b o)) is refl $
        use1 𝓛 (‵ (fat q' (word_ty ν) b o (word p))) (𝓛.laws.raw_at q' (word_ty ν) b o (word p)) $
        k q'))

    pub pointer_back : K → Soaks G → {κ : Lft} {q : Share} (b o : ℕ) (q' : Share)
        → Step K 𝓛 (‵ (flft κ q) ∷ Γ) G (‵ (fat q' (word_ty ν) b o (word p)) ∷ Shut 𝓛 κ q (part_at
        Pointer q' (p, tt) b o) ∷ Γ) G
    pointer_back t z b o q' = step (λ s.
        use1 𝓛 (‵ (fat q' (bare (word_ty ν)) b o (word p))) (𝓛.laws.at_raw q' (word_ty ν) b o (word
        p)) $
        pointer_made p t $ move t (1 ∷ 0 ∷ []) $
        shuts t z Pointer q' (p, tt) (word p ∷ []) b o $ s)

-- the same pointer, read as another struct
module _ {M : Type 1} {𝓤 : Ura M} {𝓛 : Logic 𝓤} {K : Type 0} {Γ : List (Item 𝓤)} {G : Goal 𝓤 𝓛.H}
  where
    pub renamed : K → (ν μ : Sym) (b o : ℕ) (v : Val)
        → Step K 𝓛 (‵ (fat full_share (word_ty μ) b o v) ∷ Γ) G
        (‵ (fat full_share (word_ty ν) b o v) ∷ Γ) G
    renamed t ν μ b o v = step (λ s.
        use1 𝓛 (‵ (fat full_share (bare (word_ty ν)) b o v))
        (𝓛.laws.at_raw full_share (word_ty ν) b o v) $
        use1 𝓛 (‵ (fat full_share (word_ty μ) b o v)) (𝓛.laws.raw_at full_share (word_ty μ) b o v) $
        s)

-- an empty `Option`, as the machine sees it
module _ (X : RattleType) {M : Type 1} {𝓤 : Ura M} {𝓛 : Logic 𝓤} {K : Type 0} {Γ : List (Item 𝓤)}
    {G : Goal 𝓤 𝓛.H} where
  pub none_out : K → (m : Option X.Denot) (vs : List Val) → IsNone m
      → (vs ≡ live 0 vnil ∷ [] → Seq K 𝓛 Γ G) → Seq K 𝓛 (‵ ((Opt.the_row X).own_val m vs) ∷ Γ) G
  none_out t None vs empty k = fpick t (λ us. fsplit t $ feq_l t (λ whole. fpick t (λ _. fsplit t $
      feq_l t (λ first. drop t $ k (subst (λ (ws : List Val). vs ≡ live 0 (of_list ws) ∷ []) first
      whole)))))
  none_out t (Some x) vs empty k = absurd (true≢false empty)
