-- A box from the heap, and the parts of the block in it. Assumes `Logic`.
use Rattle.std.proofs.Common.{◌≡◌, ℕ, List, [], ◌∷◌, ◌++◌, ◌∙◌, refl, subst}
use seplogic.Ra.Ura.{Ura}
use lib.Dec.{T}
use mir.Syntax.{Ty, Sym, impl, dnil, ty_ptr, ty_struct, tcons, tnil}
use mir.Val.{Val, vunit, vstruct, vcons, vnil, of_list, has_ty, WT}
use mir.Raw.{raw as bare}
use base.Fraction.{full_share}
use base.Logic.{ent, emp, never, fst∗}
use base.Fml.{ftrue, fat}
use types.Logic.{Logic, sem}
use types.Kit.{Item, Goal, Seq, Step, step, ‵, ◌$◌, drop, use0, use1, fsplit, fjoin, fpick, fpack, feq_i, feq_l}
use denote.RattleType.{RattleType, Valss}
use denote.Laws.{Is, shows}
use denote.Memory.{lone}
use denote.Param.{param}
use denote.Param.Laws.{Laws}
use denote.Builtin.{RawPtr}
use denote.RawPtr.{Ptr, block_ptr, null_ptr, ptr_val, in_a_block}
use denote.Struct.Owning.{shape}
use Rattle.std.proofs.RcSteps.{Ptr-Good}
use Rattle.std.specs.contracts.boxed.Box as box
use denote.Shadow.{makes_shadow}
use denote.Steps.{nothing, peeks}
use denote.Struct.Struct.{within, as_fields}
use Rattle.std.proofs.alloc.Calls.{handle_tells}
use Rattle.std.proofs.Handle.{heap_val, heap_Tells}
use Rattle.std.specs.Box.Ownership.{box_owns}
use Rattle.std.specs.contracts.impls.GlobalAllocator.TheImpl.{ghosts}
use Rattle.rope_shared.proofs.Words.{Z}

-- the allocator is one value, and owns nothing
module _ {M : Type 1} {𝓤 : Ura M} (𝓛 : Logic 𝓤) (h : Z.Denot) where
  pub handle_made : ent 𝓤 (emp 𝓤) (sem 𝓛 (Z.own_val h (heap_val ∷ [])))
  handle_made = makes_shadow 𝓛 (Z.own_val h (heap_val ∷ []))
      (λ vss. (tt, ((λ uss. (tt, (tt, tt))), tt)))
      ((vstruct (vcons vunit vnil) ∷ [], tt), (refl, (((vunit ∷ [], tt), (refl, (refl, tt))), tt)))

module _ {M : Type 1} {𝓤 : Ura M} {𝓛 : Logic 𝓤} {K : Type 0} {Γ : List (Item 𝓤)} {G : Goal 𝓤 𝓛.H}
  where
    pub handle_is : K → (h : Z.Denot) (vs : List Val) → (vs ≡ heap_val ∷ [] → Seq K 𝓛 Γ G)
        → Seq K 𝓛 (‵ (Z.own_val h vs) ∷ Γ) G
    handle_is t h vs k = peeks t Z (Is Z) (shows 𝓛 Z) h vs (λ is. drop t $ k (heap_Tells h vs is))

abbrev pub Good : RattleType → Val → Type 0
Good X v = T (has_ty (lone (param 0 X).mir) v) × WT v

module _ (X : RattleType) (L : Laws X) {M : Type 1} {𝓤 : Ura M} {𝓛 : Logic 𝓤} {K : Type 0} {Γ : List
    (Item 𝓤)} {G : Goal 𝓤 𝓛.H} where
  -- what is owned of a value is one machine value, of its type
  pub value_is : K → (x : X.Denot) (vs : List Val) → ((v : Val) → vs ≡ v ∷ [] → Good X v
      → Seq K 𝓛 (‵ ((param 0 X).own_val x (v ∷ [])) ∷ Γ) G)
      → Seq K 𝓛 (‵ ((param 0 X).own_val x vs) ∷ Γ) G
  value_is t x vs k = handle_tells (record {
    row = X;
    laws = L;
    g = record { dealloc_token = λ a σ p. ftrue };
    d = impl [] tnil dnil;
    drops = impl [] tnil dnil;
  }) t x vs k

-- a box of a block: the machine value of its two fields
abbrev pub pair : Ptr → Val
pair p = vstruct (vcons (ptr_val p) (vcons heap_val vnil))

abbrev pub pair_ty : Sym → Ty
pair_ty μ = ty_struct μ (tcons ty_ptr (tcons (lone Z.mir) tnil))

pub heap_Good : T (has_ty (lone Z.mir) heap_val) × WT heap_val
heap_Good = (tt, ((tt, tt), tt))

pub pair_Good : (μ : Sym) (p : Ptr) → T (has_ty (pair_ty μ) (pair p)) × WT (pair p)
pair_Good μ p = as_fields (ty_ptr ∷ lone Z.mir ∷ []) (ptr_val p ∷ heap_val ∷ []) (
  Ptr-Good p,
  (heap_Good, tt),
)

abbrev pub Boxes : RattleType → RattleType
Boxes I = box.the_row I Z ghosts

-- a box of a value of the row I
module _ (I : RattleType) {M : Type 1} {𝓤 : Ura M} {𝓛 : Logic 𝓤} {K : Type 0} {Γ : List (Item 𝓤)} {G
    : Goal 𝓤 𝓛.H} where
  pub box_out : K → (d : (Boxes I).Denot) (vs : List Val)
      → ((b o : ℕ) → vs ≡ pair (block_ptr b o) ∷ []
      → Seq K 𝓛 (‵ (box_owns (ghosts.dealloc_token d.alloc) I (block_ptr b o) d.value) ∷ Γ)
      G)
      → Seq K 𝓛 (‵ ((Boxes I).own_val d vs) ∷ Γ) G
  box_out t d vs k =
      fsplit t $ fpick t (λ vss. fsplit t $ feq_l t (λ whole. fsplit t $
      feq_l t (λ first. fsplit t $
      handle_is t d.alloc vss.1.0 (λ second. drop t $
      in_a_block t d.ptr (λ p. box_owns (ghosts.dealloc_token d.alloc) I p d.value)
      (fst∗ 𝓤 (never 𝓤) (sem 𝓛 (ghosts.dealloc_token d.alloc (bare (lone I.mir)) null_ptr)))
      (λ b o is.
      k b o (subst (λ (p : Ptr). vs ≡ pair p ∷ []) is
      (whole ∙ (λ i. vstruct (of_list (first i ++ (second i ++ []))) ∷ []))))))))

  pub box_in : K → (b o : ℕ) (h : Z.Denot) (x : I.Denot)
      → Step K 𝓛 (‵ ((Boxes I).own_val (record { ptr = block_ptr b o; alloc = h; value = x }) (pair
      (block_ptr b o) ∷ [])) ∷ Γ) G
      (‵ (box_owns (ghosts.dealloc_token h) I (block_ptr b o) x) ∷ Γ) G
  box_in t b o h x = step (λ s. let p : Ptr = block_ptr b o in
      nothing t $ use0 𝓛 (‵ (Z.own_val h (heap_val ∷ []))) (handle_made 𝓛 h) $ fjoin t $
      feq_i t (List Val) (ptr_val p ∷ []) (ptr_val p ∷ []) refl $ fjoin t $
      feq_i t (List Val) (pair p ∷ []) (pair p ∷ []) refl $ fjoin t $
      fpack t (Valss (RawPtr ∷ Z ∷ [])) (within (shape (box.the_type I Z ghosts)) (
        p,
        (h, tt),
      ) (pair p ∷ []))
      (ptr_val p ∷ [], (heap_val ∷ [], tt)) $ fjoin t $ s)

-- a struct of a pointer and the allocator, read as another one
module _ {M : Type 1} {𝓤 : Ura M} {𝓛 : Logic 𝓤} {K : Type 0} {Γ : List (Item 𝓤)} {G : Goal 𝓤 𝓛.H}
  where
    pub pair_renamed : K → (ν μ : Sym) (b o : ℕ) (v : Val)
        → Step K 𝓛 (‵ (fat full_share (pair_ty μ) b o v) ∷ Γ) G
        (‵ (fat full_share (pair_ty ν) b o v) ∷ Γ) G
    pair_renamed t ν μ b o v = step (λ s.
        use1 𝓛 (‵ (fat full_share (bare (pair_ty ν)) b o v))
        (𝓛.laws.at_raw full_share (pair_ty ν) b o v) $
        use1 𝓛 (‵ (fat full_share (pair_ty μ) b o v)) (𝓛.laws.raw_at full_share (pair_ty μ) b o v) $
        s)
