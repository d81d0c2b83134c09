-- A pointer to a value in a box, or null: what a handle owns, whatever it holds. Assumes `Logic`.
use Rattle.std.proofs.Common.{◌≡◌, ℕ, List, [], ◌∷◌, ◌++◌, subst, refl, sym}
use seplogic.Ra.Ura.{Ura}
use mir.Syntax.{Sym, Ty, Fn, Dict, impl, ty_ptr, ty_struct, tnil, tcons, dnil, local, value_local, seq, assign, place, rv_opd, copy, field, aggregate, return}
use mir.Raw.{raw as bare}
use mir.Val.{Val, vstruct, vcons, vnil, of_list, has_ty}
use base.Fml.{Fml, fsep}
use base.Logic.{SProp, ent, id⊢, never, fst∗, snd∗, via, guard_i}
use types.Logic.{Logic, sem}
use types.Kit.{Item, Goal, Seq, Step, step, prop, suffices, ‵, given, ◌$◌, use1, learn, move, drop, fsplit, fjoin, fpick, fpack, feq_i, feq_l}
use prog.Wp.{WpFn, Calls, Loops}
use types.Run.{stop, fld, of_opd, no_more, and_then, returns, enter}
use types.ByLocal.{alloc_all, pass_all, free_all, look_at, get, get_in, sets}
use types.Part.{agg, sub, whole}
use contract.Monad.{fact_use}
use denote.RattleType.{RattleType, Valss}
use denote.Builtin.{RawPtr}
use denote.Steps.{nothing}
use denote.Struct.Struct.{Shape, Struct, layout as laid, within}
use denote.Memory.{lone}
use denote.RawPtr.{Ptr, block_ptr, null_ptr, ptr_val, in_a_block, Testable}
use denote.Exit.{no}
use denote.Param.{layout, arg}
use denote.Param.Laws.{arg_laws}
use Rattle.std.specs.Prelude.{Option, None, Some}
use Rattle.std.specs.Box.Ownership.{box_owns}
use Rattle.std.specs.Ptr.{points_to}
use Rattle.std.specs.contracts.alloc.Global as heap
use Rattle.std.proofs.alloc.Global.TheLaws as heap_laws
use Rattle.std.specs.contracts.impls.GlobalAllocator.TheImpl.{ghosts, dict}
use Rattle.std.proofs.alloc.Calls.{Al, handle_tells}
use Rattle.std.proofs.cell.Inside.{Good}
use Rattle.std.proofs.GlobalToken.{dealloc_token-Testable}
use Rattle.std.proofs.ResultValues.{and_tt}
use Rattle.ropey_c.specs.Handles.{held_at}

abbrev pub Z : RattleType
Z = heap.the_row

-- the allocator as what a call passes for a type, and its drop, which needs none
abbrev pub Allocators : RattleType
Allocators = arg (bare (layout Z)) no Z

abbrev pub no_drop : Dict
no_drop = impl ("ropey_c::Destruct++none::drop" ∷ []) (tcons (layout Allocators) tnil) dnil

abbrev pub al : Al
al = record {
  row = Allocators;
  laws = arg_laws (bare (layout Z)) no Z heap_laws.the_row_laws refl;
  g = ghosts;
  d = dict;
  drops = no_drop;
}

-- the machine value of two fields
abbrev pub pair : Val → Val → Val
pair p h = vstruct (vcons p (vcons h vnil))

-- the two fields of a handle, whatever its name
abbrev two : Shape
two = record { name = []; args = []; types = []; fields = RawPtr ∷ Z ∷ [] }

pub handle_good : (p : Ptr) (h : Val) → Good (layout Z) h → Good (laid two) (pair (ptr_val p) h)
handle_good (block_ptr b o) h fits = (and_tt (has_ty (layout Z) h) fits.0, (tt, (fits.1, tt)))
handle_good null_ptr h fits =
    (and_tt (has_ty (layout Z) h) fits.0, (record { fits = lib.Dec.lit< tt }, (fits.1, tt)))

-- what they own, with what the pointer leads to
abbrev pub owner : Ptr → Z.Denot → Fml → List Val → Fml
owner p a target vs = fsep ((Struct two).own_val (p, (a, tt)) vs) target

module _ {M : Type 1} {𝓤 : Ura M} {𝓛 : Logic 𝓤} {K : Type 0} {Γ : List (Item 𝓤)} {G : Goal 𝓤 𝓛.H}
  where
    pub owner_out : K → (p : Ptr) (a : Z.Denot) (target : Fml) (vs : List Val)
        → ((h : Val) → vs ≡ pair (ptr_val p) h ∷ [] → Good (layout Z) h
        → Seq K 𝓛 (‵ target ∷ ‵ (Z.own_val a (h ∷ [])) ∷ Γ) G)
        → Seq K 𝓛 (‵ (owner p a target vs) ∷ Γ) G
    owner_out t p a target vs k =
        let Whole : List Val → List Val → Type 0 = λ ps hs.
        vs ≡ vstruct (of_list (ps ++ (hs ++ []))) ∷ [] in
        fsplit t $ fpick t (λ vss. fsplit t $ feq_l t (λ ev. fsplit t $ feq_l t (λ ep. fsplit t $
        handle_tells al t a vss.1.0 (λ h ea fits. move t (1 ∷ []) $ drop t $ move t (1 ∷ []) $
        k h (subst (Whole (ptr_val p ∷ [])) ea (subst (λ (ps : List Val). Whole ps vss.1.0) ep
        ev)) fits))))

    pub owner_in : K → (p : Ptr) (h : Val) (a : Z.Denot) (target : Fml)
        → Step K 𝓛 (‵ (owner p a target (pair (ptr_val p) h ∷ [])) ∷ Γ) G
        (‵ target ∷ ‵ (Z.own_val a (h ∷ [])) ∷ Γ) G
    owner_in t p h a target = step (λ s. let v : Val = pair (ptr_val p) h in
        nothing t $ move t (2 ∷ 0 ∷ []) $ fjoin t $ feq_i t (List Val) (ptr_val p ∷ [])
        (ptr_val p ∷ []) refl $
        fjoin t $ feq_i t (List Val) (v ∷ []) (v ∷ []) refl $ fjoin t $
        fpack t (Valss (RawPtr ∷ Z ∷ [])) (within two (p, (a, tt)) (v ∷ []))
        (ptr_val p ∷ [], (h ∷ [], tt)) $ fjoin t $ s)

pub pointer_good : (p : Ptr) → Good ty_ptr (ptr_val p)
pointer_good (block_ptr b o) = (tt, tt)
pointer_good null_ptr = (tt, record { fits = lib.Dec.lit< tt })

-- a struct of these two fields, by its name
abbrev named : Sym → Ty
named name = ty_struct name (tcons ty_ptr (tcons (layout Z) tnil))

-- the code that moves the two fields of a struct into another
abbrev pub mover : Sym → Sym → Fn
mover from into = record {
  lifetimes = 0;
  outlives = [];
  ty_params = [];
  givens = 0;
  params = 1;
  locals = local (named into) value_local ∷ local (named from) value_local
      ∷ local ty_ptr value_local ∷ local (layout Z) value_local ∷ [];
  body = seq (assign (place 2 []) (rv_opd (copy (place 1 (field 0 ∷ [])))))
      (seq (assign (place 3 []) (rv_opd (copy (place 1 (field 1 ∷ [])))))
      (seq (assign (place 0 []) (aggregate (copy (place 2 []) ∷ copy (place 3 []) ∷ []))) return));
}

module _ {M : Type 1} {𝓤 : Ura M} {𝓛 : Logic 𝓤} {K : Type 0} where
  -- what the pointer leads to moves with it
  pub moves : K → (from into : Sym) (C : Calls 𝓤 𝓛.H) (Λ : Loops 𝓤 𝓛.H) (p : Ptr)
      (a : Z.Denot) (target : Fml) (vs : List Val) (Post : Val → SProp 𝓤)
      → ((h : Val) → Seq K 𝓛 (‵ (owner p a target (pair (ptr_val p) h ∷ [])) ∷ [])
      (prop (Post (pair (ptr_val p) h))))
      → Seq K 𝓛 (‵ (owner p a target vs) ∷ [])
      (prop (WpFn 𝓤 𝓛.H C Λ (mover from into) (vs ++ []) Post))
  moves t from into C Λ p a target vs Post k =
      let fn = mover from into in
      let Run : List Val → SProp 𝓤 = λ us. WpFn 𝓤 𝓛.H C Λ fn us Post in
      owner_out t p a target vs (λ h ws fits. let w : Val = pair (ptr_val p) h in
      suffices t (Run (w ∷ [])) (subst (λ (us : List Val). ent 𝓤 (Run (w ∷ [])) (Run us))
      (sym (λ i. ws i ++ [])) (id⊢ 𝓤 (Run (w ∷ [])))) $
      enter t C Λ fn (w ∷ []) Post $ alloc_all t (λ l.
      pass_all t refl (handle_good p h fits, tt) $
      sets t (of_opd t (get_in t (fld t refl (stop t)) (sub t 0 refl (whole t)))) refl
      (pointer_good p) $
      sets t (of_opd t (get_in t (fld t refl (stop t)) (sub t 1 refl (whole t)))) refl fits $
      sets t (agg t (and_then t (get t refl) (and_then t (get t refl) (no_more t)))) refl
      (handle_good p h fits) $ owner_in t p h a target $
      returns t (look_at t 0 refl) $ free_all t refl $ k h))

module _ (R : RattleType) where
  -- what a box at a pointer owns
  abbrev pub boxed_at : {M : Type 1} {𝓤 : Ura M} → Z.Denot → Ptr → R.Denot → Item 𝓤
  boxed_at a p x = ‵ (box_owns (ghosts.dealloc_token a) R p x)

  module _ {M : Type 1} {𝓤 : Ura M} {𝓛 : Logic 𝓤} {K : Type 0} {Γ : List (Item 𝓤)}
      {G : Goal 𝓤 𝓛.H} where
    -- a pointer that may be freed may be compared with null
    tested : (a : Z.Denot) (p : Ptr) (x : R.Denot)
        → (Testable p → Seq K 𝓛 (boxed_at a p x ∷ Γ) G) → K → Seq K 𝓛 (boxed_at a p x ∷ Γ) G
    tested a p x k t =
        let B = sem 𝓛 (box_owns (ghosts.dealloc_token a) R p x) in
        let place = sem 𝓛 (points_to R p x) in
        let token = sem 𝓛 (ghosts.dealloc_token a (bare (lone R.mir)) p) in
        use1 𝓛 (given (Testable p) (boxed_at a p x))
        (fact_use 𝓤 (Testable p)
        (via 𝓤 _ (snd∗ 𝓤 place token) (dealloc_token-Testable 𝓛 a (bare (lone R.mir)) p))
        (guard_i 𝓤 (Testable p) B)) $ learn t k

    -- null and nothing, or a block and a value
    pub either : K → (a : Z.Denot) (p : Ptr) (o : Option R.Denot)
        → (p ≡ null_ptr → o ≡ None → Seq K 𝓛 Γ G)
        → ((b n : ℕ) (x : R.Denot) → p ≡ block_ptr b n → o ≡ Some x → Testable (block_ptr b n)
        → Seq K 𝓛 (boxed_at a (block_ptr b n) x ∷ Γ) G)
        → Seq K 𝓛 (‵ (held_at R a p o) ∷ Γ) G
    either t a p None none one = feq_l t (λ e. none e refl)
    either t a p (Some x) none one =
        let place = sem 𝓛 (points_to R p x) in
        let token = sem 𝓛 (ghosts.dealloc_token a (bare (lone R.mir)) null_ptr) in
        in_a_block t p (λ q. box_owns (ghosts.dealloc_token a) R q x) (fst∗ 𝓤 (never 𝓤) token)
        (λ b n e. tested a (block_ptr b n) x (λ ok. one b n x e refl ok) t)
