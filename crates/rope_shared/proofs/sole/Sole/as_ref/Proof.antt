-- `as_ref` lends the value.
use Rattle.std.proofs.Common.{◌≡◌, ◌+◌, List, [], ◌∷◌, refl, sym}
use mir.Syntax.{named, a_type}
use mir.MapTy.{inst_fn}
use mir.Val.{Val, vptr}
use base.Logic.{SProp, emp, id⊢}
use base.Fml.{ftrue, fhide, flft}
use types.Kit.{‵, raw, ◌⊛◌, at_ret, ◌$◌, ◌∵◌, !, qed, by, move, keep, drop, split, join, fsplit, fjoin, fpick, feq_i, use0, use1, rewrite}
use types.Run.{stop, fld, hop, addr, of_opd, first, blocks, exec, returns, enter}
use types.ByLocal.{alloc_all, pass_all, free_all, look_at, get, through, sets, sets_last, env}
use types.Part.{sub, whole, look_in}
use contract.Monad.{fact, fact_i}
use contract.Running.{tables}
use denote.Builtin.{RefOf}
use denote.Exit.{yes}
use denote.Memory.{hidden_shr}
use denote.Opens.{unhide, hide}
use denote.RattleType.{RattleType, owns}
use denote.Ref.{shr_vals, shr_Tells}
use denote.Signature.{types_at, plain}
use denote.Param.{param, layouts}
use denote.RawPtr.{Ptr, block_of, count_of, at_block, ◌+ₚ◌}
use denote.Steps.{nothing}
use denote.Struct.Lending.{lent_at}
use denote.Triple.Walked.{Stays, stay_dropped, walk_of, Goes-dropped}
use Rattle.std.proofs.raw_atomic.Walks.{proved, leaves}
use Rattle.std.proofs.alloc.Shapes.{after}
use Rattle.std.proofs.RcSteps.{word, word_ty}
use Rattle.std.specs.Arc.Ownership.{value_offset}
use Rattle.rope_shared.specs.Owning.{sole_lent}
use Rattle.rope_shared.proofs.Pointers.{Pointer, pointer_out, pointer_back}
use Rattle.rope_shared.proofs.Words.{Z, Soles, sole_name}
use Rattle.rope_shared.specs.contracts.sole.Sole.as_ref.{ended, clauses}
use Rattle.rope_shared.specs.contracts.sole.Sole.as_ref.Key.{name as #self}
use Rattle.rope_shared.proofs.sole.Sole.as_ref.Statement.{statement}
use Rattle.rope_shared.proofs.sole.Sole.as_ref.Code as code

pub as_ref_spec : {M : Type 1} → statement M
as_ref_spec 𝓤 𝓛 𝓜 𝓡 wired T L =
    let 𝓣 = tables 𝓤 𝓛.H 𝓜 𝓡 𝓡.env in let R : RattleType = param 0 T in let En = ended T in
    let c = clauses T 𝓛 𝓜.mem 𝓡.returns in let at_type = layouts (a_type ∷ []) (T, tt) in
    let fn = inst_fn at_type code.function in let Me = Soles R in
    let self = RefOf {n = 2} (0 ∷ []) tt (plain (λ _. Me)) (λ _. tt) in
    let hs : Stays En.signature.params En.kept = (stay_dropped self yes, tt) in
    proved 𝓛 En hs c 𝓜 𝓡 (Goes-dropped 𝓛 2 self yes (λ κs x f. refl), tt)
    (#self at_type) fn (code.unfolded 𝓤 𝓛.H 𝓜 𝓡 wired (T, tt))
    (λ κs. (shr_vals, tt)) (λ κs. (shr_Tells (named 0) κs.0 Me, tt)) (λ κs qs bounds a g are.
    let κ = κs.0 in let q = qs.0 in let b = a.0.ref_ptr.0 in let o = a.0.ref_ptr.1 in
    let d = a.0.now in let p = d.ptr in let x = d.value in
    let y : (walk_of 𝓛 En hs c).Ghost = ((κs, qs, bounds, a, (vptr b o ∷ [], tt)), g) in
    let Post : Val → SProp 𝓤 = (walk_of 𝓛 En hs c).post y in
    let b' = block_of p in let o' = count_of p + value_offset Z R in
    let ν = sole_name R in let Rs = R ∷ [] in
    qed 𝓛 (((‵ (flft κ q) ⊛ (‵ (flft κs.1.0 qs.1.0) ⊛ ‵ ftrue)) ⊛ ‵ (owns (types_at
    En.signature.params κs) a y.0.4)) ∷ raw ((c κs a).requires g) ∷ []) ∵
    split ! $ split ! $ move ! (2 ∷ []) $ fsplit ! $ fsplit ! $ keep ! (1 ∷ 3 ∷ 4 ∷ []) $
    use1 𝓛 (‵ (hidden_shr (Pointer ν Rs) κ (p, tt) b o) ⊛ ‵ (fhide (sole_lent R p x κ))) (id⊢ 𝓤 _) $
    split ! $ move ! (1 ∷ []) $ unhide ! $ fsplit ! $ fpick ! (λ inb. drop ! $
    rewrite ! 0 (λ (r : Ptr). ‵ (lent_at R (r +ₚ value_offset Z R) x κ)) (at_block p inb) refl $
    fsplit ! $ drop ! $ hide ! $
    -- [the value, lent; the pointer; the token; the other tokens]
    enter ! 𝓣.C 𝓣.Λ fn (vptr b o ∷ []) Post $ alloc_all ! (λ l. pass_all ! refl ((tt, tt), tt) $
    let Ev = env fn.locals l in
    move ! (1 ∷ 2 ∷ []) $ pointer_out ν Rs p ! tt b o (λ q'.
    rewrite ! 0 (λ (r : Ptr). ‵ (base.Fml.fat q' (word_ty ν) b o (word r))) (at_block p inb) refl $
    first ! $ blocks ! $ sets_last ! (addr ! (through ! refl (fld ! refl (hop ! (look_in ! 0 (sub !
    0 refl (whole !))) (fld ! refl (stop !)))))) refl (tt, tt) $
    exec ! 𝓣.C 𝓣.Λ Ev (after 1 fn.body) (at_ret Ev Post) $
    sets ! (of_opd ! (get ! refl)) refl (tt, tt) $
    rewrite ! 0 (λ (r : Ptr). ‵ (base.Fml.fat q' (word_ty ν) b o (word r))) (sym (at_block p inb))
    refl $ pointer_back ν Rs p ! tt b o q' $
    move ! (0 ∷ 2 ∷ []) $ join ! $ use0 𝓛 (raw (fact 𝓤 (x ≡ x))) (fact_i 𝓤 (x ≡ x) (emp 𝓤) refl) $
    move ! (2 ∷ []) $ feq_i ! (List Val) (vptr b' o' ∷ []) (vptr b' o' ∷ []) refl $ fjoin ! $
    nothing ! $ nothing ! $ fjoin ! $
    returns ! (look_at ! 0 refl) $ free_all ! refl $ keep ! (3 ∷ 0 ∷ 1 ∷ 2 ∷ []) $
    by ! (leaves 𝓛 En hs c y (vptr b' o') (record { ref_ptr = (b', o'); now = x }) (tt, tt) (
      tt,
      tt,
    ))))))
