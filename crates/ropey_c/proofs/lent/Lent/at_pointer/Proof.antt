-- `at_pointer` tests the pointer of a lent handle, and reads through it.
use Rattle.ropey_c.proofs.WalkSteps.{◌≡◌, [], ◌∷◌, refl, List, named, Val, vptr, vcons, vnil, emp, ftrue, flft, ‵, raw, ◌⊛◌, ◌$◌, ◌∵◌, !, qed, by, move, keep, drop, split, fsplit, fjoin, use0, feq_i, join, use1, live, fact, fact_i, tables, yes, hide, unhide, RattleType, ShrRef, shr_vals, shr_Tells, plain, type_at, nothing, Stays, walk_of, stay_none_ref, Goes-none_ref, leaves, proved, Some-of, none_of, None, Some}
use denote.Memory.{part_of}
use Rattle.ropey_c.proofs.Lending.{reads}
use Rattle.ropey.specs.contracts.Rope as value
use Rattle.ropey.proofs.rope.Rope.TheLaws as value_laws
use Rattle.ropey_c.specs.contracts.lent.Lent as lent
use Rattle.ropey_c.specs.contracts.lent.Lent.at_pointer.{ended, clauses}
use Rattle.ropey_c.specs.contracts.lent.Lent.at_pointer.Key.{name as #self}
use Rattle.ropey_c.proofs.lent.Lent.at_pointer.Statement.{statement}
use Rattle.ropey_c.proofs.lent.Lent.at_pointer.Code as code

abbrev R : RattleType
R = value.the_row

abbrev Lent : RattleType
Lent = lent.the_row

abbrev stayed : Stays ended.signature.params ended.kept
stayed = (stay_none_ref (0 ∷ []) tt (plain (λ _. Lent)) yes, tt)

pub at_pointer_spec : {M : Type 1} → statement M
unfolding part_of
at_pointer_spec 𝓤 𝓛 𝓜 𝓡 wired =
    let 𝓣 = tables 𝓤 𝓛.H 𝓜 𝓡 𝓡.env in let c = clauses 𝓛 𝓜.mem 𝓡.returns in let fn = code.function in
    let W = walk_of 𝓛 ended stayed c in
    proved 𝓛 ended stayed c 𝓜 𝓡 (
      Goes-none_ref 𝓛 1 (0 ∷ []) tt (plain (λ _. Lent)) yes,
      tt,
    ) #self fn (code.unfolded 𝓤 𝓛.H 𝓜 𝓡 wired)
    (λ κs. (shr_vals, tt)) (λ κs. (shr_Tells (named 0) κs.0 Lent, tt)) (λ κs qs bounds a g are.
    let κ = κs.0 in let q = qs.0 in let d = a.0.now in let rb = a.0.ref_ptr.0 in let ro =
    a.0.ref_ptr.1 in
    let z : W.Ghost = ((κs, qs, bounds, a, (shr_vals a.0, tt)), tt) in let w = vptr rb ro in
    let Out : RattleType = type_at ended.signature.result κs in let Ref : RattleType =
    ShrRef (named 0) κ R in
    qed 𝓛 (((‵ (flft κ q) ⊛ ‵ ftrue) ⊛ ‵ ((ShrRef (named 0) κ Lent).own_val a.0 (shr_vals a.0)) ⊛
    ‵ ftrue) ∷ raw ((c κs a).requires g) ∷ []) ∵
    split ! $ split ! $ move ! (2 ∷ []) $ split ! $ keep ! (0 ∷ 2 ∷ []) $
    fsplit ! $ drop ! $ unhide ! $ move ! (1 ∷ 0 ∷ []) $
    reads R value_laws.the_row_laws.shr_laws ! _ lent.the_type.name _ _ _ 𝓣.C 𝓣.Λ d.ptr d.rope rb ro
    κ q (W.post z)
    (λ e. move ! (1 ∷ []) $ hide ! $ feq_i ! (List Val) (w ∷ []) (w ∷ []) refl $ fjoin ! $
    nothing ! $ move ! (1 ∷ 0 ∷ []) $ fjoin ! $ nothing ! $ move ! (2 ∷ 0 ∷ []) $ join ! $
    use0 𝓛 (‵ (Out.own_val None (live 0 vnil ∷ []))) (none_of 𝓛 (ShrRef (named 0) κ R)) $
    use0 𝓛 (raw (fact 𝓤 (d.rope ≡ None))) (fact_i 𝓤 (d.rope ≡ None) (emp 𝓤) e) $
    keep ! (2 ∷ 3 ∷ 1 ∷ 0 ∷ []) $
    by ! (leaves 𝓛 ended stayed c z (live 0 vnil) None (tt, tt) (tt, tt)))
    (λ b o x e. let u = vptr b o in let v : Val = live 1 (vcons u vnil) in
    let r : Ref.Denot = record { ref_ptr = (b, o); now = x } in
    move ! (2 ∷ []) $ hide ! $ feq_i ! (List Val) (w ∷ []) (w ∷ []) refl $ fjoin ! $
    nothing ! $ move ! (1 ∷ 0 ∷ []) $ fjoin ! $ nothing ! $ move ! (3 ∷ 0 ∷ []) $ join ! $
    move ! (2 ∷ []) $ feq_i ! (List Val) (u ∷ []) (u ∷ []) refl $ fjoin ! $
    use1 𝓛 (‵ (Out.own_val (Some r) (v ∷ []))) (Some-of 𝓛 Ref r u) $
    use0 𝓛 (raw (fact 𝓤 (d.rope ≡ Some x))) (fact_i 𝓤 (d.rope ≡ Some x) (emp 𝓤) e) $
    keep ! (2 ∷ 3 ∷ 1 ∷ 0 ∷ []) $
    by ! (leaves 𝓛 ended stayed c z v (Some r) (tt, tt) (tt, tt))))
