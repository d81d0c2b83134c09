-- `into_box` tests the pointer: at null there are no changes, and a block goes back into a box.
use Rattle.ropey_c.proofs.WalkSteps.{◌≡◌, [], ◌∷◌, refl, List, ◌++◌, sym, subst, ap, ◌∙◌, a_type, inst_fn, Val, vptr, vcons, vnil, full_share, SProp, emp, ent, id⊢, ftrue, flft, WpFn, ‵, raw, ◌⊛◌, ◌$◌, ◌∵◌, !, qed, by, move, keep, drop, split, fsplit, fjoin, use0, suffices, feq_i, some, later, split3, join, pick, await, rewrite, use1, lit, no_more, and_then, returns, enter, stop, fld, of_opd, alloc_all, pass_all, free_all, look_at, get, sets, get_in, agg, sub, whole, live, ◌⊑◌, ⊑_refl, fact, fact_i, tables, no, param, layouts, layout, glues, RattleType, owns, ptr_val, Ptr, null_ptr, block_ptr, types_at, plain, type_at, nothing, only, heard, Lasts, lasts, triple_of, framed, Stays, stay_dropped, walk_of, Goes-dropped, proved_at, leaves, Some-of, none_of, Bx, box_typed, box_out, box_in, None, Some}
use Rattle.std.proofs.Common.{lit<}
use types.Kit.{at_ret}
use types.Run.{bin, first, blocks, branches, skips, exec, returns_within}
use types.ByLocal.{lands_last, env}
use denote.RawPtr.{tests_null}
use denote.Triple.Call.{calls_at_last}
use Rattle.std.proofs.alloc.Shapes.{after}
use Rattle.std.proofs.cell.Inside.{Good}
use Rattle.std.proofs.BoxSteps.Form.{B}
use Rattle.std.proofs.ResultValues.{and_tt}
use Rattle.std.specs.contracts.impls.GlobalAllocator.TheImpl.{ghosts, dict}
use Rattle.std.proofs.impls.GlobalAllocator.TheImpl.Met.{passed}
use Rattle.std.specs.contracts.boxed.Box as box
use Rattle.std.specs.contracts.boxed.Box.from_raw as callee
use Rattle.std.proofs.boxed.Box.from_raw.Met.{met}
use Rattle.ropey_c.specs.Handles.{held_at}
use Rattle.ropey_c.specs.contracts.held.Held as held
use Rattle.ropey_c.proofs.BoxOrNull.{Z, Allocators, al, no_drop, pair, handle_good, owner_out, either}
use Rattle.ropey_c.specs.contracts.held.Held.into_box.{ended, clauses}
use Rattle.ropey_c.specs.contracts.held.Held.into_box.Key.{name as #self}
use Rattle.ropey_c.proofs.held.Held.into_box.Statement.{statement}
use Rattle.ropey_c.proofs.held.Held.into_box.Code as code

pub into_box_spec : {M : Type 1} → statement M
unfolding Rattle.ropey_c.proofs.Destruct++none.drop.Code.code
into_box_spec {M} 𝓤 𝓛 𝓜 𝓡 wired T L =
    let 𝓣 = tables 𝓤 𝓛.H 𝓜 𝓡 𝓡.env in let En = ended T in let c = clauses T 𝓛 𝓜.mem 𝓡.returns in
    let R : RattleType = param 0 T in let E : Bx = record { row = T; laws = L; al = al } in
    let Boxed : RattleType = box.the_row R Z ghosts in let Handle : RattleType = held.the_row R in
    let inst = layouts (a_type ∷ []) (T, tt) in let fn = inst_fn inst code.function in
    let ends = callee.ended T Allocators ghosts dict no_drop in
    let k = triple_of 𝓛 (callee.signature T Allocators ghosts dict no_drop)
    (callee.spec T Allocators ghosts dict no_drop 𝓛 𝓜.mem 𝓡.returns) in
    let allocator = passed 𝓡.env (code.calls-std::impls::GlobalAllocator::allocate 𝓡.env wired)
    (code.calls-std::impls::GlobalAllocator::deallocate 𝓡.env wired)
    (code.calls-std::impls::GlobalAllocator::grow 𝓡.env wired)
    (code.calls-std::impls::GlobalAllocator::shrink 𝓡.env wired) M 𝓤 𝓛 𝓜 𝓡 in
    let glued = glues "ropey_c::Destruct++none::drop" 𝓡.env
    (code.calls-ropey_c::Destruct++none::drop 𝓡.env wired) Allocators al.laws M 𝓤 𝓛 𝓜 𝓡 in
    let known = met 𝓤 𝓛 𝓜 𝓡 (code.calls-std::boxed::Box::from_raw 𝓡.env wired) T Allocators
    L al.laws ghosts dict no_drop allocator glued in
    let hs : Stays En.signature.params En.kept = (stay_dropped (plain (λ _. Handle)) no, tt) in
    proved_at 𝓛 En hs c 𝓜 𝓡 (
      Goes-dropped 𝓛 1 (plain (λ _. Handle)) no (λ κs x f. refl),
      tt,
    ) (#self inst) fn (code.unfolded 𝓤 𝓛.H 𝓜 𝓡 wired (T, tt)) (λ z are.
    let κs = z.0.0 in let κ = κs.0 in let q = z.0.1.0 in let d = z.0.3.0 in let a = d.alloc in
    let Post : Val → SProp 𝓤 = (walk_of 𝓛 En hs c).post z in
    let Run : List Val → SProp 𝓤 = λ ws. WpFn 𝓤 𝓛.H 𝓣.C 𝓣.Λ fn ws Post in let Out : RattleType =
    type_at En.signature.result κs in
    let target = held_at R a d.at d.value in
    qed 𝓛 (((‵ (flft κ q) ⊛ ‵ ftrue) ⊛ ‵ (owns (types_at En.signature.params κs) z.0.3 z.0.4)) ∷ raw
    ((c κs z.0.3).requires z.1) ∷ []) ∵ split ! $ move ! (2 ∷ []) $
    use1 𝓛 (raw (fact 𝓤 (κ ⊑ T.lives)) ⊛ ‵ ftrue) (id⊢ 𝓤 _) $ split ! $
    heard ! (κ ⊑ T.lives) (λ lives. drop ! $ split ! $ move ! (1 ∷ []) $ drop ! $
    -- [the token; what is held]
    move ! (1 ∷ []) $ fsplit ! $
    owner_out ! d.at a target z.0.4.0 (λ h ws fits. either R ! a d.at d.value
    (λ is e. let w : Val = pair (ptr_val null_ptr) h in let same : z.0.4.0 ≡ w ∷ [] = ws ∙
    ap (λ (p : Ptr). pair (ptr_val p) h ∷ []) is in
    suffices ! (Run (w ∷ [])) (subst (λ (us : List Val). ent 𝓤 (Run (w ∷ [])) (Run us))
    (sym (λ i. same i ++ [])) (id⊢ 𝓤 (Run (w ∷ [])))) $
    enter ! 𝓣.C 𝓣.Λ fn (w ∷ []) Post $ alloc_all ! (λ l. pass_all ! refl
    (handle_good null_ptr h fits, tt) $ let Ev = env fn.locals l in
    sets ! (of_opd ! (get_in ! (fld ! refl (stop !)) (sub ! 0 refl (whole !)))) refl (
      tt,
      record { fits = lit< tt },
    ) $
    sets ! (of_opd ! (get_in ! (fld ! refl (stop !)) (sub ! 1 refl (whole !)))) refl fits $
    sets ! (of_opd ! (get ! refl)) refl (tt, record { fits = lit< tt }) $
    sets ! (bin ! (get ! refl) (lit ! tt) tt) refl (tt, tt) $ first ! $ branches ! (get ! refl)
    (λ _. sets ! (agg ! (and_then ! (lit ! tt) (no_more !))) refl (
      tt,
      (record { fits = lit< tt }, tt),
    ) $
    use0 𝓛 (‵ (Out.own_val None (live 0 vnil ∷ []))) (none_of 𝓛 Boxed) $
    use0 𝓛 (raw (fact 𝓤 (d.value ≡ None))) (fact_i 𝓤 (d.value ≡ None) (emp 𝓤) e) $ nothing ! $
    nothing ! $ fjoin ! $ nothing ! $ move ! (6 ∷ 0 ∷ []) $ join ! $
    returns_within ! Post refl (look_at ! 0 refl) $ free_all ! refl $ keep ! (0 ∷ 1 ∷ 3 ∷ 2 ∷ []) $
    by ! (leaves 𝓛 En hs c z (live 0 vnil) None (tt, tt) (tt, tt)))
    (λ wrong. absurd wrong)))
    (λ b o x is e t. let w : Val = pair (vptr b o) h in let same : z.0.4.0 ≡ w ∷ [] = ws ∙
    ap (λ (p : Ptr). pair (ptr_val p) h ∷ []) is in
    let y : k.Ghost = (
      ((
        (κ, ([], tt)),
        (q, (full_share, tt)),
        tt,
        (a, (block_ptr b o, tt)),
        (h ∷ [], (vptr b o ∷ [], tt)),
      )),
      x,
    ) in
    -- [the block; the allocator]
    use0 𝓛 (raw (fact 𝓤 ([] ⊑ Z.lives))) (fact_i 𝓤 ([] ⊑ Z.lives) (emp 𝓤) (⊑_refl [])) $ join ! $
    use0 𝓛 (raw (fact 𝓤 (κ ⊑ T.lives))) (fact_i 𝓤 (κ ⊑ T.lives) (emp 𝓤) lives) $ join ! $
    nothing ! $ feq_i ! (List Val) (vptr b o ∷ []) (vptr b o ∷ []) refl $ fjoin ! $
    move ! (2 ∷ 0 ∷ []) $ fjoin ! $
    nothing ! $ use0 𝓛 (‵ (flft [] full_share)) (𝓛.lfts.lft-nil full_share) $ join ! $
    move ! (4 ∷ 0 ∷ []) $ join ! $ join ! $ join ! $ use1 𝓛 (raw (k.pre y)) (id⊢ 𝓤 _) $
    suffices ! (Run (w ∷ [])) (subst (λ (us : List Val). ent 𝓤 (Run (w ∷ [])) (Run us))
    (sym (λ i. same i ++ [])) (id⊢ 𝓤 (Run (w ∷ [])))) $
    enter ! 𝓣.C 𝓣.Λ fn (w ∷ []) Post $ alloc_all ! (λ l. pass_all ! refl
    (handle_good (block_ptr b o) h fits, tt) $ let Ev = env fn.locals l in
    sets ! (of_opd ! (get_in ! (fld ! refl (stop !)) (sub ! 0 refl (whole !)))) refl (tt, tt) $
    sets ! (of_opd ! (get_in ! (fld ! refl (stop !)) (sub ! 1 refl (whole !)))) refl fits $
    sets ! (of_opd ! (get ! refl)) refl (tt, tt) $
    sets ! (bin ! (get ! refl) (lit ! tt) (tests_null (block_ptr b o) t)) refl (tt, tt) $ first ! $
    branches ! (get ! refl)
    (λ wrong. absurd wrong)
    (λ _. skips ! $ exec ! 𝓣.C 𝓣.Λ Ev (after 5 fn.body) (at_ret Ev Post) $ first ! $ blocks ! $
    sets ! (of_opd ! (get ! refl)) refl fits $ sets ! (of_opd ! (get ! refl)) refl (tt, tt) $
    calls_at_last ! (framed 𝓤 𝓛.H 𝓜 𝓣) k known y (and_then ! (get ! refl)
    (and_then ! (get ! refl) (no_more !))) (λ u.
    use1 𝓛 (later (some (λ (r : (B E).Denot). ((‵ (flft κ q) ⊛ ‵ (flft [] full_share) ⊛
    ‵ ftrue) ⊛ ‵ ((B E).own_val r (u ∷ [])))
    ⊛ some (λ (ls : Lasts ends y.0.0 y.0.3). ‵
    (lasts ends y.0.0 y.0.3 ls) ⊛
    (raw (fact 𝓤 (r.value ≡ x)) ⊛ raw (fact 𝓤 (r.alloc ≡ a))))))) (id⊢ 𝓤 (k.post y u)) $
    await ! tt $ pick ! (λ r. split ! $ split ! $ move ! (2 ∷ []) $
    pick ! (λ _. split3 ! $ drop ! $ heard ! (r.value ≡ x) (λ kept. drop ! $ move ! (1 ∷ []) $
    box_out E ! r (u ∷ []) (λ b' o' h' at word typed. box_in E ! r b' o' r.value at refl $
    rewrite ! 0 (λ (us : List Val). ‵ ((B E).own_val r us)) (sym word) refl $
    let good : Good (layout Boxed) u = subst (Good (layout Boxed)) (sym (ap only word))
    (box_typed E h' b' o' typed) in
    let v : Val = live 1 (vcons u vnil) in let told : d.value ≡ Some r.value = e ∙
    ap Some (sym kept) in
    lands_last ! refl good $ exec ! 𝓣.C 𝓣.Λ Ev (after 6 fn.body) (at_ret Ev Post) $
    sets ! (of_opd ! (get ! refl)) refl good $
    sets ! (agg ! (and_then ! (lit ! tt) (and_then ! (get ! refl) (no_more !)))) refl
    (and_tt _ good.0, (record { fits = lit< tt }, (good.1, tt))) $
    use1 𝓛 (‵ (Out.own_val (Some r) (v ∷ []))) (Some-of 𝓛 Boxed r u) $
    use0 𝓛 (raw (fact 𝓤 (d.value ≡ Some r.value)))
    (fact_i 𝓤 (d.value ≡ Some r.value) (emp 𝓤) told) $
    nothing ! $ nothing ! $ fjoin ! $ move ! (3 ∷ []) $ split ! $ move ! (1 ∷ []) $ drop ! $
    nothing ! $ move ! (1 ∷ 0 ∷ []) $ join ! $
    returns ! (look_at ! 0 refl) $ free_all ! refl $ keep ! (0 ∷ 1 ∷ 3 ∷ 2 ∷ []) $
    by ! (leaves 𝓛 En hs c z v (Some r) (tt, tt) (tt, tt)))))))))))))
