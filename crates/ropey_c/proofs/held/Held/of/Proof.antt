-- `of` takes the box apart and keeps both parts.
use Rattle.ropey_c.proofs.WalkSteps.{◌≡◌, [], ◌∷◌, refl, List, ◌++◌, sym, subst, ap, ◌∙◌, a_type, inst_fn, Val, vptr, full_share, SProp, emp, ent, id⊢, ftrue, flft, WpFn, ‵, raw, ◌⊛◌, ◌$◌, ◌∵◌, !, qed, by, move, keep, drop, split, fsplit, fjoin, use0, suffices, some, later, split3, join, pick, await, rewrite, use1, no_more, and_then, returns, enter, stop, fld, of_opd, alloc_all, pass_all, free_all, look_at, get, sets, get_in, agg, sub, whole, ◌⊑◌, ⊑_refl, fact, fact_i, tables, no, param, layout, glues, RattleType, owns, ptr_val, Ptr, null_ptr, block_ptr, types_at, plain, nothing, only, heard, Lasts, lasts, triple_of, framed, Stays, stay_dropped, walk_of, proved_at, leaves, handle_tells, Bx, box_typed, box_out, box_in, Option, Some}
use mir.Syntax.{dcons, dnil}
use mir.Raw.{raw as bare}
use mir.Val.{vstruct, of_list}
use base.Logic.{never, fst∗}
use types.Logic.{sem}
use types.Kit.{fpick, feq_l}
use types.ByLocal.{lands_as}
use denote.Builtin.{RawPtr}
use denote.Param.{bounded}
use denote.RawPtr.{in_a_block}
use denote.Struct.Tuple.{Tuple}
use denote.Triple.Call.{calls_at}
use Rattle.std.proofs.alloc.Calls.{Goes-blank}
use Rattle.std.proofs.BoxSteps.Form.{word}
use Rattle.std.specs.Box.Ownership.{box_owns}
use Rattle.std.specs.contracts.impls.GlobalAllocator.TheImpl.{ghosts, dict}
use Rattle.std.proofs.impls.GlobalAllocator.TheImpl.Met.{passed}
use Rattle.std.specs.contracts.boxed.Box as box
use Rattle.std.specs.contracts.boxed.Box.into_raw_with_allocator as callee
use Rattle.std.proofs.boxed.Box.into_raw_with_allocator.Met.{met}
use Rattle.ropey_c.specs.Handles.{held_at}
use Rattle.ropey_c.proofs.BoxOrNull.{Z, Allocators, al, no_drop, pair, owner_in}
use Rattle.ropey_c.specs.contracts.held.Held.of.{ended, clauses}
use Rattle.ropey_c.specs.contracts.held.Held.of.Key.{name as #self}
use Rattle.ropey_c.proofs.held.Held.of.Statement.{statement}
use Rattle.ropey_c.proofs.held.Held.of.Code as code

pub of_spec : {M : Type 1} → statement M
unfolding Rattle.ropey_c.proofs.Destruct++none.drop.Code.code
of_spec {M} 𝓤 𝓛 𝓜 𝓡 wired T L drops glue =
    let 𝓣 = tables 𝓤 𝓛.H 𝓜 𝓡 𝓡.env in let En = ended T drops in
    let c = clauses T drops 𝓛 𝓜.mem 𝓡.returns in
    let boxed : Bx = record { row = T; laws = L; al = al } in
    let at_type = bounded (a_type ∷ []) (T, tt) (dcons drops dnil) in
    let fn = inst_fn at_type code.function in
    let Boxed : RattleType = box.the_row (param 0 T) Z ghosts in
    let ends = callee.ended T Allocators ghosts dict no_drop drops in
    let k = triple_of 𝓛 (callee.signature T Allocators ghosts dict no_drop drops)
    (callee.spec T Allocators ghosts dict no_drop drops 𝓛 𝓜.mem 𝓡.returns) in
    let allocator =
    passed 𝓡.env (code.calls-std::impls::GlobalAllocator::allocate 𝓡.env wired)
    (code.calls-std::impls::GlobalAllocator::deallocate 𝓡.env wired)
    (code.calls-std::impls::GlobalAllocator::grow 𝓡.env wired)
    (code.calls-std::impls::GlobalAllocator::shrink 𝓡.env wired) M 𝓤 𝓛 𝓜 𝓡 in
    let glued =
    glues "ropey_c::Destruct++none::drop" 𝓡.env
    (code.calls-ropey_c::Destruct++none::drop 𝓡.env wired) Allocators al.laws M 𝓤 𝓛 𝓜 𝓡 in
    let known =
    met 𝓤 𝓛 𝓜 𝓡 (code.calls-std::boxed::Box::into_raw_with_allocator 𝓡.env wired) T Allocators L
    al.laws ghosts dict no_drop drops allocator glued glue in
    let hs : Stays En.signature.params En.kept = (stay_dropped (plain (λ _. Boxed)) no, tt) in
    proved_at 𝓛 En hs c 𝓜 𝓡 (Goes-blank 𝓛 1 (plain (λ _. Boxed)) no (λ κs x f. tt), tt)
    (#self at_type) fn (code.unfolded 𝓤 𝓛.H 𝓜 𝓡 wired (T, tt) drops) (λ z are.
    let κs = z.0.0 in let κ = κs.0 in let q = z.0.1.0 in let v = z.0.3.0 in let a = v.alloc in
    let held : Option (param 0 T).Denot = Some v.value in
    let Post : Val → SProp 𝓤 = (walk_of 𝓛 En hs c).post z in
    let Run : List Val → SProp 𝓤 = λ ws. WpFn 𝓤 𝓛.H 𝓣.C 𝓣.Λ fn ws Post in
    qed 𝓛 (((‵ (flft κ q) ⊛ ‵ ftrue) ⊛ ‵ (owns (types_at En.signature.params κs) z.0.3 z.0.4))
    ∷ raw ((c κs z.0.3).requires z.1) ∷ []) ∵ split ! $ split ! $
    move ! (3 ∷ []) $ use1 𝓛 (raw (fact 𝓤 (κ ⊑ T.lives)) ⊛ ‵ ftrue) (id⊢ 𝓤 _) $ split !
    $ heard ! (κ ⊑ T.lives) (λ within. drop ! $
    -- [the token; nothing; the box]
    move ! (2 ∷ []) $ fsplit ! $ box_out boxed ! v z.0.4.0
    (λ b o h at ws fits. box_in boxed ! v b o v.value at refl $ fjoin ! $
    let w : Val = word boxed h b o in let y : k.Ghost =
    (((κ, ([], tt)), (q, (full_share, tt)), tt, (v, tt), (w ∷ [], tt)), tt) in
    let Two = Tuple (RawPtr ∷ param 1 Allocators ∷ []) in
    nothing ! $ use0 𝓛 (raw (fact 𝓤 ([] ⊑ Z.lives))) (fact_i 𝓤 ([] ⊑ Z.lives) (emp 𝓤) (⊑_refl []))
    $ join ! $
    use0 𝓛 (raw (fact 𝓤 (κ ⊑ T.lives))) (fact_i 𝓤 (κ ⊑ T.lives) (emp 𝓤) within) $ join ! $
    nothing ! $ use0 𝓛 (‵ (flft [] full_share)) (𝓛.lfts.lft-nil full_share) $ join !
    $ move ! (3 ∷ 0 ∷ 2 ∷ 1 ∷ []) $ join ! $ join ! $ join ! $ use1 𝓛 (raw (k.pre y)) (id⊢ 𝓤 _) $
    suffices ! (Run (w ∷ []))
    (subst (λ (us : List Val). ent 𝓤 (Run (w ∷ [])) (Run us)) (sym (λ i. ws i ++ []))
    (id⊢ 𝓤 (Run (w ∷ [])))) $
    enter ! 𝓣.C 𝓣.Λ fn (w ∷ []) Post $ alloc_all !
    (λ l. pass_all ! refl (box_typed boxed h b o fits, tt)
    $ sets ! (of_opd ! (get ! refl)) refl (box_typed boxed h b o fits) $
    calls_at ! (framed 𝓤 𝓛.H 𝓜 𝓣) k known y (and_then ! (get ! refl) (no_more !)) (λ u.
    use1 𝓛 (later (some (λ (r : Ptr × Z.Denot).
    ((‵ (flft κ q) ⊛ ‵ (flft [] full_share) ⊛ ‵ ftrue) ⊛ ‵ (Two.own_val r (u ∷ [])))
    ⊛ some (λ (ls : Lasts ends y.0.0 y.0.3). ‵ (lasts ends y.0.0 y.0.3 ls)
    ⊛ (raw (fact 𝓤 (r.1 ≡ a)) ⊛ ‵ (box_owns (ghosts.dealloc_token a) (param 0 T) r.0 v.value))))))
    (id⊢ 𝓤 (k.post y u)) $
    await ! tt $ pick ! (λ r. split ! $ split ! $ split ! $ move ! (3 ∷ [])
    $ pick ! (λ _. split3 ! $ drop ! $ heard ! (r.1 ≡ a) (λ same.
    in_a_block ! r.0 (λ p. box_owns (ghosts.dealloc_token a) (param 0 T) p v.value)
    (fst∗ 𝓤 (never 𝓤) (sem 𝓛 (ghosts.dealloc_token a (bare (layout T)) null_ptr))) (λ b' o' is.
    -- [the block; the token; nothing; the two parts]
    move ! (3 ∷ []) $ fpick ! (λ vss. fsplit !
    $ feq_l ! (λ both. fsplit !
    $ feq_l ! (λ first. fsplit ! $ rewrite ! 0 (λ (s : Z.Denot). ‵ (Z.own_val s vss.1.0)) same refl
    $
    handle_tells al ! a vss.1.0 (λ h' second fits'. let made = box_typed boxed h' b' o' fits' in
    lands_as ! (ap only (both
    ∙ (λ j. vstruct (of_list ((first ∙ ap (λ (p : Ptr). ptr_val p ∷ []) is) j ++ (second j ++ [])))
    ∷ []))) refl made $
    sets ! (of_opd ! (get_in ! (fld ! refl (stop !)) (sub ! 0 refl (whole !)))) refl (tt, tt) $
    sets ! (of_opd ! (get_in ! (fld ! refl (stop !)) (sub ! 1 refl (whole !)))) refl fits' $
    sets ! (agg ! (and_then ! (get ! refl) (and_then ! (get ! refl) (no_more !)))) refl made $
    move ! (2 ∷ 0 ∷ []) $
    owner_in ! (block_ptr b' o') h' a (held_at (param 0 T) a (block_ptr b' o') (Some v.value)) $
    move ! (2 ∷ []) $ nothing !
    $ move ! (1 ∷ 0 ∷ []) $ join ! $
    use0 𝓛 (raw (fact 𝓤 (held ≡ held))) (fact_i 𝓤 (held ≡ held) (emp 𝓤) refl)
    $ nothing ! $ nothing ! $ fjoin ! $
    returns ! (look_at ! 0 refl) $ free_all ! refl $ keep ! (2 ∷ 0 ∷ 3 ∷ 1 ∷ []) $
    by ! (leaves 𝓛 En hs c z (pair (vptr b' o') h')
    (record { at = block_ptr b' o'; alloc = a; value = held }) (tt, tt) (tt, tt)))))))))))))))
