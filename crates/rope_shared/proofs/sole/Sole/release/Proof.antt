-- `release` lowers the count. The last owner gets the block.
use Rattle.std.proofs.Common.{◌≡◌, ℕ, List, [], ◌∷◌, ◌++◌, refl, sym, ap, subst, lit<, w64}
use mir.Syntax.{a_type}
use mir.MapTy.{inst_fn}
use mir.Val.{Val, vint, vptr, vcons, vnil}
use base.Logic.{SProp, ent, emp, id⊢, via}
use base.Fml.{ftrue, flft}
use prog.Wp.{WpFn}
use types.Kit.{‵, raw, ◌⊛◌, later, mean, at_ret, ◌$◌, ◌∵◌, !, qed, by, move, keep, drop, split, join, fsplit, fjoin, fjoin3, fpick, fpack, suffices, use0, use1, rewrite, await}
use types.Run.{stop, fld, lit, from, addr, store, of_opd, bin, no_more, and_then, assigns_last, first, blocks, branches, skips, exec, Calls-last, returns, returns_within, enter}
use types.ByLocal.{alloc_all, pass_all, free_all, look_at, get, get_in, through, take_at, give_at, sets, lands_last, is, env}
use types.Part.{agg, sub, whole}
use types.Match.{live}
use contract.Monad.{fact, fact_i}
use contract.Running.{tables}
use denote.Exit.{no}
use denote.RattleType.{RattleType, owns}
use denote.Signature.{types_at, plain}
use denote.Param.{param, layouts}
use denote.RawPtr.{InBlock, block_ptr, null_ptr, ptr_val, at_block}
use denote.Steps.{nothing}
use denote.Triple.Walked.{Stays, stay_dropped, walk_of, Goes-dropped}
use Rattle.std.proofs.raw_atomic.Walks.{proved_at, leaves}
use Rattle.std.proofs.raw_atomic.Calls.{found, finds, fm, seq_cst, subs}
use Rattle.std.proofs.alloc.Shapes.{after}
use Rattle.std.proofs.option.Made.{Some-of, none_of}
use Rattle.std.proofs.RcSteps.{Ptr-Good, some_Good, is_so, word, word_ty, word-Good}
use Rattle.std.specs.Prelude.{None, Some}
use Rattle.std.specs.Thread.Scope.{word_at}
use Rattle.std.specs.contracts.sync.Arc as arc
use Rattle.std.specs.contracts.impls.GlobalAllocator.TheImpl.{ghosts}
use Rattle.std.specs.contracts.option.Option as Opt
use Rattle.rope_shared.specs.contracts.sole.Word as held
use Rattle.rope_shared.specs.contracts.sole.Sole as sole
use Rattle.rope_shared.proofs.Pointers.{renamed}
use Rattle.rope_shared.proofs.Words.{Z, Soles, Arcs, arc_out, sole_in}
use Rattle.rope_shared.proofs.Counts.{V, b, o, released, last_has, drops}
use Rattle.rope_shared.specs.contracts.sole.Sole.release.{ended, clauses}
use Rattle.rope_shared.specs.contracts.sole.Sole.release.Key.{name as #self}
use Rattle.rope_shared.proofs.sole.Sole.release.Statement.{statement}
use Rattle.rope_shared.proofs.sole.Sole.release.Code as code

pub release_spec : {M : Type 1} → statement M
release_spec 𝓤 𝓛 𝓜 𝓡 wired T L =
    let 𝓣 = tables 𝓤 𝓛.H 𝓜 𝓡 𝓡.env in let R : RattleType = param 0 T in let En = ended T in
    let c = clauses T 𝓛 𝓜.mem 𝓡.returns in let at_type = layouts (a_type ∷ []) (T, tt) in
    let fn = inst_fn at_type code.function in let Me = Arcs R in let Mine = Soles R in
    let Out = Opt.the_row Mine in
    let hs : Stays En.signature.params En.kept = (stay_dropped (plain (λ _. Me)) no, tt) in
    proved_at 𝓛 En hs c 𝓜 𝓡 (Goes-dropped 𝓛 1 (plain (λ _. Me)) no (λ κs x f. refl), tt)
    (#self at_type) fn (code.unfolded 𝓤 𝓛.H 𝓜 𝓡 wired (T, tt)) (λ z are.
    let κs = z.0.0 in let κ = κs.0 in let q = z.0.1.0 in let d = z.0.3.0 in let p = d.ptr in
    let x = d.value in
    let ν = (arc.the_type R Z ghosts).name in let ω = (held.the_type).name in
    let σ = (sole.the_type R).name in let w : Val = word p in
    let b' = b R p x in let o' = o R p x in let then = released R p x in
    let Post : Val → SProp 𝓤 = (walk_of 𝓛 En hs c).post z in
    let Run : List Val → SProp 𝓤 = λ ws. WpFn 𝓤 𝓛.H 𝓣.C 𝓣.Λ fn ws Post in
    qed 𝓛 (((‵ (flft κ q) ⊛ ‵ ftrue) ⊛ ‵ (owns (types_at En.signature.params κs) z.0.3 z.0.4))
    ∷ raw ((c κs z.0.3).requires z.1) ∷ []) ∵ split ! $ split ! $ move ! (3 ∷ []) $ drop ! $
    -- [the token; nothing; the owner]
    move ! (2 ∷ []) $ fsplit ! $ arc_out R ! d z.0.4.0 (λ same. fsplit ! $ fpick ! (λ inb. drop ! $
    suffices ! (Run (w ∷ [])) (subst (λ (us : List Val). ent 𝓤 (Run (w ∷ [])) (Run us)) (sym
    (λ i. same i ++ [])) (id⊢ 𝓤 (Run (w ∷ [])))) $
    enter ! 𝓣.C 𝓣.Λ fn (w ∷ []) Post $ alloc_all ! (λ l. pass_all ! refl (word-Good ν p, tt) $
    let Ev = env fn.locals l in
    sets ! (agg ! (and_then ! (lit ! tt) (no_more !))) refl (word-Good ω null_ptr) $
    first ! $ blocks ! $ sets ! (addr ! (from ! (stop !))) refl (tt, tt) $
    sets ! (of_opd ! (get ! refl)) refl (word-Good ν p) $
    take_at ! 2 $ renamed ! ω ν (l 2) 0 (word null_ptr) $
    assigns_last ! (of_opd ! (get ! refl)) (through ! refl (stop !)) (store ! 0 refl (word-Good ν
    p)) $
    renamed ! ν ω (l 2) 0 w $ give_at ! 2 $ exec ! 𝓣.C 𝓣.Λ Ev (after 2 fn.body) (at_ret Ev Post) $
    sets ! (of_opd ! (get_in ! (fld ! refl (stop !)) (sub ! 0 refl (whole !)))) refl (Ptr-Good p) $
    sets ! (is ! (of_opd ! (get ! refl)) (ap ptr_val (at_block p inb))) refl (tt, tt) $
    first ! $ blocks ! $ sets ! (addr ! (through ! refl (fld ! refl (stop !)))) refl (tt, tt) $
    sets ! (agg ! (and_then ! (lit ! tt) (no_more !))) refl (tt, (record { fits = lit< tt }, tt)) $
    use1 𝓛 (raw (𝓣.C _ (vptr b' o' ∷ vint w64 1 ∷ seq_cst ∷ []) (λ r. mean 𝓛 (found then r))))
    (via 𝓤 _ (drops R p x 𝓛) (subs 𝓛 𝓜 𝓡 (code.calls-std::sync::atomic::raw::fetch_sub 𝓡.env wired)
    (block_ptr b' o') 1 (lit< tt) then)) $
    Calls-last ! (fm 𝓛 𝓜 𝓡) (found then) (and_then ! (get ! refl) (and_then ! (lit ! tt) (and_then !
    (get ! refl) (no_more !)))) (λ r. finds ! then (λ n fits.
    lands_last ! refl (tt, record { fits = fits }) $
    exec ! 𝓣.C 𝓣.Λ Ev (after 5 fn.body) (at_ret Ev Post) $
    sets ! (of_opd ! (get ! refl)) refl (tt, record { fits = fits }) $
    sets ! (bin ! (get ! refl) (lit ! tt) tt) refl (tt, tt) $ first ! $ branches ! (get ! refl)
    (λ others. let v : Val = live 0 vnil in
    sets ! (agg ! (and_then ! (lit ! tt) (no_more !))) refl (tt, (record { fits = lit< tt }, tt)) $
    drop ! $ drop ! $ join ! $ use0 𝓛 (‵ (Out.own_val None (v ∷ []))) (none_of 𝓛 Mine) $
    use0 𝓛 (raw (fact 𝓤 (Unit {0}))) (fact_i 𝓤 (Unit {0}) (emp 𝓤) tt) $ nothing ! $ nothing ! $
    fjoin ! $
    returns_within ! Post refl (look_at ! 0 refl) $ free_all ! refl $ keep ! (3 ∷ 0 ∷ 2 ∷ 1 ∷ []) $
    by ! (leaves 𝓛 En hs c z v None (tt, tt) (tt, tt)))
    (λ alone. let v : Val = live 1 (vcons w vnil) in
    let r : Mine.Denot = record { ptr = p; value = x } in
    skips ! $ exec ! 𝓣.C 𝓣.Λ Ev (after 8 fn.body) (at_ret Ev Post) $
    rewrite ! 0 (λ (i : ℕ). ‵ (released R p x i)) (is_so n 1 alone) refl $
    use1 𝓛 (later (‵ (word_at b' o' 0) ⊛ ‵ (V R p x))) (last_has R p x 𝓛 0) $ await ! tt $ split ! $
    first ! $ blocks ! $ assigns_last ! (of_opd ! (lit ! tt)) (through ! refl (fld ! refl (stop !)))
    (store ! 0 refl (tt, record { fits = lit< tt })) $
    exec ! 𝓣.C 𝓣.Λ Ev (after 9 fn.body) (at_ret Ev Post) $
    sets ! (is ! (agg ! (and_then ! (get ! refl) (no_more !))) (ap word (sym (at_block p inb))))
    refl (word-Good σ p) $
    sets ! (agg ! (and_then ! (lit ! tt) (and_then ! (get ! refl) (no_more !)))) refl (some_Good
    (word_ty σ) w (word-Good σ p)) $
    move ! (1 ∷ []) $ fsplit ! $
    move ! (0 ∷ 2 ∷ 1 ∷ []) $ fjoin3 ! $ nothing ! $ fpack ! (InBlock p) (λ _. ftrue) inb $
    fjoin ! $ sole_in R ! p x $
    use1 𝓛 (‵ (Out.own_val (Some r) (v ∷ []))) (Some-of 𝓛 Mine r w) $
    move ! (2 ∷ 3 ∷ []) $ join ! $ use0 𝓛 (raw (fact 𝓤 (x ≡ x))) (fact_i 𝓤 (x ≡ x) (emp 𝓤) refl) $
    nothing ! $ nothing ! $ fjoin ! $
    returns ! (look_at ! 0 refl) $ free_all ! refl $ keep ! (2 ∷ 0 ∷ 3 ∷ 1 ∷ []) $
    by ! (leaves 𝓛 En hs c z v (Some r) (tt, tt) (tt, tt)))))))))
