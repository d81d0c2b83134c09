-- `into_rc` reads the pointer as an `Rc`.
use Rattle.std.proofs.Common.{◌≡◌, List, [], ◌∷◌, ◌++◌, refl, sym, subst}
use mir.Syntax.{a_type}
use mir.MapTy.{inst_fn}
use mir.Val.{Val}
use base.Logic.{SProp, ent, emp, id⊢}
use base.Fml.{ftrue, flft}
use prog.Wp.{WpFn}
use types.Kit.{‵, raw, ◌⊛◌, at_ret, ◌$◌, ◌∵◌, !, qed, by, move, keep, drop, split, join, fsplit, fsplit3, fjoin, fjoin3, suffices, use0, use1}
use types.Run.{stop, fld, load, from, addr, look, of_opd, no_more, and_then, first, blocks, exec, returns, enter}
use types.ByLocal.{alloc_all, pass_all, free_all, look_at, get, get_in, through, take_at, give_at, sets, sets_last, env}
use types.Part.{agg, sub, whole}
use contract.Monad.{fact, fact_i}
use contract.Running.{tables}
use denote.Exit.{no}
use denote.RattleType.{RattleType, owns}
use denote.Signature.{types_at, plain}
use denote.Param.{param, layouts}
use denote.Steps.{nothing}
use denote.Triple.Walked.{Stays, stay_dropped, walk_of, Goes-dropped}
use Rattle.std.proofs.raw_atomic.Walks.{proved_at, leaves}
use Rattle.std.proofs.alloc.Shapes.{after}
use Rattle.std.proofs.RcSteps.{Ptr-Good, word, word-Good}
use Rattle.std.specs.Rc.Ownership.{rc_owns}
use Rattle.rope_shared.specs.contracts.local.sole.Sole as sole
use Rattle.std.specs.contracts.rc.Rc as rc
use Rattle.std.specs.contracts.impls.GlobalAllocator.TheImpl.{ghosts}
use Rattle.rope_shared.specs.contracts.local.sole.Word as held
use Rattle.rope_shared.proofs.Words.{Z}
use Rattle.rope_shared.proofs.Pointers.{renamed}
use Rattle.rope_shared.proofs.LocalWords.{Soles, sole_out, rc_in, of_sole}
use Rattle.rope_shared.specs.contracts.local.sole.Sole.into_rc.{ended, clauses}
use Rattle.rope_shared.specs.contracts.local.sole.Sole.into_rc.Key.{name as #self}
use Rattle.rope_shared.proofs.local.sole.Sole.into_rc.Statement.{statement}
use Rattle.rope_shared.proofs.local.sole.Sole.into_rc.Code as code

pub into_rc_spec : {M : Type 1} → statement M
into_rc_spec 𝓤 𝓛 𝓜 𝓡 wired T L =
    let 𝓣 = tables 𝓤 𝓛.H 𝓜 𝓡 𝓡.env in let R : RattleType = param 0 T in let En = ended T in
    let c = clauses T 𝓛 𝓜.mem 𝓡.returns in let at_type = layouts (a_type ∷ []) (T, tt) in
    let fn = inst_fn at_type code.function in let Me = Soles R in
    let hs : Stays En.signature.params En.kept = (stay_dropped (plain (λ _. Me)) no, tt) in
    proved_at 𝓛 En hs c 𝓜 𝓡 (Goes-dropped 𝓛 1 (plain (λ _. Me)) no (λ κs x f. refl), tt)
    (#self at_type) fn (code.unfolded 𝓤 𝓛.H 𝓜 𝓡 wired (T, tt)) (λ z are.
    let κs = z.0.0 in let κ = κs.0 in let q = z.0.1.0 in let d = z.0.3.0 in let p = d.ptr in
    let x = d.value in
    let ν = (rc.the_type R Z ghosts).name in let w : Val = word p in
    let Post : Val → SProp 𝓤 = (walk_of 𝓛 En hs c).post z in
    let Run : List Val → SProp 𝓤 = λ ws. WpFn 𝓤 𝓛.H 𝓣.C 𝓣.Λ fn ws Post in
    qed 𝓛 (((‵ (flft κ q) ⊛ ‵ ftrue) ⊛ ‵ (owns (types_at En.signature.params κs) z.0.3 z.0.4))
    ∷ raw ((c κs z.0.3).requires z.1) ∷ []) ∵ split ! $ split ! $ move ! (3 ∷ []) $ drop ! $
    -- [the token; nothing; the owner]
    move ! (2 ∷ []) $ fsplit ! $ sole_out R ! d z.0.4.0 (λ is.
    suffices ! (Run (w ∷ [])) (subst (λ (us : List Val). ent 𝓤 (Run (w ∷ [])) (Run us)) (sym
    (λ i. is i ++ [])) (id⊢ 𝓤 (Run (w ∷ [])))) $
    enter ! 𝓣.C 𝓣.Λ fn (w ∷ []) Post $ alloc_all !
    (λ l. pass_all ! refl (word-Good (sole.the_type R).name p, tt) $
    let Ev = env fn.locals l in
    sets ! (of_opd ! (get_in ! (fld ! refl (stop !)) (sub ! 0 refl (whole !)))) refl (Ptr-Good p) $
    sets ! (agg ! (and_then ! (get ! refl) (no_more !))) refl (word-Good (held.the_type).name p) $
    first ! $ blocks ! $ sets ! (addr ! (from ! (stop !))) refl (tt, tt) $
    take_at ! 3 $ renamed ! (held.the_type).name ν (l 3) 0 w $
    sets_last ! (of_opd ! (load ! (through ! refl (stop !)) (look ! 0 refl))) refl (word-Good ν p) $
    renamed ! ν (held.the_type).name (l 3) 0 w $ give_at ! 3 $
    exec ! 𝓣.C 𝓣.Λ Ev (after 3 fn.body) (at_ret Ev Post) $
    sets ! (of_opd ! (get ! refl)) refl (word-Good ν p) $
    -- [the owner; nothing; the token; nothing]
    fsplit ! $ drop ! $ fsplit3 ! $ move ! (0 ∷ 2 ∷ []) $ fjoin ! $ move ! (1 ∷ []) $ fsplit ! $
    move ! (0 ∷ 1 ∷ 2 ∷ []) $ fjoin3 ! $
    use1 𝓛 (‵ (rc_owns Z ghosts.dealloc_token R p x)) (of_sole R 𝓛 p x) $ rc_in R ! p x $
    move ! (2 ∷ 3 ∷ []) $ join ! $ use0 𝓛 (raw (fact 𝓤 (x ≡ x))) (fact_i 𝓤 (x ≡ x) (emp 𝓤) refl) $
    nothing ! $ nothing ! $ fjoin ! $
    returns ! (look_at ! 0 refl) $ free_all ! refl $ keep ! (2 ∷ 0 ∷ 3 ∷ 1 ∷ []) $
    by ! (leaves 𝓛 En hs c z w (record { ptr = p; value = x }) (tt, tt) (tt, tt)))))
