-- `claim` reads the counts. The only owner gets the block, and any other keeps its `Rc`.
use Rattle.std.proofs.Common.{◌≡◌, ℕ, Bool, true, false, ◌&&◌, T as IsTrue, eqb, List, [], ◌∷◌, ◌++◌, refl, sym, ap, subst}
use lib.Dec.{eqb→eq}
use seplogic.Ra.Ura.{Ura}
use mir.Syntax.{Fn, a_type}
use mir.MapTy.{inst_fn}
use mir.Val.{Val, vcons, vnil}
use base.Mask.{every}
use base.Logic.{SProp, ent, emp, id⊢}
use base.Fml.{Lft, Share, ftrue, flft, ftok}
use prog.Memory.{Memory}
use prog.Routine.{Routine}
use prog.Wp.{Calls, Loops, Tables, WpFn}
use sound.WpLaws.{WpFn-mono}
use types.Logic.{Logic}
use types.Kit.{‵, raw, ◌⊛◌, at_ret, ◌$◌, ◌∵◌, !, qed, by, move, keep, split, join, fsplit, fjoin, suffices, use0, use1}
use types.Run.{stop, fld, lit, load, from, addr, look, store, of_opd, bin, no_more, and_then, assigns_last, first, blocks, branches, skips, exec, returns, returns_within, enter}
use types.ByLocal.{alloc_all, pass_all, free_all, look_at, get, get_in, through, take_at, give_at, sets, sets_last, is, env}
use types.Part.{agg, sub, whole}
use types.Match.{live}
use contract.Beside.{Carries}
use contract.BorrowLft.{◌⊑◌}
use contract.Monad.{Fun, fact, fact_i}
use contract.Named.{bare_unfolds}
use contract.Running.{tables_of, bare_tables}
use denote.Exit.{no}
use denote.RattleType.{RattleType, owns}
use denote.Signature.{types_at, plain}
use denote.Param.{param, layouts}
use denote.Param.Laws.{Laws}
use denote.RawPtr.{null_ptr, ptr_val}
use denote.Steps.{nothing, heard}
use denote.Triple.Clauses.{Clauses, Ended, closing}
use denote.Triple.Handed.{holding, hands}
use denote.Triple.Spec.{Meets, triple_of}
use denote.Triple.Table.{entered}
use denote.Triple.Walked.{Stays, stay_dropped, walk_of, walk_Meets, Goes-dropped}
use Rattle.std.proofs.raw_atomic.Walks.{leaves}
use Rattle.std.proofs.alloc.Shapes.{after}
use Rattle.std.proofs.ResultValues.{ok_of, err_of}
use Rattle.std.proofs.RcSteps.{Ptr-Good, first_Good, some_Good, word, word_ty, word-Good}
use Rattle.std.specs.Prelude.{Ok, Err}
use Rattle.std.specs.contracts.result.Result as RS
use Rattle.rope_shared.specs.contracts.local.sole.Word as held
use Rattle.rope_shared.proofs.Pointers.{renamed}
use Rattle.rope_shared.proofs.LocalWords.{Soles, Rcs, sole_name, rc_name, rc_out, rc_in, sole_in}
use Rattle.rope_shared.proofs.LocalCounts.{counts_out, counts_back, counts_taken}
use Rattle.rope_shared.specs.contracts.local.sole.Sole.claim as f
use Rattle.rope_shared.specs.contracts.local.sole.Sole.claim.Key.{name as #self}
use Rattle.rope_shared.proofs.local.sole.Sole.claim.Statement.{statement}
use Rattle.rope_shared.proofs.local.sole.Sole.claim.Code as code
use Rattle.rope_shared.proofs.local.sole.Sole.claim.Code.{code}

both : (y z : Bool) → IsTrue (y && z) → IsTrue y × IsTrue z
both true true t = (tt, tt)
both true false t = absurd t
both false z t = absurd t

module _ (T : RattleType) where
  abbrev R : RattleType
  R = param 0 T

  abbrev fn : Fn
  fn = inst_fn (layouts (a_type ∷ []) (T, tt)) code.function

  abbrev En : Ended
  En = f.ended T

  abbrev hs : Stays En.signature.params En.kept
  hs = (stay_dropped (plain (λ _. Rcs R)) no, tt)

module _ (T : RattleType) (L : Laws T) {M : Type 1} {𝓤 : Ura M} (𝓛 : Logic 𝓤)
    (at_mem : Memory → SProp 𝓤) (run : Routine → Fun 𝓤) where
  open 𝓛 use {H, A}

  -- the contract, with the thread's token
  abbrev c : Clauses 𝓤 (En T)
  c = holding 𝓤 (En T) (A.tok every) (f.clauses T 𝓛 at_mem run)

  module _ (C : Calls 𝓤 H) (Λ : Loops 𝓤 H) (z : (walk_of 𝓛 (En T) (hs T) c).Ghost) where
    abbrev Post : Val → SProp 𝓤
    Post = (walk_of 𝓛 (En T) (hs T) c).post z

    abbrev κ : Lft
    κ = z.0.0.0

    abbrev q : Share
    q = z.0.1.0

    walks : ent 𝓤 ((walk_of 𝓛 (En T) (hs T) c).pre z) (WpFn 𝓤 H C Λ (fn T) (z.0.4.0 ++ []) Post)
    walks = let d = z.0.3.0 in let p = d.ptr in let x = d.value in
        let ν = rc_name (R T) in let ω = (held.the_type).name in let σ = sole_name (R T) in
        let w : Val = word p in let Mine = Soles (R T) in let Me = Rcs (R T) in
        let Out = RS.the_row Mine Me in
        let Run : List Val → SProp 𝓤 = λ ws. WpFn 𝓤 H C Λ (fn T) ws Post in
        qed 𝓛 (((‵ (flft κ q) ⊛ ‵ ftrue) ⊛ ‵ (owns (types_at (En T).signature.params z.0.0) z.0.3
        z.0.4)) ∷ ‵ (ftok every) ∷ raw (fact 𝓤 (κ ⊑ T.lives)) ∷ ‵ ftrue ∷ []) ∵
        move ! (2 ∷ []) $ heard ! (κ ⊑ T.lives) (λ within. split ! $ split ! $
        -- [the token; nothing; the owner; the thread's token; nothing]
        move ! (2 ∷ []) $ fsplit ! $ rc_out (R T) ! d z.0.4.0 (λ same.
        suffices ! (Run (w ∷ [])) (subst (λ (us : List Val). ent 𝓤 (Run (w ∷ [])) (Run us)) (sym
        (λ i. same i ++ [])) (id⊢ 𝓤 (Run (w ∷ [])))) $
        enter ! C Λ (fn T) (w ∷ []) Post $ alloc_all ! (λ l. pass_all ! refl (word-Good ν p, tt) $
        let Ev = env (fn T).locals l in let rest = λ (k : ℕ). after k (fn T).body in
        sets ! (agg ! (and_then ! (lit ! tt) (no_more !))) refl (word-Good ω null_ptr) $
        first ! $ blocks ! $ sets ! (addr ! (from ! (stop !))) refl (tt, tt) $
        sets ! (of_opd ! (get ! refl)) refl (word-Good ν p) $
        take_at ! 2 $ renamed ! ω ν (l 2) 0 (word null_ptr) $
        assigns_last ! (of_opd ! (get ! refl)) (through ! refl (stop !)) (store ! 0 refl (word-Good
        ν p)) $
        renamed ! ν ω (l 2) 0 w $ give_at ! 2 $ exec ! C Λ Ev (rest 2) (at_ret Ev Post) $
        move ! (0 ∷ 2 ∷ 4 ∷ []) $ counts_out T L p x ! tt κ q within (λ a n m b o at small small'.
        -- [the counts; the rest of the owner; the token; nothing, three times]
        sets ! (of_opd ! (get_in ! (fld ! refl (stop !)) (sub ! 0 refl (whole !)))) refl (Ptr-Good
        p) $
        sets ! (is ! (of_opd ! (get ! refl)) (ap ptr_val at)) refl (tt, tt) $ first ! $ blocks ! $
        sets ! (of_opd ! (load ! (through ! refl (fld ! refl (stop !))) (look ! 0 refl))) refl (
          tt,
          record { fits = small },
        ) $ sets ! (bin ! (get ! refl) (lit ! tt) tt) refl (tt, tt) $
        sets ! (of_opd ! (load ! (through ! refl (fld ! refl (stop !))) (look ! 1 refl))) refl (
          tt,
          record { fits = small' },
        ) $ sets ! (bin ! (get ! refl) (lit ! tt) tt) refl (tt, tt) $
        sets_last ! (bin ! (get ! refl) (get ! refl) tt) refl (tt, tt) $
        exec ! C Λ Ev (rest 5) (at_ret Ev Post) $ sets ! (of_opd ! (get ! refl)) refl (tt, tt) $
        sets ! (of_opd ! (get ! refl)) refl (tt, tt) $ first ! $ branches ! (get ! refl)
        (λ alone. let v : Val = live 0 (vcons w vnil) in
        let r : Mine.Denot = record { ptr = p; value = x } in
        let ones = both (eqb n 1) (eqb m 1) alone in
        sets ! (is ! (of_opd ! (get ! refl)) (sym (ap ptr_val at))) refl (Ptr-Good p) $
        sets ! (agg ! (and_then ! (get ! refl) (no_more !))) refl (word-Good σ p) $
        sets ! (agg ! (and_then ! (lit ! tt) (and_then ! (get ! refl) (no_more !)))) refl
        (first_Good (word_ty σ) w (word-Good σ p)) $
        counts_taken T L p x ! tt a n m b o at (eqb→eq n 1 ones.0) (eqb→eq m 1 ones.1) $
        sole_in (R T) ! p x $
        use1 𝓛 (‵ (Out.own_val (Ok r) (v ∷ []))) (ok_of 𝓛 Mine Me r w) $
        -- [the result; the thread's token; the token; nothing, three times]
        move ! (2 ∷ 3 ∷ []) $ join ! $ use0 𝓛 (raw (fact 𝓤 (x ≡ x))) (fact_i 𝓤 (x ≡ x) (emp 𝓤)
        refl) $ move ! (3 ∷ 0 ∷ []) $ join ! $ nothing ! $ nothing ! $ fjoin ! $
        returns_within ! Post refl (look_at ! 0 refl) $ free_all ! refl $
        keep ! (2 ∷ 0 ∷ 3 ∷ 1 ∷ []) $
        by ! (leaves 𝓛 (En T) (hs T) c z v (Ok r) (tt, tt) (tt, tt)))
        (λ others. let v : Val = live 1 (vcons w vnil) in
        let r : Me.Denot = record { ptr = p; value = x } in
        skips ! $ exec ! C Λ Ev (rest 8) (at_ret Ev Post) $
        counts_back T L p x ! tt a n m b o at small small' $
        first ! $ blocks ! $ sets ! (addr ! (from ! (stop !))) refl (tt, tt) $
        take_at ! 2 $ renamed ! ω ν (l 2) 0 w $ sets_last ! (of_opd ! (load ! (through ! refl (stop
        !)) (look ! 0 refl))) refl (word-Good ν p) $
        renamed ! ν ω (l 2) 0 w $ give_at ! 2 $ exec ! C Λ Ev (rest 9) (at_ret Ev Post) $
        sets ! (of_opd ! (get ! refl)) refl (word-Good ν p) $
        sets ! (agg ! (and_then ! (lit ! tt) (and_then ! (get ! refl) (no_more !)))) refl (some_Good
        (word_ty ν) w (word-Good ν p)) $ rc_in (R T) ! p x $
        use1 𝓛 (‵ (Out.own_val (Err r) (v ∷ []))) (err_of 𝓛 Mine Me r w) $
        move ! (2 ∷ 3 ∷ []) $ join ! $ use0 𝓛 (raw (fact 𝓤 (x ≡ x))) (fact_i 𝓤 (x ≡ x) (emp 𝓤)
        refl) $ move ! (3 ∷ 0 ∷ []) $ join ! $ nothing ! $ nothing ! $ fjoin ! $
        returns ! (look_at ! 0 refl) $ free_all ! refl $ keep ! (2 ∷ 0 ∷ 3 ∷ 1 ∷ []) $
        by ! (leaves 𝓛 (En T) (hs T) c z v (Err r) (tt, tt) (tt, tt)))))))

  meets : (𝓣 : Tables 𝓤 H) → Meets 𝓛 (En T).signature (WpFn 𝓤 H 𝓣.C 𝓣.Λ (fn T)) (closing 𝓛 (En
      T) c)
  meets 𝓣 = walk_Meets 𝓛 (En T) (hs T) (
    Goes-dropped 𝓛 1 (plain (λ _. Rcs (R T))) no (λ κs x f.
        refl),
    tt,
  ) c (WpFn 𝓤 H 𝓣.C 𝓣.Λ (fn T)) (WpFn-mono 𝓤 H 𝓛.laws 𝓣 (fn T)) (λ z. walks 𝓣.C 𝓣.Λ z)

pub claim_spec : {M : Type 1} → statement M
unfolding tables_of code
claim_spec 𝓤 𝓛 𝓜 𝓡 wired T L =
    let A = 𝓛.A in let held = f.clauses T 𝓛 𝓜.mem 𝓡.returns in let ended = En T in
    let 𝓒 : Carries 𝓤 𝓛.H 𝓜 (A.tok every) = subst (Carries 𝓤 𝓛.H 𝓜) 𝓛.turn_is 𝓡.carries in
    let bare = bare_tables 𝓤 𝓛.H 𝓒.inner 𝓡.allowed 𝓡.how 𝓡.env in
    let 𝓣 : Tables 𝓤 𝓛.H = tables_of 𝓤 𝓛.H 𝓒.inner bare in
    let k = #self (layouts (a_type ∷ []) (T, tt)) in
    hands 𝓛 ended (A.tok every) held 𝓜 𝓒 𝓡 (𝓡.env k)
    (entered 𝓤 𝓛.H (triple_of 𝓛 ended.signature (closing 𝓛 ended (holding 𝓤 ended (A.tok every)
    held))) 𝓣.C 𝓣.Λ k (fn T)
    (bare_unfolds 𝓤 𝓛.H 𝓒.inner 𝓡.allowed 𝓡.how 𝓡.env k (fn T) (wired.0.0 k refl))
    (meets T L 𝓛 𝓜.mem 𝓡.returns 𝓣))
