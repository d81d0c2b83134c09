-- `record` does nothing. Its proof opens the borrow, and closes it at another ghost value.
use Rattle.std.proofs.Common.{◌≡◌, [], ◌∷◌, refl, List}
use Rattle.std.proofs.raw_atomic.Walks.{proved, leaves}
use Rattle.std.specs.contracts.option.Option as Opt
use mir.Syntax.{named}
use mir.Val.{Val, vunit}
use base.Logic.{id⊢, emp}
use base.Fml.{ftrue, flft}
use contract.Monad.{fact, fact_i}
use types.Kit.{‵, raw, ◌⊛◌, ◌$◌, ◌∵◌, !, qed, move, keep, by, use0, use1, split, join, fsplit, fsplit3, fjoin, fjoin3, feq_i}
use types.Run.{unit_lit, of_opd, returns, enter}
use types.ByLocal.{alloc_all, pass_all, free_all, look_at, sets}
use denote.Exit.{yes}
use denote.RattleType.{RattleType, owns}
use denote.Ref.{mut_vals, mut_Tells, shr_vals, shr_Tells}
use denote.Signature.{plain, types_at}
use denote.Steps.{opens, closes}
use denote.Triple.Walked.{Stays, stay_ref, stay_none_ref, walk_of, Goes-ref, Goes-none_ref}
use Rattle.rope_io.specs.declared.device.failure_log.FailureLog.{FailureLog}
use Rattle.rope_io.specs.Failing.{count_failure}
use Rattle.rope_io.specs.contracts.device.Failure.{the_row as Failures}
use Rattle.rope_io.specs.contracts.device.failure_log.FailureLog.{the_row as R}
use Rattle.rope_io.specs.contracts.device.failure_log.FailureLog.record as f
use Rattle.rope_io.specs.contracts.device.failure_log.FailureLog.record.Key.{name as key}
use Rattle.rope_io.proofs.device.failure_log.FailureLog.record.Statement.{statement}
use Rattle.rope_io.proofs.device.failure_log.FailureLog.record.Code as code

abbrev O : RattleType
O = Opt.the_row Failures

abbrev stayed : Stays f.ended.signature.params f.ended.kept
stayed = (
  stay_ref (0 ∷ []) tt (plain (λ _. R)),
  (stay_none_ref (1 ∷ []) tt (plain (λ _. O)) yes, tt),
)

pub record_spec : {M : Type 1} → statement M
record_spec 𝓤 𝓛 𝓜 𝓡 wired =
    let c = f.clauses 𝓛 𝓜.mem 𝓡.returns in let W = walk_of 𝓛 f.ended stayed c in
    proved 𝓛 f.ended stayed c 𝓜 𝓡 (
      Goes-ref 𝓛 2 0 tt (plain (λ _. R)),
      (Goes-none_ref 𝓛 2 (1 ∷ []) tt (plain (λ _. O)) yes, tt),
    )
    key code.function (code.unfolded 𝓤 𝓛.H 𝓜 𝓡 wired)
    (λ κs. (mut_vals, (shr_vals, tt)))
    (λ κs. (mut_Tells (named 0) κs.0 R, (shr_Tells (named 1) κs.1.0 O, tt)))
    (λ κs qs bounds a _ are.
    let b = a.0.ref_ptr.0 in let o = a.0.ref_ptr.1 in let failure = a.1.0.now in
    let vs : List Val = mut_vals a.0 in let us : List Val = shr_vals a.1.0 in
    let new : FailureLog = record {
      last = failure;
      count = count_failure failure a.0.now.count;
    } in
    let y : W.Ghost = ((κs, qs, bounds, a, (vs, (us, tt))), tt) in
    qed 𝓛 (((‵ (flft κs.0 qs.0) ⊛ (‵ (flft κs.1.0 qs.1.0) ⊛ ‵ ftrue))
    ⊛ ‵ (owns (types_at f.signature.params κs) a (vs, (us, tt)))) ∷ ‵ ftrue ∷ []) ∵
    split ! $ keep ! (0 ∷ 1 ∷ []) $ move ! (1 ∷ []) $ fsplit ! $ fsplit3 ! $
    -- [the address; two parts of self; the failure; the tokens]
    move ! (4 ∷ []) $ split ! $ move ! (3 ∷ 4 ∷ 0 ∷ []) $
    enter ! _ _ _ _ _ $ alloc_all ! (λ l. pass_all ! refl ((tt, tt), ((tt, tt), tt)) $
    opens ! tt R b o (λ ws. sets ! (of_opd ! (unit_lit !)) refl (tt, tt) $
    move ! (1 ∷ []) $ use1 𝓛 (‵ (R.own_val new ws)) (id⊢ 𝓤 _) $ move ! (1 ∷ 0 ∷ []) $
    closes ! tt R new ws b o $ returns ! (look_at ! 0 refl) $ free_all ! refl $
    use0 𝓛 (raw (fact 𝓤 (new.count ≡ new.count))) (fact_i 𝓤 (new.count ≡ new.count) (emp 𝓤) refl) $
    use0 𝓛 (raw (fact 𝓤 (failure ≡ failure))) (fact_i 𝓤 (failure ≡ failure) (emp 𝓤) refl) $ join ! $
    -- [the clauses; two parts of self; the tokens; the address; the failure]
    feq_i ! (List Val) (vunit ∷ []) (vunit ∷ []) refl $
    move ! (6 ∷ 2 ∷ 3 ∷ []) $ fjoin3 ! $ move ! (0 ∷ 5 ∷ []) $ fjoin ! $
    move ! (3 ∷ 4 ∷ []) $ join ! $ move ! (0 ∷ 1 ∷ 2 ∷ 3 ∷ []) $
    by ! (leaves 𝓛 f.ended stayed c y vunit tt (new, (tt, tt)) (tt, (tt, tt))))))
