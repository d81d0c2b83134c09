-- `new` makes a value of no bytes. Its proof chooses the empty log.
use Rattle.std.proofs.Common.{◌≡◌, [], ◌∷◌, refl, None}
use Rattle.std.proofs.raw_atomic.Walks.{proved, leaves}
use mir.Val.{Val, vstruct, vnil}
use base.Logic.{emp}
use base.Fml.{ftrue}
use contract.Monad.{fact, fact_i}
use types.Kit.{‵, raw, ◌⊛◌, ◌$◌, ◌∵◌, !, qed, by, move, keep, use0, split, join}
use types.Part.{agg}
use types.Run.{enter, returns, no_more}
use types.ByLocal.{alloc_all, pass_all, free_all, look_at, sets}
use denote.RattleType.{owns}
use denote.Shadow.{pure_i}
use denote.Triple.Entry.{alive}
use denote.Triple.Walked.{Stays, walk_of}
use Rattle.rope_io.specs.declared.device.failure_log.FailureLog.{FailureLog}
use Rattle.rope_io.specs.contracts.device.failure_log.FailureLog.{the_row as R}
use Rattle.rope_io.specs.contracts.device.failure_log.FailureLog.new as f
use Rattle.rope_io.specs.contracts.device.failure_log.FailureLog.new.Key.{name as key}
use Rattle.rope_io.proofs.device.failure_log.FailureLog.new.Statement.{statement}
use Rattle.rope_io.proofs.device.failure_log.FailureLog.new.Code as code

abbrev stayed : Stays f.ended.signature.params f.ended.kept
stayed = tt

abbrev empty : FailureLog
empty = record { last = None; count = 0 }

pub new_spec : {M : Type 1} → statement M
new_spec 𝓤 𝓛 𝓜 𝓡 wired =
    let c = f.clauses 𝓛 𝓜.mem 𝓡.returns in let W = walk_of 𝓛 f.ended stayed c in
    let v : Val = vstruct vnil in
    proved 𝓛 f.ended stayed c 𝓜 𝓡 tt key code.function (code.unfolded 𝓤 𝓛.H 𝓜 𝓡 wired)
    (λ κs. tt) (λ κs. tt) (λ κs qs bounds a _ are.
    let y : W.Ghost = ((κs, qs, bounds, a, tt), tt) in
    qed 𝓛 ((raw (alive 𝓛 f.signature κs qs) ⊛ ‵ (owns [] a tt)) ∷ ‵ ftrue ∷ []) ∵
    split ! $ keep ! (0 ∷ 1 ∷ []) $ enter ! _ _ _ _ _ $ alloc_all ! (λ l. pass_all ! refl tt $
    sets ! (agg ! (no_more !)) refl (tt, tt) $ returns ! (look_at ! 0 refl) $ free_all ! refl $
    use0 𝓛 (raw (fact 𝓤 (empty.count ≡ 0))) (fact_i 𝓤 (empty.count ≡ 0) (emp 𝓤) refl) $
    use0 𝓛 (raw (fact 𝓤 (empty.last ≡ None))) (fact_i 𝓤 (empty.last ≡ None) (emp 𝓤) refl) $ join ! $
    pure_i ! (R.own_val empty (v ∷ [])) ((λ vss. (tt, tt)), tt) ((tt, (refl, tt)), tt) $
    move ! (2 ∷ 3 ∷ 0 ∷ 1 ∷ []) $ by ! (leaves 𝓛 f.ended stayed c y v empty tt tt)))
