-- `from_box` takes the pointer out of the box.
use Rattle.std.proofs.Common.{◌≡◌, List, [], ◌∷◌, ◌++◌, refl, sym, subst}
use mir.Syntax.{a_type}
use mir.MapTy.{inst_fn}
use mir.Val.{Val}
use base.Logic.{SProp, ent, emp, id⊢}
use base.Fml.{ftrue, flft}
use prog.Wp.{WpFn}
use types.Kit.{‵, raw, ◌⊛◌, at_ret, ◌$◌, ◌∵◌, !, qed, by, move, keep, drop, split, join, fsplit, fjoin, suffices, use0, use1}
use types.Run.{stop, fld, lit, from, addr, store, of_opd, no_more, and_then, assigns_last, first, blocks, exec, returns, enter}
use types.ByLocal.{alloc_all, pass_all, free_all, look_at, get, get_in, through, take_at, give_at, sets, env}
use types.Part.{agg, sub, whole}
use contract.BorrowLft.{◌⊑◌}
use contract.Monad.{fact, fact_i}
use contract.Running.{tables}
use denote.Exit.{yes, no}
use denote.RattleType.{RattleType, owns}
use denote.Signature.{types_at, plain}
use denote.Param.{param, layouts}
use denote.RawPtr.{block_ptr, null_ptr}
use denote.Steps.{nothing, heard}
use denote.Triple.Walked.{Stays, stay_dropped, walk_of, Goes-dropped}
use Rattle.std.proofs.raw_atomic.Walks.{proved_at, leaves}
use Rattle.std.proofs.alloc.Calls.{Goes-blank}
use Rattle.std.proofs.alloc.Shapes.{after}
use Rattle.std.proofs.Handle.{heap_val}
use Rattle.std.proofs.RcSteps.{word, word-Good}
use Rattle.std.specs.contracts.boxed.Box as box
use Rattle.std.specs.contracts.impls.GlobalAllocator.TheImpl.{ghosts}
use Rattle.rope_shared.specs.Local.Owning.{sole_memory}
use Rattle.rope_shared.specs.contracts.local.sole.Parts as held
use Rattle.rope_shared.proofs.Words.{Z}
use Rattle.rope_shared.proofs.LocalWords.{sole_name, sole_in}
use Rattle.rope_shared.proofs.Boxes.{Boxes, pair, heap_Good, pair_Good, pair_renamed, handle_is, box_out}
use Rattle.rope_shared.proofs.LocalBlocks.{Inner, apart}
use Rattle.rope_shared.specs.contracts.local.sole.Sole.from_box.{ended, clauses}
use Rattle.rope_shared.specs.contracts.local.sole.Sole.from_box.Key.{name as #self}
use Rattle.rope_shared.proofs.local.sole.Sole.from_box.Statement.{statement}
use Rattle.rope_shared.proofs.local.sole.Sole.from_box.Code as code

pub from_box_spec : {M : Type 1} → statement M
from_box_spec 𝓤 𝓛 𝓜 𝓡 wired T L =
    let 𝓣 = tables 𝓤 𝓛.H 𝓜 𝓡 𝓡.env in let R : RattleType = param 0 T in let En = ended T in
    let c = clauses T 𝓛 𝓜.mem 𝓡.returns in let at_type = layouts (a_type ∷ []) (T, tt) in
    let fn = inst_fn at_type code.function in let Theirs = Boxes (Inner T) in
    let hs : Stays En.signature.params En.kept = (
      stay_dropped (plain
          (λ _. Z)) yes,
      (stay_dropped (plain (λ _. Theirs)) no, tt),
    ) in
    proved_at 𝓛 En hs c 𝓜 𝓡 (
      Goes-dropped 𝓛 1 (plain (λ _. Z)) yes
          (λ κs x f. refl),
      (Goes-blank 𝓛 1 (plain (λ _. Theirs)) no (λ κs x f. tt), tt),
    )
    (#self at_type) fn (code.unfolded 𝓤 𝓛.H 𝓜 𝓡 wired (T, tt)) (λ z are.
    let κs = z.0.0 in let κ = κs.0 in let q = z.0.1.0 in let d = z.0.3.1.0 in
    let x = d.value.value in
    let ν = (box.the_type (Inner T) Z ghosts).name in let ω = (held.the_type).name in
    let σ = sole_name R in
    let Post : Val → SProp 𝓤 = (walk_of 𝓛 En hs c).post z in
    let Run : List Val → SProp 𝓤 = λ ws. WpFn 𝓤 𝓛.H 𝓣.C 𝓣.Λ fn ws Post in
    qed 𝓛 (((‵ (flft κ q) ⊛ ‵ ftrue) ⊛ ‵ (owns (types_at En.signature.params κs) z.0.3 z.0.4))
    ∷ raw ((c κs z.0.3).requires z.1) ∷ []) ∵ split ! $ split ! $ move ! (3 ∷ []) $
    use1 𝓛 (raw (fact 𝓤 (κ ⊑ T.lives)) ⊛ (raw (fact 𝓤 (d.value.strong ≡ 1)) ⊛ raw (fact 𝓤
    (d.value.weak ≡ 1)))) (id⊢ 𝓤 _) $ split ! $ drop ! $ split ! $
    heard ! (d.value.strong ≡ 1) (λ one. heard ! (d.value.weak ≡ 1) (λ one'.
    -- [the token; nothing; the allocator and the box]
    move ! (2 ∷ []) $ fsplit ! $ handle_is ! z.0.3.0 z.0.4.0 (λ e₀. fsplit ! $
    box_out (Inner T) ! d z.0.4.1.0 (λ b o e₁.
    let p = block_ptr b o in let w : Val = pair p in let ws : List Val = heap_val ∷ w ∷ [] in
    suffices ! (Run ws) (subst (λ (us : List Val). ent 𝓤 (Run ws) (Run us)) (sym
    (λ i. e₀ i ++ (e₁ i ++ []))) (id⊢ 𝓤 (Run ws))) $
    enter ! 𝓣.C 𝓣.Λ fn ws Post $ alloc_all !
    (λ l. pass_all ! refl (heap_Good, (pair_Good ν p, tt)) $ let Ev = env fn.locals l in
    sets ! (agg ! (and_then ! (lit ! tt) (and_then ! (get ! refl) (no_more !)))) refl (pair_Good ω
    null_ptr) $
    first ! $ blocks ! $ sets ! (addr ! (from ! (stop !))) refl (tt, tt) $
    sets ! (of_opd ! (get ! refl)) refl (pair_Good ν p) $
    take_at ! 3 $ pair_renamed ! ω ν (l 3) 0 (pair null_ptr) $
    assigns_last ! (of_opd ! (get ! refl)) (through ! refl (stop !)) (store ! 0 refl (pair_Good ν
    p)) $
    pair_renamed ! ν ω (l 3) 0 w $ give_at ! 3 $
    exec ! 𝓣.C 𝓣.Λ Ev (after 2 fn.body) (at_ret Ev Post) $
    sets ! (of_opd ! (get_in ! (fld ! refl (stop !)) (sub ! 0 refl (whole !)))) refl (tt, tt) $
    sets ! (of_opd ! (get ! refl)) refl (tt, tt) $
    sets ! (agg ! (and_then ! (get ! refl) (no_more !))) refl (word-Good σ p) $
    use1 𝓛 (‵ (sole_memory R p x)) (apart T L 𝓛 b o d.alloc d.value one one') $ sole_in R ! p x $
    move ! (2 ∷ 3 ∷ []) $ join ! $ use0 𝓛 (raw (fact 𝓤 (x ≡ x))) (fact_i 𝓤 (x ≡ x) (emp 𝓤) refl) $
    nothing ! $ nothing ! $ fjoin ! $ nothing ! $ fjoin ! $
    returns ! (look_at ! 0 refl) $ free_all ! refl $ keep ! (2 ∷ 0 ∷ 3 ∷ 1 ∷ []) $
    by ! (leaves 𝓛 En hs c z (word p) (record { ptr = p; value = x }) (tt, (tt, tt)) (
      tt,
      (
        tt,
        tt,
      ),
    ))))))))
