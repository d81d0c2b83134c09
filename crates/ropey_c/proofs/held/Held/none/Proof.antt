-- `none` is null, and owns nothing.
use Rattle.ropey_c.proofs.WalkSteps.{◌≡◌, [], ◌∷◌, refl, List, ◌++◌, sym, subst, a_type, inst_fn, Val, SProp, emp, ent, id⊢, ftrue, flft, WpFn, ‵, raw, ◌⊛◌, ◌$◌, ◌∵◌, !, qed, by, move, keep, split, fsplit, fjoin, use0, suffices, feq_i, lit, no_more, and_then, returns, enter, alloc_all, pass_all, free_all, look_at, get, sets, agg, fact, fact_i, tables, yes, param, layouts, RattleType, owns, ptr_val, Ptr, null_ptr, types_at, plain, nothing, Stays, stay_dropped, walk_of, Goes-dropped, proved_at, leaves, handle_tells, Option, None}
use base.Fml.{feq}
use Rattle.ropey_c.proofs.BoxOrNull.{Z, al, pair, handle_good, owner_in}
use Rattle.ropey_c.specs.contracts.held.Held.none.{ended, clauses}
use Rattle.ropey_c.specs.contracts.held.Held.none.Key.{name as #self}
use Rattle.ropey_c.proofs.held.Held.none.Statement.{statement}
use Rattle.ropey_c.proofs.held.Held.none.Code as code

pub none_spec : {M : Type 1} → statement M
none_spec 𝓤 𝓛 𝓜 𝓡 wired T L =
    let 𝓣 = tables 𝓤 𝓛.H 𝓜 𝓡 𝓡.env in let En = ended T in let c = clauses T 𝓛 𝓜.mem 𝓡.returns in
    let R : RattleType = param 0 T in
    let inst = layouts (a_type ∷ []) (T, tt) in let fn = inst_fn inst code.function in
    let hs : Stays En.signature.params En.kept = (stay_dropped (plain (λ _. Z)) yes, tt) in
    proved_at 𝓛 En hs c 𝓜 𝓡 (Goes-dropped 𝓛 1 (plain (λ _. Z)) yes (λ κs x f. refl), tt)
    (#self inst) fn (code.unfolded 𝓤 𝓛.H 𝓜 𝓡 wired (T, tt)) (λ z are.
    let κs = z.0.0 in let qs = z.0.1 in let a = z.0.3.0 in
    let Post : Val → SProp 𝓤 = (walk_of 𝓛 En hs c).post z in
    let Run : List Val → SProp 𝓤 = λ ws. WpFn 𝓤 𝓛.H 𝓣.C 𝓣.Λ fn ws Post in
    let nil : Option R.Denot = None in
    qed 𝓛 (((‵ (flft κs.0 qs.0) ⊛ ‵ ftrue) ⊛ ‵ (owns (types_at En.signature.params κs) z.0.3 z.0.4))
    ∷ raw ((c κs z.0.3).requires z.1) ∷ []) ∵ split ! $ move ! (1 ∷ []) $ fsplit !
    $ handle_tells al ! a z.0.4.0 (λ h is fits.
    suffices ! (Run (h ∷ [])) (subst (λ (us : List Val). ent 𝓤 (Run (h ∷ [])) (Run us))
    (sym (λ i. is i ++ [])) (id⊢ 𝓤 (Run (h ∷ [])))) $
    enter ! 𝓣.C 𝓣.Λ fn (h ∷ []) Post $ alloc_all ! (λ l. pass_all ! refl (fits, tt) $
    sets ! (agg ! (and_then ! (lit ! tt) (and_then ! (get ! refl) (no_more !)))) refl
    (handle_good null_ptr h fits) $
    feq_i ! Ptr null_ptr null_ptr refl $ owner_in ! null_ptr h a (feq Ptr null_ptr null_ptr) $
    use0 𝓛 (raw (fact 𝓤 (nil ≡ nil))) (fact_i 𝓤 (nil ≡ nil) (emp 𝓤) refl) $
    nothing ! $ nothing ! $ fjoin ! $
    returns ! (look_at ! 0 refl) $ free_all ! refl $ keep ! (4 ∷ 0 ∷ 2 ∷ 1 ∷ []) $
    by ! (leaves 𝓛 En hs c z (pair (ptr_val null_ptr) h) (record {
      at = null_ptr;
      alloc = a;
      value = nil;
    }) (tt, tt) (tt, tt)))))
