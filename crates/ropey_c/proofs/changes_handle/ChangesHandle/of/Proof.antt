-- `of` moves the two fields.
use Rattle.ropey_c.proofs.WalkSteps.{◌≡◌, [], ◌∷◌, refl, Val, SProp, emp, ftrue, ‵, raw, ◌⊛◌, ◌$◌, ◌∵◌, !, qed, by, move, keep, drop, split, fsplit, fjoin, use0, fact, fact_i, tables, yes, RattleType, owns, ptr_val, types_at, plain, nothing, Stays, stay_dropped, walk_of, Goes-dropped, proved_at, leaves}
use Rattle.ropey_c.proofs.BoxOrNull.{pair, moves}
use Rattle.ropey_c.specs.Handles.{held_at}
use Rattle.ropey_c.specs.contracts.held.Held as held
use Rattle.rope_changes.specs.contracts.ChangeSet as value
use Rattle.ropey_c.specs.contracts.changes_handle.ChangesHandle.of.{ended, clauses}
use Rattle.ropey_c.specs.contracts.changes_handle.ChangesHandle.of.Key.{name as #self}
use Rattle.ropey_c.proofs.changes_handle.ChangesHandle.of.Statement.{statement}
use Rattle.ropey_c.proofs.changes_handle.ChangesHandle.of.Code as code

abbrev From : RattleType
From = held.the_row value.the_row

abbrev stayed : Stays ended.signature.params ended.kept
stayed = (stay_dropped (plain (λ _. From)) yes, tt)

pub of_spec : {M : Type 1} → statement M
of_spec 𝓤 𝓛 𝓜 𝓡 wired =
    let 𝓣 = tables 𝓤 𝓛.H 𝓜 𝓡 𝓡.env in let c = clauses 𝓛 𝓜.mem 𝓡.returns in
    proved_at 𝓛 ended stayed c 𝓜 𝓡 (
      Goes-dropped 𝓛 0 (plain (λ _. From)) yes (λ κs x f. refl),
      tt,
    ) #self code.function (code.unfolded 𝓤 𝓛.H 𝓜 𝓡 wired) (λ z are.
    let κs = z.0.0 in let d = z.0.3.0 in
    let Post : Val → SProp 𝓤 = (walk_of 𝓛 ended stayed c).post z in
    qed 𝓛 ((‵ ftrue ⊛ ‵ (owns (types_at ended.signature.params κs) z.0.3 z.0.4)) ∷ raw
    ((c κs z.0.3).requires z.1) ∷ []) ∵ split ! $ drop ! $ fsplit ! $
    move ! (1 ∷ []) $ drop ! $ move ! (1 ∷ []) $ drop ! $
    moves ! _ _ 𝓣.C 𝓣.Λ d.at d.alloc (held_at value.the_row d.alloc d.at d.value) z.0.4.0 Post
    (λ h.
    use0 𝓛 (raw (fact 𝓤 (d.value ≡ d.value))) (fact_i 𝓤 (d.value ≡ d.value) (emp 𝓤) refl) $
    nothing ! $ nothing ! $ fjoin ! $ nothing ! $ keep ! (0 ∷ 1 ∷ 3 ∷ 2 ∷ []) $
    by ! (leaves 𝓛 ended stayed c z (pair (ptr_val d.at) h) (record {
      ptr = d.at;
      alloc = d.alloc;
      held = d.value;
    }) (tt, tt) (tt, tt))))
