-- `put` moves an `Rc` away, writes the owner's pointer there, and lends the value.
use Rattle.std.proofs.Common.{◌≡◌, ℕ, ◌+◌, List, [], ◌∷◌, ◌++◌, refl, sym, ap, subst}
use mir.Syntax.{named, a_type}
use mir.MapTy.{inst_fn}
use mir.Val.{Val, vptr, vcons, vnil}
use base.Fraction.{full_share}
use base.Logic.{SProp, ent, sep, emp, id⊢}
use base.Fml.{Fml, GName, ftrue, fsep, fat, flft}
use prog.Wp.{WpFn}
use types.Logic.{sem}
use types.Kit.{‵, raw, ◌⊛◌, some, later, at_ret, ◌$◌, ◌∵◌, !, qed, by, move, keep, drop, split, split3, join, group, fsplit, fsplit3, fjoin, fjoin3, feq_i, feq_l, fpick, fpack, pick, await, suffices, use0, use1, rewrite, done}
use types.Run.{stop, fld, lit, from, addr, load, look, store, of_opd, no_more, and_then, assigns, first, blocks, exec, returns, enter}
use types.ByLocal.{alloc_all, pass_all, free_all, look_at, get, get_in, through, take_at, give_at, sets, sets_last, is, env}
use types.Part.{agg, sub, whole}
use types.Match.{live}
use contract.BorrowLft.{◌⊑◌}
use contract.Monad.{fact, fact_i}
use contract.Running.{tables}
use denote.Exit.{no}
use denote.Follow.{follows, Part, lends_Part}
use denote.Memory.{cell_at, part_at, part_of, lone, mem}
use denote.RattleType.{RattleType, owns}
use denote.Ref.{MutRef}
use denote.Signature.{types_at, plain, mut_ref_to}
use denote.Param.{param, layouts}
use denote.RawPtr.{Ptr, InBlock, block_of, count_of, ptr_val, at_block, lies_at, ◌+ₚ◌}
use denote.Steps.{nothing, heard, opens, closes}
use denote.Triple.Walked.{Stays, stay_dropped, stay_ref, walk_of, Goes-dropped, Goes-ref, Goes-spent_ref}
use Rattle.std.proofs.raw_atomic.Walks.{proved_at, leaves}
use Rattle.std.proofs.alloc.Shapes.{after}
use Rattle.std.proofs.option.Made.{Some-of}
use Rattle.std.proofs.RcSteps.{word, word_ty, word-Good, some_Good}
use Rattle.std.specs.Prelude.{Some, IsNone}
use Rattle.std.specs.Rc.Ownership.{rc_owns, sole_owns, value_offset}
use Rattle.std.specs.contracts.impls.GlobalAllocator.TheImpl.{ghosts}
use Rattle.std.specs.contracts.option.Option as Opt
use Rattle.rope_shared.specs.Local.Owning.{counts_one, frees_block}
use Rattle.rope_shared.specs.Local.Sole.{rc_of}
use Rattle.rope_shared.specs.contracts.local.sole.Word as held
use Rattle.rope_shared.proofs.Words.{Z}
use Rattle.rope_shared.proofs.Pointers.{renamed, none_out}
use Rattle.rope_shared.proofs.LocalWords.{Soles, Rcs, sole_name, rc_name, sole_out, rc_out, rc_in, of_sole, of_sole_memory}
use Rattle.rope_shared.specs.contracts.local.sole.Sole.put.{ended, clauses}
use Rattle.rope_shared.specs.contracts.local.sole.Sole.put.Key.{name as #self}
use Rattle.rope_shared.proofs.local.sole.Sole.put.Statement.{statement}
use Rattle.rope_shared.proofs.local.sole.Sole.put.Code as code

module _ (R : RattleType) (d : (Soles R).Denot) (b o : ℕ) where
  -- all of the `Rc` but its value
  abbrev Rest : Fml
  Rest = fsep (fsep (counts_one d.ptr) (frees_block R d.ptr)) (cell_at full_share (Rcs R).mir (word
      d.ptr ∷ []) b o)

  abbrev at : ℕ
  at = count_of d.ptr + value_offset Z R

  back : {M : Type 1} {𝓤 : seplogic.Ra.Ura.Ura M} (𝓛 : types.Logic.Logic 𝓤) → InBlock d.ptr
      → (w : R.Denot)
      → ent 𝓤 (sep 𝓤 (sem 𝓛 ((mem R).own_at w (block_of d.ptr) at)) (sem 𝓛 Rest)) (sem 𝓛 ((mem (Rcs
      R)).own_at (rc_of d w) b o))
  unfolding part_of
  back 𝓛 inb w = qed 𝓛 (‵ (part_at R full_share w (block_of d.ptr) at)
      ∷ ‵ Rest ∷ []) ∵ move ! (1 ∷ []) $ fsplit ! $ move ! (2 ∷ 0 ∷ []) $
      rewrite ! 0 (λ (r : Ptr). ‵ (lies_at R full_share (r +ₚ value_offset Z R) w)) (sym (at_block
      d.ptr inb)) refl $
      fjoin ! $ nothing ! $ fpack ! (InBlock d.ptr) (λ _. ftrue) inb $ fjoin ! $
      use1 𝓛 (‵ (sole_owns Z ghosts.dealloc_token R d.ptr w)) (of_sole_memory R 𝓛 d.ptr w) $
      use1 𝓛 (‵ (rc_owns Z ghosts.dealloc_token R d.ptr w)) (of_sole R 𝓛 d.ptr w) $
      rc_in R ! d.ptr w $ move ! (1 ∷ 0 ∷ []) $ fjoin ! $
      fpack ! (List Val) (λ us. fsep (cell_at full_share (Rcs R).mir us b o) ((Rcs R).own_val (rc_of
      d w) us)) (word d.ptr ∷ []) $ done !

pub put_spec : {M : Type 1} → statement M
put_spec 𝓤 𝓛 𝓜 𝓡 wired T L =
    let 𝓣 = tables 𝓤 𝓛.H 𝓜 𝓡 𝓡.env in let R : RattleType = param 0 T in let En = ended T in
    let c = clauses T 𝓛 𝓜.mem 𝓡.returns in let at_type = layouts (a_type ∷ []) (T, tt) in
    let fn = inst_fn at_type code.function in let Me = Soles R in let Theirs = Rcs R in
    let Old = Opt.the_row Theirs in
    let hs : Stays En.signature.params En.kept = (
      stay_dropped (mut_ref_to {n = 3} (0 ∷ []) tt (plain (λ _. Theirs))) no,
      (stay_dropped (plain (λ _. Me)) no, (stay_ref (1 ∷ []) tt (plain (λ _. Old)), tt)),
    ) in
    proved_at 𝓛 En hs c 𝓜 𝓡 (
      Goes-spent_ref 𝓛 3 (0 ∷ []) tt (plain (λ _. Theirs)),
      (
        Goes-dropped 𝓛 3 (plain (λ _. Me)) no (λ κs x f. refl),
        (Goes-ref 𝓛 3 1 tt (plain (λ _. Old)), tt),
      ),
    )
    (#self at_type) fn (code.unfolded 𝓤 𝓛.H 𝓜 𝓡 wired (T, tt)) (λ z are.
    let κs = z.0.0 in let κ = κs.0 in let q = z.0.1.0 in let a = z.0.3 in let vss = z.0.4 in
    let b = a.0.ref_ptr.0 in let o = a.0.ref_ptr.1 in let γ = a.0.ghost_name in
    let was = a.0.now in let d = a.1.0 in let p = d.ptr in let x = d.value in
    let to = a.1.1.0 in let b₂ = to.ref_ptr.0 in let o₂ = to.ref_ptr.1 in
    let b' = block_of p in let o' = at R d b o in
    let ν = rc_name R in let ω = (held.the_type).name in let σ = sole_name R in
    let w : Val = word p in let w₀ : Val = word was.ptr in
    let good = some_Good (word_ty ν) w₀ (word-Good ν was.ptr) in
    let v₂ : Val = live 1 (vcons w₀ vnil) in let τ = word_ty ν in let τ₂ = lone Old.mir in
    let ws : List Val = vptr b o ∷ w ∷ vptr b₂ o₂ ∷ [] in
    let Post : Val → SProp 𝓤 = (walk_of 𝓛 En hs c).post z in
    let Run : List Val → SProp 𝓤 = λ vs. WpFn 𝓤 𝓛.H 𝓣.C 𝓣.Λ fn vs Post in
    qed 𝓛 (((‵ (flft κ q) ⊛ (‵ (flft κs.1.0 z.0.1.1.0) ⊛ (‵ (flft κs.1.1.0 z.0.1.1.1.0) ⊛ ‵ ftrue)))
    ⊛ ‵ (owns (types_at En.signature.params κs) a vss)) ∷ raw ((c κs a).requires z.1) ∷ []) ∵
    split ! $ move ! (2 ∷ []) $
    use1 𝓛 (raw (fact 𝓤 (κs.1.1.0 ⊑ T.lives)) ⊛ raw (fact 𝓤 (IsNone to.now))) (id⊢ 𝓤 _) $ split ! $
    drop ! $ heard ! (IsNone to.now) (λ empty. split ! $ move ! (1 ∷ []) $ split ! $
    -- [a token; the others; the first token; the parameters]
    move ! (3 ∷ []) $ fsplit ! $ move ! (1 ∷ []) $ fsplit ! $
    sole_out R ! d vss.1.0 (λ e₁. fsplit ! $ fpick ! (λ inb. drop ! $ fsplit ! $
    move ! (2 ∷ []) $ fsplit ! $ fsplit3 ! $ feq_l ! (λ e₂.
    move ! (5 ∷ []) $ fsplit3 ! $ feq_l ! (λ e₀.
    -- [the first place; the second; nothing; the value; the counts; the second token; the others;
    --  the first token]
    suffices ! (Run ws) (subst (λ (us : List Val). ent 𝓤 (Run ws) (Run us)) (sym
    (λ i. e₀ i ++ (e₁ i ++ (e₂ i ++ [])))) (id⊢ 𝓤 (Run ws))) $
    enter ! 𝓣.C 𝓣.Λ fn ws Post $ alloc_all !
    (λ l. pass_all ! refl ((tt, tt), (word-Good σ p, ((tt, tt), tt))) $ let Ev = env fn.locals l in
    move ! (2 ∷ 3 ∷ 7 ∷ []) $ opens ! tt Old b₂ o₂ (λ us₂. move ! (1 ∷ []) $
    none_out Theirs ! to.now us₂ empty (λ none.
    rewrite ! 0 (λ (us : List Val). ‵ (cell_at full_share Old.mir us b₂ o₂)) none refl $
    move ! (4 ∷ 5 ∷ 10 ∷ []) $ opens ! tt Theirs b o (λ us. move ! (1 ∷ []) $
    rc_out R ! was us (λ e.
    rewrite ! 1 (λ (us : List Val). ‵ (cell_at full_share Theirs.mir us b o)) e refl $
    -- [the old owner; its cell and open borrow, in four entries; the second place, in four entries;
    --  nothing; the value; the counts; the other tokens]
    move ! (5 ∷ 1 ∷ []) $ use1 𝓛 (‵ (fat full_share τ₂ b₂ o₂ (live 0 vnil))) (𝓛.laws.raw_at
    full_share τ₂ b₂ o₂ (live 0 vnil)) $
    move ! (1 ∷ 0 ∷ []) $ use1 𝓛 (‵ (fat full_share τ b o w₀)) (𝓛.laws.raw_at full_share τ b o w₀) $
    sets ! (is ! (of_opd ! (get_in ! (fld ! refl (stop !)) (sub ! 0 refl (whole !)))) (ap ptr_val
    (at_block p inb))) refl (tt, tt) $
    sets ! (is ! (agg ! (and_then ! (get ! refl) (no_more !))) (ap word (sym (at_block p inb))))
    refl (word-Good ω p) $
    first ! $ blocks ! $ sets ! (addr ! (through ! refl (stop !))) refl (tt, tt) $
    sets ! (addr ! (through ! refl (stop !))) refl (tt, tt) $
    sets ! (of_opd ! (load ! (through ! refl (stop !)) (look ! 0 refl))) refl (word-Good ν
    was.ptr) $
    sets ! (agg ! (and_then ! (lit ! tt) (and_then ! (get ! refl) (no_more !)))) refl good $
    assigns ! (of_opd ! (get ! refl)) (through ! refl (stop !)) (store ! 1 refl good) $
    sets ! (addr ! (through ! refl (stop !))) refl (tt, tt) $
    sets ! (addr ! (from ! (stop !))) refl (tt, tt) $
    take_at ! 5 $ renamed ! ω ν (l 5) 0 w $
    sets ! (of_opd ! (load ! (through ! refl (stop !)) (look ! 0 refl))) refl (word-Good ν p) $
    renamed ! ν ω (l 5) 0 w $ give_at ! 5 $
    assigns ! (of_opd ! (get ! refl)) (through ! refl (stop !)) (store ! 0 refl (word-Good ν p)) $
    sets_last ! (addr ! (through ! refl (fld ! refl (stop !)))) refl (tt, tt) $
    exec ! 𝓣.C 𝓣.Λ Ev (after 3 fn.body) (at_ret Ev Post) $
    sets ! (of_opd ! (get ! refl)) refl (tt, tt) $
    use1 𝓛 (‵ (cell_at full_share Theirs.mir (w ∷ []) b o)) (𝓛.laws.at_raw full_share τ b o w) $
    move ! (1 ∷ []) $
    use1 𝓛 (‵ (cell_at full_share Old.mir (v₂ ∷ []) b₂ o₂)) (𝓛.laws.at_raw full_share τ₂ b₂ o₂ v₂) $
    move ! (2 ∷ []) $ rc_in R ! was.ptr was.value $
    use1 𝓛 (‵ (Old.own_val (Some was) (v₂ ∷ []))) (Some-of 𝓛 Theirs was w₀) $
    move ! (1 ∷ 0 ∷ 6 ∷ 7 ∷ 8 ∷ []) $ closes ! tt Old (Some was) (v₂ ∷ []) b₂ o₂ $
    -- [the second place, in two entries; its token; the cell and the open borrow of the first;
    --  nothing; the value; the counts; the other tokens]
    move ! (9 ∷ 3 ∷ []) $ fjoin ! $ move ! (8 ∷ []) $
    rewrite ! 0 (λ (r : Ptr). ‵ (lies_at R full_share (r +ₚ value_offset Z R) x)) (at_block p inb)
    refl $ move ! (5 ∷ 6 ∷ 7 ∷ 0 ∷ 1 ∷ []) $ group ! 5 $
    use1 𝓛 (later (some (λ (γ' : GName). raw (Part 𝓛 Theirs R (rc_of d) (named 0) κ q b o b' o' γ
    (sem 𝓛 (Rest R d b o)) (back R d b o 𝓛 inb) x γ'))))
    (lends_Part 𝓛 Theirs R (rc_of d) (named 0) κ q b o b' o' γ (sem 𝓛 (Rest R d b o)) (back R d b o
    𝓛 inb) (Theirs.coded.code was) (Theirs.coded.code was) x) $ await ! tt $ pick ! (λ γ'.
    use1 𝓛 (‵ ((MutRef (named 0) κ R).own_val (record {
      ref_ptr = (b', o');
      ghost_name = γ';
      now = x;
    }) (vptr b' o' ∷ [])) ⊛ ‵ (flft κ q) ⊛ ‵ (follows Theirs R γ γ' (rc_of d))) (id⊢ 𝓤 _) $
    split3 ! $
    -- [the result; the token; what follows; the second place; its token; nothing; the other tokens]
    move ! (5 ∷ 7 ∷ []) $ join ! $ move ! (2 ∷ 0 ∷ []) $ join ! $
    feq_i ! (List Val) vss.1.1.0 (vptr b₂ o₂ ∷ []) e₂ $ move ! (0 ∷ 4 ∷ 5 ∷ []) $ fjoin3 ! $
    move ! (0 ∷ 4 ∷ []) $ fjoin ! $ nothing ! $ fjoin ! $ nothing ! $ fjoin ! $
    use0 𝓛 (raw (fact 𝓤 (x ≡ x))) (fact_i 𝓤 (x ≡ x) (emp 𝓤) refl) $
    use0 𝓛 (raw (fact 𝓤 (Some was ≡ Some was))) (fact_i 𝓤 (Some was ≡ Some was) (emp 𝓤) refl) $
    join ! $ move ! (4 ∷ 0 ∷ []) $ join ! $
    returns ! (look_at ! 0 refl) $ free_all ! refl $ keep ! (2 ∷ 1 ∷ 3 ∷ 0 ∷ []) $
    by ! (leaves 𝓛 En hs c z (vptr b' o') (record { ref_ptr = (b', o'); ghost_name = γ'; now = x })
    (tt, (tt, (Some was, tt))) (tt, (tt, (tt, tt))))))))))))))))
