-- `as_mut` lends the value, and the owner follows it.
use Rattle.std.proofs.Common.{◌≡◌, ℕ, ◌+◌, List, [], ◌∷◌, refl, sym, ap, ◌∙◌}
use mir.Syntax.{named, a_type}
use mir.MapTy.{inst_fn}
use mir.Val.{Val, vptr}
use base.Fraction.{full_share}
use base.Logic.{SProp, ent, sep, emp}
use base.Fml.{Fml, GName, ftrue, fsep, flft}
use types.Logic.{sem}
use types.Kit.{‵, raw, ◌⊛◌, some, later, at_ret, ◌$◌, ◌∵◌, !, qed, by, move, keep, drop, split, split3, join, group, fsplit, fsplit3, fjoin, fpick, fpack, pick, await, use0, use1, rewrite, done}
use types.Run.{stop, fld, hop, addr, of_opd, first, blocks, exec, returns, enter}
use types.ByLocal.{alloc_all, pass_all, free_all, look_at, get, through, sets, sets_last, env}
use types.Part.{sub, whole, look_in}
use contract.Monad.{fact, fact_i}
use contract.Running.{tables}
use denote.Exit.{no}
use denote.Follow.{follows, Part, lends_Part}
use denote.Memory.{cell_at, part_at, part_of, mem}
use denote.RattleType.{RattleType, owns}
use denote.Ref.{MutRef, mut_vals, mut_Tells}
use denote.Signature.{types_at, plain, mut_ref_to}
use denote.Param.{param, layouts}
use denote.RawPtr.{Ptr, InBlock, block_of, count_of, at_block, lies_at, ◌+ₚ◌}
use denote.Steps.{nothing, opens}
use denote.Triple.Walked.{Stays, stay_dropped, walk_of, Goes-spent_ref}
use Rattle.std.proofs.raw_atomic.Walks.{proved, leaves}
use Rattle.std.proofs.alloc.Shapes.{after}
use Rattle.std.proofs.RcSteps.{word}
use Rattle.std.specs.Rc.Ownership.{value_offset}
use Rattle.rope_shared.specs.Local.Owning.{counts_one, frees_block}
use Rattle.rope_shared.specs.Local.Sole.{with_value}
use Rattle.rope_shared.proofs.Words.{Z}
use Rattle.rope_shared.proofs.LocalWords.{Soles, sole_out, sole_in}
use Rattle.rope_shared.specs.contracts.local.sole.Sole.as_mut.{ended, clauses}
use Rattle.rope_shared.specs.contracts.local.sole.Sole.as_mut.Key.{name as #self}
use Rattle.rope_shared.proofs.local.sole.Sole.as_mut.Statement.{statement}
use Rattle.rope_shared.proofs.local.sole.Sole.as_mut.Code as code

module _ (R : RattleType) (d : (Soles R).Denot) (b o : ℕ) where
  abbrev counts : Fml
  counts = fsep (counts_one d.ptr) (frees_block R d.ptr)

  -- all of the owner but its value
  abbrev Rest : Fml
  Rest = fsep counts (cell_at full_share (Soles R).mir (word d.ptr ∷ []) b o)

  abbrev at : ℕ
  at = count_of d.ptr + value_offset Z R

  back : {M : Type 1} {𝓤 : seplogic.Ra.Ura.Ura M} (𝓛 : types.Logic.Logic 𝓤) → InBlock d.ptr
      → (w : R.Denot)
      → ent 𝓤 (sep 𝓤 (sem 𝓛 ((mem R).own_at w (block_of d.ptr) at)) (sem 𝓛 Rest)) (sem 𝓛 ((mem
      (Soles R)).own_at (with_value d w) b o))
  unfolding part_of
  back 𝓛 inb w = qed 𝓛 (‵ (part_at R full_share w (block_of d.ptr) at)
      ∷ ‵ Rest ∷ []) ∵ move ! (1 ∷ []) $ fsplit ! $ move ! (2 ∷ 0 ∷ []) $
      rewrite ! 0 (λ (r : Ptr). ‵ (lies_at R full_share (r +ₚ value_offset Z R) w)) (sym (at_block
      d.ptr inb)) refl $
      fjoin ! $ nothing ! $ fpack ! (InBlock d.ptr) (λ _. ftrue) inb $ fjoin ! $
      sole_in R ! d.ptr w $ move ! (1 ∷ 0 ∷ []) $ fjoin ! $
      fpack ! (List Val) (λ us. fsep (cell_at full_share (Soles R).mir us b o) ((Soles R).own_val
      (with_value d w) us)) (word d.ptr ∷ []) $ done !

pub as_mut_spec : {M : Type 1} → statement M
as_mut_spec 𝓤 𝓛 𝓜 𝓡 wired T L =
    let 𝓣 = tables 𝓤 𝓛.H 𝓜 𝓡 𝓡.env in let R : RattleType = param 0 T in let En = ended T in
    let c = clauses T 𝓛 𝓜.mem 𝓡.returns in let at_type = layouts (a_type ∷ []) (T, tt) in
    let fn = inst_fn at_type code.function in let Me = Soles R in
    let hs : Stays En.signature.params En.kept = (
      stay_dropped (mut_ref_to {n = 2} (0 ∷ []) tt
          (plain (λ _. Me))) no,
      tt,
    ) in
    proved 𝓛 En hs c 𝓜 𝓡 (Goes-spent_ref 𝓛 2 (0 ∷ []) tt (plain (λ _. Me)), tt)
    (#self at_type) fn (code.unfolded 𝓤 𝓛.H 𝓜 𝓡 wired (T, tt))
    (λ κs. (mut_vals, tt)) (λ κs. (mut_Tells (named 0) κs.0 Me, tt)) (λ κs qs bounds a g are.
    let κ = κs.0 in let q = qs.0 in let b = a.0.ref_ptr.0 in let o = a.0.ref_ptr.1 in
    let γ = a.0.ghost_name in
    let d = a.0.now in let p = d.ptr in let x = d.value in
    let y : (walk_of 𝓛 En hs c).Ghost = ((κs, qs, bounds, a, (vptr b o ∷ [], tt)), g) in
    let Post : Val → SProp 𝓤 = (walk_of 𝓛 En hs c).post y in
    let b' = block_of p in let o' = at R d b o in let w' : Ptr → Val = word in
    let Cell = λ (us : List Val). ‵ (cell_at full_share Me.mir us b o) in
    qed 𝓛 (((‵ (flft κ q) ⊛ (‵ (flft κs.1.0 qs.1.0) ⊛ ‵ ftrue)) ⊛ ‵ (owns (types_at
    En.signature.params κs) a y.0.4)) ∷ raw ((c κs a).requires g) ∷ []) ∵
    split ! $ split ! $ move ! (2 ∷ []) $ fsplit ! $ fsplit3 ! $ drop ! $
    keep ! (0 ∷ 1 ∷ 3 ∷ 4 ∷ []) $
    enter ! 𝓣.C 𝓣.Λ fn (vptr b o ∷ []) Post $ alloc_all ! (λ l. pass_all ! refl ((tt, tt), tt) $
    let Ev = env fn.locals l in
    opens ! tt Me b o (λ us. move ! (1 ∷ []) $ sole_out R ! d us (λ is. fsplit ! $
    fpick ! (λ inb. drop ! $ fsplit ! $
    -- [the value; the count and the block; the pointer; the open borrow, in three entries]
    rewrite ! 2 Cell (is ∙ ap (λ (r : Ptr). word r ∷ []) (at_block p inb)) refl $
    first ! $ blocks ! $ sets_last ! (addr ! (through ! refl (fld ! refl (hop ! (look_in ! 2 (sub !
    0 refl (whole !))) (fld ! refl (stop !)))))) refl (tt, tt) $
    exec ! 𝓣.C 𝓣.Λ Ev (after 1 fn.body) (at_ret Ev Post) $
    sets ! (of_opd ! (get ! refl)) refl (tt, tt) $
    rewrite ! 2 Cell (ap (λ (r : Ptr). word r ∷ []) (sym (at_block p inb))) refl $
    rewrite ! 0 (λ (r : Ptr). ‵ (lies_at R full_share (r +ₚ value_offset Z R) x)) (at_block p inb)
    refl $
    move ! (1 ∷ 2 ∷ []) $ fjoin ! $ move ! (2 ∷ 3 ∷ 4 ∷ 1 ∷ 0 ∷ []) $ group ! 5 $
    use1 𝓛 (later (some (λ (γ' : GName). raw (Part 𝓛 Me R (with_value d) (named 0) κ q b o b' o' γ
    (sem 𝓛 (Rest R d b o)) (back R d b o 𝓛 inb) x γ'))))
    (lends_Part 𝓛 Me R (with_value d) (named 0) κ q b o b' o' γ (sem 𝓛 (Rest R d b o)) (back R d b o
    𝓛 inb) (Me.coded.code d) (Me.coded.code d) x) $ await ! tt $ pick ! (λ γ'.
    use1 𝓛 (‵ ((MutRef (named 0) κ R).own_val (record {
      ref_ptr = (b', o');
      ghost_name = γ';
      now = x;
    }) (vptr b' o' ∷ [])) ⊛ ‵ (flft κ q) ⊛ ‵ (follows Me R γ γ' (with_value d))) (base.Logic.id⊢ 𝓤
    _) $ split3 ! $
    -- [the result; the token; what follows; the other tokens]
    move ! (1 ∷ 3 ∷ []) $ join ! $ use0 𝓛 (raw (fact 𝓤 (x ≡ x))) (fact_i 𝓤 (x ≡ x) (emp 𝓤) refl) $
    move ! (3 ∷ 0 ∷ []) $ join ! $ nothing ! $ nothing ! $ fjoin ! $
    returns ! (look_at ! 0 refl) $ free_all ! refl $ keep ! (2 ∷ 0 ∷ 3 ∷ 1 ∷ []) $
    by ! (leaves 𝓛 En hs c y (vptr b' o') (record { ref_ptr = (b', o'); ghost_name = γ'; now = x })
    (tt, tt) (tt, tt))))))))
