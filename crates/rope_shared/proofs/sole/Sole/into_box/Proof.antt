-- `into_box` reads the value and the allocator, writes the block anew, and reads its pointer as a
-- box.
use Rattle.std.proofs.Common.{◌≡◌, ◌+◌, List, [], ◌∷◌, ◌++◌, refl, sym, ap, subst}
use mir.Syntax.{a_type}
use mir.MapTy.{inst_fn}
use mir.Val.{Val}
use base.Fraction.{full_share}
use base.Logic.{SProp, ent, emp, id⊢}
use base.Fml.{ftrue, flft, fsep}
use prog.Wp.{WpFn}
use types.Kit.{‵, raw, ◌⊛◌, at_ret, ◌$◌, ◌∵◌, !, qed, by, move, keep, drop, split, join, fsplit, fjoin, fpick, rewrite, suffices, use0, use3}
use types.Run.{stop, fld, lit, from, addr, load, look, init, of_opd, no_more, and_then, assigns, first, blocks, exec, returns, enter}
use types.ByLocal.{alloc_all, pass_all, free_all, look_at, get, get_in, through, take_at, give_at, sets, sets_last, is, env}
use types.Part.{agg, sub, whole}
use contract.Monad.{fact, fact_i}
use contract.Running.{tables}
use denote.Exit.{no}
use denote.RattleType.{RattleType, owns}
use denote.Signature.{types_at, plain}
use denote.Param.{param, layouts}
use denote.RawPtr.{Ptr, block_ptr, ptr_val, block_of, count_of, at_block, lies_at}
use denote.Steps.{nothing}
use denote.Triple.Walked.{Stays, stay_dropped, walk_of, Goes-dropped}
use Rattle.std.proofs.raw_atomic.Walks.{proved_at, leaves}
use Rattle.std.proofs.alloc.Shapes.{after}
use Rattle.std.proofs.RcSteps.{word, word-Good}
use Rattle.std.specs.Box.Ownership.{box_owns}
use Rattle.std.specs.Thread.Scope.{word_at}
use Rattle.std.specs.contracts.boxed.Box as box
use Rattle.std.specs.contracts.impls.GlobalAllocator.TheImpl.{ghosts}
use Rattle.rope_shared.specs.Owning.{value_of, frees_block}
use Rattle.rope_shared.specs.contracts.sole.Parts as held
use Rattle.rope_shared.specs.contracts.sole.Inner as inner
use Rattle.rope_shared.specs.contracts.sole.Sole as sole
use Rattle.rope_shared.proofs.Words.{Z, Soles, sole_out}
use Rattle.rope_shared.proofs.Boxes.{pair, heap_Good, pair_Good, pair_renamed, box_in}
use Rattle.rope_shared.proofs.Blocks.{Inner, inner_Good, split_pair, roomed, rebuilt}
use Rattle.rope_shared.specs.contracts.sole.Sole.into_box.{ended, clauses}
use Rattle.rope_shared.specs.contracts.sole.Sole.into_box.Key.{name as #self}
use Rattle.rope_shared.proofs.sole.Sole.into_box.Statement.{statement}
use Rattle.rope_shared.proofs.sole.Sole.into_box.Code as code

pub into_box_spec : {M : Type 1} → statement M
into_box_spec 𝓤 𝓛 𝓜 𝓡 wired T L =
    let 𝓣 = tables 𝓤 𝓛.H 𝓜 𝓡 𝓡.env in let R : RattleType = param 0 T in let En = ended T in
    let c = clauses T 𝓛 𝓜.mem 𝓡.returns in let at_type = layouts (a_type ∷ []) (T, tt) in
    let fn = inst_fn at_type code.function in let Me = Soles R in
    let hs : Stays En.signature.params En.kept = (stay_dropped (plain (λ _. Me)) no, tt) in
    proved_at 𝓛 En hs c 𝓜 𝓡 (Goes-dropped 𝓛 1 (plain (λ _. Me)) no (λ κs x f. refl), tt)
    (#self at_type) fn (code.unfolded 𝓤 𝓛.H 𝓜 𝓡 wired (T, tt)) (λ z are.
    let κs = z.0.0 in let κ = κs.0 in let q = z.0.1.0 in let d = z.0.3.0 in let p = d.ptr in
    let x = d.value in let w : Val = word p in
    let ν = (box.the_type (Inner T) Z ghosts).name in let ω = (held.the_type).name in
    let ι = (inner.the_type R).name in
    let b = block_of p in let o = count_of p in let p' : Ptr = block_ptr b o in
    let w' : Val = pair p' in
    let Post : Val → SProp 𝓤 = (walk_of 𝓛 En hs c).post z in
    let Run : List Val → SProp 𝓤 = λ ws. WpFn 𝓤 𝓛.H 𝓣.C 𝓣.Λ fn ws Post in
    qed 𝓛 (((‵ (flft κ q) ⊛ ‵ ftrue) ⊛ ‵ (owns (types_at En.signature.params κs) z.0.3 z.0.4))
    ∷ raw ((c κs z.0.3).requires z.1) ∷ []) ∵ split ! $ split ! $ move ! (3 ∷ []) $ drop ! $
    -- [the token; nothing; the owner]
    move ! (2 ∷ []) $ fsplit ! $ sole_out R ! d z.0.4.0 (λ same. fsplit ! $ fpick ! (λ inb. drop ! $
    rewrite ! 0 (λ (r : Ptr). ‵ (fsep (lies_at R full_share (value_of R r) x) (fsep (word_at
    (block_of r) (count_of r + 0) 1) (frees_block R r)))) (at_block p inb) refl $
    split_pair T L b o ! x (λ h v good.
    suffices ! (Run (w ∷ [])) (subst (λ (us : List Val). ent 𝓤 (Run (w ∷ [])) (Run us)) (sym
    (λ i. same i ++ [])) (id⊢ 𝓤 (Run (w ∷ [])))) $
    enter ! 𝓣.C 𝓣.Λ fn (w ∷ []) Post $ alloc_all !
    (λ l. pass_all ! refl (word-Good (sole.the_type R).name p, tt) $ let Ev = env fn.locals l in
    sets ! (is ! (of_opd ! (get_in ! (fld ! refl (stop !)) (sub ! 0 refl (whole !)))) (ap ptr_val
    (at_block p inb))) refl (tt, tt) $
    first ! $ blocks ! $ sets ! (addr ! (through ! refl (fld ! refl (stop !)))) refl (tt, tt) $
    sets ! (of_opd ! (load ! (through ! refl (stop !)) (look ! 1 refl))) refl heap_Good $
    sets ! (addr ! (through ! refl (fld ! refl (stop !)))) refl (tt, tt) $
    sets ! (of_opd ! (load ! (through ! refl (stop !)) (look ! 0 refl))) refl good $
    sets ! (of_opd ! (get ! refl)) refl good $
    sets ! (agg ! (and_then ! (lit ! tt) (and_then ! (get ! refl) (and_then ! (get ! refl) (no_more
    !))))) refl (inner_Good T ι v good) $
    roomed T L b o ! v $ assigns ! (of_opd ! (get ! refl)) (through ! refl (stop !)) (init ! 0 refl
    (inner_Good T ι v good)) $
    sets ! (agg ! (and_then ! (get ! refl) (and_then ! (get ! refl) (no_more !)))) refl (pair_Good ω
    p') $
    sets ! (addr ! (from ! (stop !))) refl (tt, tt) $
    take_at ! 5 $ pair_renamed ! ω ν (l 5) 0 w' $
    sets_last ! (of_opd ! (load ! (through ! refl (stop !)) (look ! 0 refl))) refl (pair_Good ν p')
    $
    pair_renamed ! ν ω (l 5) 0 w' $ give_at ! 5 $
    exec ! 𝓣.C 𝓣.Λ Ev (after 2 fn.body) (at_ret Ev Post) $
    sets ! (of_opd ! (get ! refl)) refl (pair_Good ν p') $
    -- [the block; the token of the allocator; the value; nothing; the token; nothing]
    use3 𝓛 (‵ (box_owns (ghosts.dealloc_token h) (Inner T) p' (record {
      count = 1;
      alloc = h;
      value
          = x;
    }))) (rebuilt T L 𝓛 b o h x v) $
    box_in (Inner T) ! b o h (record { count = 1; alloc = h; value = x }) $
    move ! (2 ∷ 3 ∷ []) $ join ! $ use0 𝓛 (raw (fact 𝓤 (x ≡ x))) (fact_i 𝓤 (x ≡ x) (emp 𝓤) refl) $
    nothing ! $ nothing ! $ fjoin ! $
    returns ! (look_at ! 0 refl) $ free_all ! refl $ keep ! (2 ∷ 0 ∷ 3 ∷ 1 ∷ []) $
    by ! (leaves 𝓛 En hs c z w' (record {
      ptr = p';
      alloc = h;
      value = record {
        count = 1;
        alloc =
            h;
        value = x;
      };
    }) (tt, tt) (tt, tt)))))))
