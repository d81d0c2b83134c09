-- A lent pointer, whatever it lends: a share of the memory in which the pointer lies, and a `&` to
-- the value there. Assumes `Logic`.
use Rattle.std.proofs.Common.{◌≡◌, ℕ, List, [], ◌∷◌, ◌++◌, subst, refl, sym, lit<}
use seplogic.Ra.Ura.{Ura}
use base.Share
use base.Share.{halves as share_halves}
use base.Logic.{SProp, ent, sep, emp, id⊢, never_e, upd_i}
use base.Fml.{Lft, Share, Fml, ftrue, feq, fsep, fseps, fex, fwand, fupd, fdead, fbor, fobor, flft, fshr_bor}
use base.Before.{before}
use contract.BorrowLft.{meet_⊑_left}
use ghost.Rules.{Halves}
use mir.Syntax.{Sym, Ty, Fn, ty_ptr, ty_bool, ty_ref, ty_struct, ty_enum, named, erased, imm, tnil, tcons, ttnil, ttcons, local, value_local, seq, assign, place, deref, field, rv_opd, copy, op2, ptr_eq, int, w8, w64, cond, aggregate, return, skip, block, addr_of}
use mir.Val.{Val, vstruct, vptr, vcons, vnil, of_list}
use prog.Wp.{WpFn, Calls, Loops}
use types.Run.{stop, fld, load, lit, addr, of_opd, bin, no_more, and_then, first, blocks, branches, skips, exec, returns, returns_within, enter}
use types.ByLocal.{alloc_all, pass_all, free_all, look_at, get, through, sets, sets_last, env}
use types.Part.{agg, look_in, sub, whole}
use types.Match.{live}
use types.Logic.{Logic, sem}
use types.Kit.{Item, Goal, Seq, ‵, ◌⊛◌, given, learn, later, prop, at_ret, ◌$◌, ◌∵◌, !, qed, by, move, keep, drop, use0, use1, use2, use3, split, fsplit, fsplit3, fjoin, fpick, fpack, feq_i, feq_l, rewrite, await, suffices, updating, now, assume, done}
use types.Tokens.{shr_bor-open, shr_bor_dup, obor_close, obor_alter, bor_fracture}
use types.Na.{before-Incl, before_lent}
use denote.RattleType.{RattleType, RowLaws, Valss}
use denote.Builtin.{RawPtr}
use denote.Memory.{hidden_shr, cell_at, cell_cut, cell_join}
use denote.RawPtr.{Ptr, block_ptr, null_ptr, Testable, ptr_val, tests_null}
use denote.Sharing.{ShrLaws}
use denote.SharingLaws.{contraction}
use denote.Opens.{hide}
use denote.Steps.{nothing}
use denote.Struct.Struct.{Shape, Struct, within}
use denote.Struct.Lending.{lent_at, lent_at_shr_laws}
use Rattle.std.proofs.VecSteps.Shapes.{after}
use Rattle.std.specs.Prelude.{Option, None, Some}
use Rattle.ropey_c.specs.Handles.{held_lent, lent_for, lasts}

-- the machine value of a lent pointer
abbrev pub word : Ptr → Val
word p = vstruct (vcons (ptr_val p) vnil)

-- the one field of a lent handle, whatever its name
abbrev alone : Shape
alone = record { name = []; args = []; types = []; fields = RawPtr ∷ [] }

-- what it owns, with what the pointer leads to
abbrev lender : Ptr → Fml → List Val → Fml
lender p target vs = fsep ((Struct alone).own_val (p, tt) vs) target

module _ (laid : List Ty) where
  -- a share of the memory in which a lent pointer lies
  abbrev pub cell_of : Ptr → ℕ → ℕ → Share → Fml
  cell_of p b o q = cell_at q laid (word p ∷ []) b o

  -- a share of a lent handle in that memory
  abbrev part : Ptr → Fml → ℕ → ℕ → Share → Fml
  part p target b o q =
      fex (List Val) (λ vs. fsep (cell_at q laid vs b o) (lender p target vs))

  module _ {M : Type 1} {𝓤 : Ura M} (𝓛 : Logic 𝓤) (p : Ptr) (target : Fml) (b o : ℕ)
      (q : Share) where
    part_out : ent 𝓤 (sem 𝓛 (part p target b o q))
        (sep 𝓤 (sem 𝓛 (cell_of p b o q)) (sem 𝓛 target))
    part_out = qed 𝓛 (‵ (part p target b o q) ∷ []) ∵ fpick ! (λ vs. fsplit ! $ move ! (1 ∷ []) $
        fsplit ! $ fpick ! (λ vss. fsplit ! $ feq_l ! (λ ev. fsplit ! $ feq_l ! (λ ep. drop ! $
        rewrite ! 1 (λ (us : List Val). ‵ (cell_at q laid us b o))
        (subst (λ (ps : List Val). vs ≡ vstruct (of_list (ps ++ [])) ∷ []) ep ev) refl $
        move ! (1 ∷ 0 ∷ []) $ done !))))

    part_in : ent 𝓤 (sep 𝓤 (sem 𝓛 (cell_of p b o q)) (sem 𝓛 target))
        (sem 𝓛 (part p target b o q))
    part_in = let v : Val = word p in
        qed 𝓛 (‵ (cell_of p b o q) ∷ ‵ target ∷ []) ∵ move ! (1 ∷ []) $
        nothing ! $ feq_i ! (List Val) (ptr_val p ∷ []) (ptr_val p ∷ []) refl $ fjoin ! $
        feq_i ! (List Val) (v ∷ []) (v ∷ []) refl $ fjoin ! $
        fpack ! (Valss (RawPtr ∷ [])) (within alone (p, tt) (v ∷ [])) (ptr_val p ∷ [], tt) $
        fjoin ! $ move ! (1 ∷ 0 ∷ []) $ fjoin ! $
        fpack ! (List Val) (λ us. fsep (cell_at q laid us b o) (lender p target us)) (v ∷ []) $
        done !

  pub cell_halves : {M : Type 1} {𝓤 : Ura M} (𝓛 : Logic 𝓤) (p : Ptr) (b o : ℕ)
      → Halves 𝓤 𝓛.H 𝓛.A (cell_of p b o)
  cell_halves 𝓛 p b o = record {
    cut = λ q. cell_cut 𝓛 q (Share.left q) (Share.right q) (share_halves q) laid (word p ∷ []) b o;
    join = λ q. cell_join 𝓛 q (Share.left q) (Share.right q) (share_halves q) laid (word p ∷ []) b
        o;
  }

module _ (R : RattleType) where
  -- what a `&` at κ gives of it
  abbrev pub shown : Ptr → Option R.Denot → Lft → Fml
  shown p None κ = feq Ptr p null_ptr
  shown p (Some x) κ = fsep (fex (Testable p) (λ _. ftrue)) (lent_at R p x κ)

  module _ {M : Type 1} {𝓤 : Ura M} {𝓛 : Logic 𝓤} {K : Type 0} {Γ : List (Item 𝓤)}
      {G : Goal 𝓤 𝓛.H} where
    -- null and nothing, or a block and a `&` to a value there
    pub shows_as : K → (p : Ptr) (z : Option R.Denot) (κ : Lft)
        → (p ≡ null_ptr → z ≡ None → Seq K 𝓛 Γ G)
        → ((b o : ℕ) (x : R.Denot) → p ≡ block_ptr b o → z ≡ Some x → Testable (block_ptr b o)
        → Seq K 𝓛 (‵ (hidden_shr R κ x b o) ∷ Γ) G)
        → Seq K 𝓛 (‵ (shown p z κ) ∷ Γ) G
    shows_as t p None κ none one = feq_l t (λ e. none e refl)
    shows_as t null_ptr (Some x) κ none one =
        fsplit t $ fpick t (λ ok. drop t $ fsplit t $ use1 𝓛 (given ⊥ (‵ ftrue)) (never_e 𝓤 _) $
        learn t (λ z. absurd z))
    shows_as t (block_ptr b o) (Some x) κ none one =
        fsplit t $ fpick t (λ ok. drop t $ fsplit t $ drop t $ hide t $ one b o x refl refl ok)

  -- what a `&` at κ to a pointer gives: its token, a share of the memory of the pointer, and what
  -- it shows
  abbrev pub Told : {M : Type 1} {𝓤 : Ura M} → Logic 𝓤 → Ptr → (Share → Fml) → Lft → Share
      → Option R.Denot → SProp 𝓤
  Told {𝓤 = 𝓤} 𝓛 p cell κ q z =
      sep 𝓤 (𝓛.A.lft κ q) (sep 𝓤 (𝓛.A.shr_bor κ cell) (sem 𝓛 (shown p z κ)))

  module _ (laws : RowLaws R) {M : Type 1} {𝓤 : Ura M} (𝓛 : Logic 𝓤) where
    open 𝓛 use {H, A}

    abbrev laws_at : (p : Ptr) (x : R.Denot) → ShrLaws (lent_at R p x)
    laws_at p x = lent_at_shr_laws R laws p x

    lasts_dup : (κ : Lft) → ent 𝓤 (sem 𝓛 (lasts κ)) (sep 𝓤 (sem 𝓛 (lasts κ)) (sem 𝓛 (lasts κ)))
    lasts_dup κ = qed 𝓛 (‵ (lasts κ) ∷ []) ∵ fpick ! (λ q.
        use1 𝓛 (‵ (flft κ (Share.left q)) ⊛ ‵ (flft κ (Share.right q))) (𝓛.lfts.lft_split κ q) $
        split ! $ fpack ! Share (λ q. flft κ q) (Share.left q) $ move ! (1 ∷ 0 ∷ []) $
        fpack ! Share (λ q. flft κ q) (Share.right q) $ move ! (1 ∷ 0 ∷ []) $ done !)

    lent_dup : (p : Ptr) (o : Option R.Denot) → ent 𝓤 (sem 𝓛 (held_lent R p o))
        (sep 𝓤 (sem 𝓛 (held_lent R p o)) (sem 𝓛 (held_lent R p o)))
    lent_dup p None = qed 𝓛 (‵ (feq Ptr p null_ptr) ∷ []) ∵
        feq_l ! (λ e. feq_i ! Ptr p null_ptr e $ feq_i ! Ptr p null_ptr e $ done !)
    lent_dup p (Some x) = qed 𝓛 (‵ (held_lent R p (Some x)) ∷ []) ∵ fsplit ! $
        fpick ! (λ t. drop ! $
        fpick ! (λ κ. fsplit ! $
        use1 𝓛 (‵ (lent_at R p x κ) ⊛ ‵ (lent_at R p x κ))
        (contraction 𝓛 (lent_at R p x) (laws_at p x) κ) $
        split ! $ move ! (2 ∷ []) $ use1 𝓛 (‵ (lasts κ) ⊛ ‵ (lasts κ)) (lasts_dup κ) $ split ! $
        move ! (2 ∷ 0 ∷ []) $ fjoin ! $ fpack ! Lft (lent_for R p x) κ $ nothing ! $
        fpack ! (Testable p) (λ _. ftrue) t $ fjoin ! $ move ! (2 ∷ 1 ∷ []) $
        fjoin ! $ fpack ! Lft (lent_for R p x) κ $ nothing ! $
        fpack ! (Testable p) (λ _. ftrue) t $ fjoin ! $ move ! (1 ∷ 0 ∷ []) $ done !))

    -- a pointer p that lends z: Φ is a share of it, made of a share of its memory and of what it
    -- lends
    module _ (p : Ptr) (lends : Option R.Denot) (Φ cell : Share → Fml)
        (parts : Halves 𝓤 H A cell)
        (part_out : (q : Share) → ent 𝓤 (sem 𝓛 (Φ q)) (sep 𝓤 (sem 𝓛 (cell q))
        (sem 𝓛 (held_lent R p lends))))
        (part_in : (q : Share) → ent 𝓤 (sep 𝓤 (sem 𝓛 (cell q)) (sem 𝓛 (held_lent R p lends)))
        (sem 𝓛 (Φ q))) where
      abbrev Lent : Fml
      Lent = held_lent R p lends

      -- each reader gets a share of the memory, and what is lent as it is
      pub halves : Halves 𝓤 H A Φ
      halves = record {
        cut = λ q. qed 𝓛 (‵ (Φ q) ∷ []) ∵ use1 𝓛 (‵ (cell q) ⊛ ‵ Lent) (part_out q) $ split ! $
            use1 𝓛 (‵ (cell (Share.left q)) ⊛ ‵ (cell (Share.right q))) (parts.cut q) $ split ! $
            move ! (2 ∷ []) $ use1 𝓛 (‵ Lent ⊛ ‵ Lent) (lent_dup p lends) $ split ! $
            move ! (2 ∷ 0 ∷ []) $ use2 𝓛 (‵ (Φ (Share.left q))) (part_in (Share.left q)) $
            move ! (2 ∷ 1 ∷ []) $ use2 𝓛 (‵ (Φ (Share.right q))) (part_in (Share.right q)) $
            move ! (1 ∷ 0 ∷ []) $ done !;
        join = λ q. qed 𝓛 (‵ (Φ (Share.left q)) ∷ ‵ (Φ (Share.right q)) ∷ []) ∵
            use1 𝓛 (‵ (cell (Share.left q)) ⊛ ‵ Lent) (part_out (Share.left q)) $ split ! $
            move ! (2 ∷ []) $ use1 𝓛 (‵ (cell (Share.right q)) ⊛
            ‵ Lent) (part_out (Share.right q)) $
            split ! $ keep ! (2 ∷ 0 ∷ 1 ∷ []) $ use2 𝓛 (‵ (cell q)) (parts.join q) $
            use2 𝓛 (‵ (Φ q)) (part_in q) $ done !;
      }

      module _ (κ : Lft) (q : Share) where
        -- what the borrow becomes at its end, of the memory and the token that were taken out of it
        none_back : (s : Share) → lends ≡ None → p ≡ null_ptr
            → ent 𝓤 (emp 𝓤) (sem 𝓛 (fwand (fsep (fdead κ) (fseps (cell s ∷ []))) (fupd (Φ s))))
        unfolding fseps
        none_back s e n = qed 𝓛 [] ∵ assume ! (‵ (fsep (fdead κ) (fsep (cell s) ftrue))) $
            suffices ! (sem 𝓛 (Φ s)) (upd_i 𝓤 (sem 𝓛 (Φ s))) $ fsplit3 ! $ keep ! (1 ∷ []) $
            feq_i ! Ptr p null_ptr n $
            rewrite ! 0 (λ (z : Option R.Denot). ‵ (held_lent R p z)) (sym e) refl $
            move ! (1 ∷ 0 ∷ []) $ by ! (part_in s)

        some_back : (s r : Share) (l : Lft) (x : R.Denot) → lends ≡ Some x → Testable p
            → ent 𝓤 (sem 𝓛 (lent_at R p x l))
            (sem 𝓛 (fwand (fsep (fdead κ) (fseps (cell s ∷ flft l r ∷ []))) (fupd (Φ s))))
        unfolding fseps
        some_back s r l x e t = qed 𝓛 (‵ (lent_at R p x l) ∷ []) ∵
            assume ! (‵ (fsep (fdead κ) (fsep (cell s) (fsep (flft l r) ftrue)))) $
            suffices ! (sem 𝓛 (Φ s)) (upd_i 𝓤 (sem 𝓛 (Φ s))) $
            fsplit3 ! $ move ! (2 ∷ []) $ fsplit ! $ keep ! (0 ∷ 3 ∷ 4 ∷ []) $
            fpack ! Share (λ z. flft l z) r $ move ! (2 ∷ 0 ∷ []) $ fjoin ! $
            fpack ! Lft (lent_for R p x) l $ nothing ! $ fpack ! (Testable p) (λ _. ftrue) t $
            fjoin ! $
            rewrite ! 0 (λ (z : Option R.Denot). ‵ (held_lent R p z)) (sym e) refl $
            move ! (1 ∷ 0 ∷ []) $ by ! (part_in s)

        told : (s : Share) (z : Option R.Denot) → lends ≡ z
            → ent 𝓤 (sep 𝓤 (A.obor κ q (Φ s)) (sep 𝓤 (sem 𝓛 (cell s)) (sem 𝓛 (held_lent R p z))))
            (H.⇛ (Told 𝓛 p cell κ q z))
        unfolding fseps
        told s None e = let Qs : List Fml = cell s ∷ [] in
            qed 𝓛 (‵ (fobor κ q (Φ s)) ∷ ‵ (cell s) ∷ ‵ (feq Ptr p null_ptr) ∷ []) ∵ updating ! $
            move ! (2 ∷ []) $ feq_l ! (λ n.
            use0 𝓛 (‵ (fwand (fsep (fdead κ) (fseps Qs)) (fupd (Φ s)))) (none_back s e n) $
            nothing ! $
            move ! (3 ∷ 0 ∷ []) $ fjoin ! $ move ! (2 ∷ 0 ∷ 1 ∷ []) $ obor_alter ! tt Qs $
            use1 𝓛 (‵ (fbor κ (cell s)) ⊛ ‵ ftrue) (id⊢ 𝓤 _) $ split ! $ bor_fracture ! tt cell s $
            now ! $
            feq_i ! Ptr p null_ptr n $ keep ! (3 ∷ 1 ∷ 0 ∷ []) $ done !)
        told s (Some x) e =
            qed 𝓛 (‵ (fobor κ q (Φ s)) ∷ ‵ (cell s) ∷ ‵ (held_lent R p (Some x)) ∷ []) ∵
            updating ! $
            move ! (2 ∷ []) $ fsplit ! $ fpick ! (λ t. drop ! $
            fpick ! (λ l. fsplit ! $ move ! (1 ∷ []) $
            fpick ! (λ r. move ! (1 ∷ []) $
            use1 𝓛 (‵ (lent_at R p x l) ⊛ ‵ (lent_at R p x l))
            (contraction 𝓛 (lent_at R p x) (laws_at p x) l) $
            split ! $ let Qs : List Fml = cell s ∷ flft l r ∷ [] in
            use1 𝓛 (‵ (fwand (fsep (fdead κ) (fseps Qs)) (fupd (Φ s)))) (some_back s r l x e t) $
            nothing ! $
            move ! (3 ∷ 0 ∷ []) $ fjoin ! $ move ! (4 ∷ 0 ∷ []) $ fjoin ! $
            move ! (3 ∷ 0 ∷ 1 ∷ []) $
            obor_alter ! tt Qs $
            use1 𝓛 (‵ (fbor κ (cell s)) ⊛ ‵ (fbor κ (flft l r)) ⊛ ‵ ftrue) (id⊢ 𝓤 _) $ split ! $
            move ! (1 ∷ []) $ split ! $ bor_fracture ! tt (λ z. flft l z) r $
            use0 𝓛 (‵ (before (l ++ κ) l)) (before-Incl 𝓛 (l ++ κ) l (meet_⊑_left l κ)) $
            move ! (1 ∷ 0 ∷ []) $ use2 𝓛 (‵ (before κ l)) (before_lent 𝓛 κ l l) $
            move ! (0 ∷ 4 ∷ []) $
            use2 𝓛 (‵ (lent_at R p x κ)) ((laws_at p x).mono M 𝓤 𝓛 κ l) $ nothing ! $
            fpack ! (Testable p) (λ _. ftrue) t $ fjoin ! $ move ! (2 ∷ []) $
            bor_fracture ! tt cell s $ now ! $ keep ! (3 ∷ 0 ∷ 1 ∷ []) $ done !)))

        -- a `&` to the pointer gives a share of its memory, and a `&` to the value
        pub lent_told : ent 𝓤 (sep 𝓤 (sem 𝓛 (fshr_bor κ Φ)) (A.lft κ q))
            (H.⇛ (Told 𝓛 p cell κ q lends))
        lent_told = qed 𝓛 (‵ (fshr_bor κ Φ) ∷ ‵ (flft κ q) ∷ []) ∵ updating ! $
            shr_bor-open ! tt halves (λ s. move ! (1 ∷ []) $
            use1 𝓛 (‵ (cell s) ⊛ ‵ Lent) (part_out s) $ split ! $ move ! (2 ∷ 0 ∷ 1 ∷ []) $
            use3 𝓛 (later (‵ (flft κ q) ⊛ ‵ (fshr_bor κ cell) ⊛
            ‵ (shown p lends κ))) (told s lends refl) $
            await ! tt $ split ! $ move ! (1 ∷ []) $ split ! $ now ! $ move ! (2 ∷ 0 ∷ 1 ∷ []) $
            done !)

    -- a `&` to a lent handle in memory gives them
    pub lender_told : (laid : List Ty) (p : Ptr) (lends : Option R.Denot) (b o : ℕ) (κ : Lft)
        (q : Share)
        → ent 𝓤 (sep 𝓤 (sem 𝓛 (fshr_bor κ (part laid p (held_lent R p lends) b o))) (A.lft κ q))
        (H.⇛ (Told 𝓛 p (cell_of laid p b o) κ q lends))
    lender_told laid p lends b o = let target = held_lent R p lends in
        lent_told p lends (part laid p target b o) (cell_of laid p b o) (cell_halves laid 𝓛 p b o)
        (part_out laid 𝓛 p target b o) (part_in laid 𝓛 p target b o)

-- a lent handle, by its name
abbrev named_handle : Sym → Ty
named_handle name = ty_struct name (tcons ty_ptr tnil)

-- the code that tests the pointer of a lent handle, and reads through it
abbrev reader : Sym → Sym → Ty → Ty → Ty → Fn
reader option name handle pointee value = record {
  lifetimes = 1;
  outlives = [];
  ty_params = [];
  givens = 0;
  params = 1;
  locals = local (ty_enum option
      (ttcons tnil (ttcons (tcons (ty_ref (named 0) imm pointee) tnil) ttnil))) value_local
      ∷ local (ty_ref (named 0) imm handle) value_local
      ∷ local ty_ptr value_local ∷ local ty_ptr value_local ∷ local ty_bool value_local
      ∷ local (ty_ref erased imm pointee) value_local
      ∷ local (ty_ref erased imm pointee) value_local
      ∷ local ty_ptr value_local ∷ [];
  body = seq (assign (place 2 [])
      (rv_opd (copy (place 1 (deref (named_handle name) ∷ field 0 ∷ [])))))
      (seq (assign (place 3 []) (rv_opd (copy (place 2 []))))
      (seq (assign (place 4 []) (op2 ptr_eq (copy (place 3 [])) (int w64 0)))
      (seq (cond (copy (place 4 []))
      (seq (assign (place 0 []) (aggregate (int w8 0 ∷ []))) return) skip)
      (seq (block (seq (assign (place 7 []) (rv_opd (copy (place 2 []))))
      (assign (place 6 []) (addr_of (place 7 (deref value ∷ []))))))
      (seq (assign (place 5 []) (rv_opd (copy (place 6 []))))
      (seq (assign (place 0 []) (aggregate (int w8 1 ∷ copy (place 5 []) ∷ []))) return))))));
}

module _ (R : RattleType) where
  -- a `&` at κ to a lent handle in memory
  abbrev borrowed : Sym → Ptr → Option R.Denot → ℕ → ℕ → Lft → Fml
  borrowed name p lends b o κ =
      fshr_bor κ (part (named_handle name ∷ []) p (held_lent R p lends) b o)

module _ (R : RattleType) (laws : RowLaws R) {M : Type 1} {𝓤 : Ura M} {𝓛 : Logic 𝓤} {K : Type 0}
  where
    -- null and `None`, or a `&` to the value; the `&` to the handle stays
    pub reads : K → (option name : Sym) (handle pointee value : Ty) (C : Calls 𝓤 𝓛.H)
        (Λ : Loops 𝓤 𝓛.H) (p : Ptr) (lends : Option R.Denot) (rb ro : ℕ) (κ : Lft) (q : Share)
        (Post : Val → SProp 𝓤)
        → (lends ≡ None → Seq K 𝓛 (‵ (flft κ q) ∷ ‵ (borrowed R name p lends rb ro κ) ∷ [])
        (prop (Post (live 0 vnil))))
        → ((b o : ℕ) (x : R.Denot) → lends ≡ Some x
        → Seq K 𝓛
        (‵ (hidden_shr R κ x b o) ∷ ‵ (flft κ q) ∷ ‵ (borrowed R name p lends rb ro κ) ∷ [])
        (prop (Post (live 1 (vcons (vptr b o) vnil)))))
        → Seq K 𝓛 (‵ (flft κ q) ∷ ‵ (borrowed R name p lends rb ro κ) ∷ [])
        (prop (WpFn 𝓤 𝓛.H C Λ (reader option name handle pointee value) (vptr rb ro ∷ []) Post))
    reads t option name handle pointee value C Λ p lends rb ro κ q Post none some =
        let fn = reader option name handle pointee value in
        let laid : List Ty = named_handle name ∷ [] in
        enter t C Λ fn (vptr rb ro ∷ []) Post $ alloc_all t (λ l. pass_all t refl ((tt, tt), tt) $
        let Ev = env fn.locals l in
        move t (1 ∷ []) $ shr_bor_dup t $ move t (0 ∷ 2 ∷ []) $
        use2 𝓛 (later (‵ (flft κ q) ⊛ ‵ (fshr_bor κ (cell_of laid p rb ro)) ⊛
        ‵ (shown R p lends κ))) (lender_told R laws 𝓛 laid p lends rb ro κ q) $ await t tt $
        split t $ move t (1 ∷ []) $ split t $ move t (1 ∷ []) $ shows_as R t p lends κ
        (λ is e. rewrite t 0 (λ (p : Ptr). ‵ (fshr_bor κ (cell_of laid p rb ro))) is refl $
        shr_bor-open t tt (cell_halves laid 𝓛 null_ptr rb ro) (λ s.
        sets t (of_opd t (load t (through t refl (fld t refl (stop t)))
        (look_in t 1 (sub t 0 refl (whole t))))) refl (tt, record { fits = lit< tt }) $
        obor_close t tt $ drop t $
        sets t (of_opd t (get t refl)) refl (tt, record { fits = lit< tt }) $
        sets t (bin t (get t refl) (lit t tt) tt) refl (tt, tt) $ first t $ branches t (get t refl)
        (λ _. sets t (agg t (and_then t (lit t tt) (no_more t))) refl (
          tt,
          (record { fits = lit< tt }, tt),
        ) $
        returns_within t Post refl (look_at t 0 refl) $ free_all t refl $ none e)
        (λ wrong. absurd wrong)))
        (λ b o x is e ok. let u = vptr b o in
        rewrite t 1 (λ (p : Ptr). ‵ (fshr_bor κ (cell_of laid p rb ro))) is refl $
        move t (1 ∷ 2 ∷ []) $
        shr_bor-open t tt (cell_halves laid 𝓛 (block_ptr b o) rb ro) (λ s.
        sets t (of_opd t (load t (through t refl (fld t refl (stop t)))
        (look_in t 1 (sub t 0 refl (whole t))))) refl (tt, tt) $ obor_close t tt $ drop t $
        sets t (of_opd t (get t refl)) refl (tt, tt) $
        sets t (bin t (get t refl) (lit t tt) (tests_null (block_ptr b o) ok)) refl (tt, tt) $
        first t $ branches t (get t refl)
        (λ wrong. absurd wrong)
        (λ _. skips t $ exec t C Λ Ev (after 4 fn.body) (at_ret Ev Post) $ first t $ blocks t $
        sets t (of_opd t (get t refl)) refl (tt, tt) $
        sets_last t (addr t (through t refl (stop t))) refl (tt, tt) $
        exec t C Λ Ev (after 5 fn.body) (at_ret Ev Post) $
        sets t (of_opd t (get t refl)) refl (tt, tt) $
        sets t (agg t (and_then t (lit t tt) (and_then t (get t refl) (no_more t)))) refl (
          tt,
          (record { fits = lit< tt }, (tt, tt)),
        ) $
        returns t (look_at t 0 refl) $ free_all t refl $ move t (1 ∷ 0 ∷ []) $ some b o x e))))
