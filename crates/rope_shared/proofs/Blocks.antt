-- A block in a box, as the block of an `Arc` that has one owner. Assumes `Logic`.
use Rattle.std.proofs.Common.{◌≡◌, ℕ, ◌+◌, ◌^◌, lit<, List, [], ◌∷◌, ◌++◌, refl, ap, ◌∙◌}
use seplogic.Ra.Ura.{Ura}
use lib.Dec.{T}
use mir.Syntax.{Tys, Sym, w64, ty_int, ty_struct, tcons, tnil}
use mir.Val.{Val, Vals, vint, vstruct, vcons, vnil, of_list, has_ty, WT}
use mir.Raw.{raw as bare}
use base.Fraction.{full_share}
use base.Logic.{SProp, ent, sep, all, wand, via, mono_r, apply∗}
use base.Fml.{Fml, ftrue, fsep, fat, froom}
use contract.Monad.{conj_r}
use prog.Model.{fields_at, rooms_at}
use types.Logic.{Logic, sem}
use types.Kit.{Item, Goal, Seq, Step, step, ‵, raw, ◌⊛◌, some, ◌$◌, ◌∵◌, !, qed, by, move, drop, use0, use1, use2, pick, group, split, split3, assume, fsplit, fsplit3, fjoin, fjoin3, fpick, fpack, feq_i, feq_l, flt_i, flt_l, rewrite, done}
use borrow.Table.OneValue.{part_in, part_out}
use denote.RattleType.{RattleType, Valss}
use denote.Memory.{lone, part_at}
use denote.Param.{param}
use denote.Param.Laws.{Laws}
use denote.Builtin.{u64}
use denote.RawPtr.{Ptr, InBlock, block_ptr, lies_at}
use denote.Steps.{nothing, only}
use denote.Struct.Struct.{within, as_fields}
use denote.Struct.Declared.{shape}
use Rattle.std.proofs.Handle.{heap_val}
use Rattle.std.proofs.RawLayout.{as_raw, as_written}
use Rattle.std.specs.Box.Ownership.{box_owns}
use Rattle.std.specs.Thread.Scope.{word_at}
use Rattle.std.specs.Arc.Ownership.{arc_inner_type, allocator_offset, value_offset, fields_rejoin, dealloc_by}
use Rattle.std.specs.contracts.impls.GlobalAllocator.TheImpl.{ghosts}
use Rattle.rope_shared.specs.Owning.{sole_memory, frees_block, value_of}
use Rattle.rope_shared.specs.contracts.sole.Inner as inner
use Rattle.rope_shared.proofs.Words.{Z}
use Rattle.rope_shared.proofs.Boxes.{Good, handle_made, handle_is, heap_Good, value_is}

module _ (X : RattleType) where
  abbrev R : RattleType
  R = param 0 X

  abbrev pub Inner : RattleType
  Inner = inner.the_row R

  abbrev pub fields : Tys
  fields = tcons (ty_int w64) (tcons (lone Z.mir) (tcons (lone R.mir) tnil))

  abbrev pub inner_val : Val → Val
  inner_val v = vstruct (vcons (vint w64 1) (vcons heap_val (vcons v vnil)))

module _ (X : RattleType) (L : Laws X) {M : Type 1} {𝓤 : Ura M} (𝓛 : Logic 𝓤) (b o : ℕ) where
  open 𝓛 use {H}

  abbrev pub ν : Sym
  ν = (inner.the_type (R X)).name

  abbrev Joins : SProp 𝓤
  Joins = wand 𝓤 (rooms_at 𝓤 H (fields X) 0 b o) (H.room (ty_struct ν (fields X)) b o)

  abbrev heap_at : ℕ
  heap_at = allocator_offset Z (R X)

  abbrev value_at : ℕ
  value_at = value_offset Z (R X)

  rejoins : ent 𝓤 Joins (sem 𝓛 (fields_rejoin Z (R X) (block_ptr b o)))
  rejoins = qed 𝓛 (raw Joins ∷ []) ∵
      assume ! (‵ (froom (ty_int w64) b (o + 0)) ⊛ ‵ (froom (bare (lone Z.mir)) b (o + heap_at)) ⊛ ‵
      (froom (bare (lone (R X).mir)) b (o + value_at))) $
      split3 ! $ move ! (1 ∷ []) $ as_written ! (lone Z.mir) b (o + heap_at) $ move ! (2 ∷ []) $
      as_written ! (lone (R X).mir) b (o + value_at) $
      nothing ! $ move ! (3 ∷ 2 ∷ 1 ∷ 0 ∷ []) $ group ! 4 $
      use2 𝓛 (‵ (froom (ty_struct ν (fields X)) b o)) (apply∗ 𝓤 (rooms_at 𝓤 H (fields X) 0 b o)
      (H.room (ty_struct ν (fields X)) b o)) $
      by ! (𝓛.laws.room-raw (ty_struct ν (fields X)) b o)

  -- the block's cell, in parts
  cells : (h : Z.Denot) (x : X.Denot) (v : Val)
      → ent 𝓤 (sep 𝓤 (sem 𝓛 (fat full_share (ty_struct ν (fields X)) b o (inner_val X v))) (sep 𝓤
      (sem 𝓛 (ghosts.dealloc_token h (arc_inner_type Z (R X)) (block_ptr b o))) (sem 𝓛 ((R
      X).own_val x (v ∷ [])))))
      (sem 𝓛 (sole_memory (R X) (block_ptr b o) x))
  cells h x v = let p : Ptr = block_ptr b o in
      let vs : Vals = vcons (vint w64 1) (vcons heap_val (vcons v vnil)) in
      qed 𝓛 (‵ (fat full_share (ty_struct ν (fields X)) b o (vstruct vs))
      ∷ ‵ (ghosts.dealloc_token h (arc_inner_type Z (R X)) p) ∷ ‵ ((R X).own_val x (v ∷ [])) ∷ []) ∵
      use1 𝓛 ((‵ (fat full_share (ty_int w64) b (o + 0) (vint w64 1)) ⊛ ‵ (fat full_share (lone
      Z.mir) b (o + heap_at) heap_val) ⊛ ‵ (fat full_share (lone (R X).mir) b (o + value_at) v) ⊛ ‵
      ftrue) ⊛ raw Joins)
      (via 𝓤 _ (𝓛.laws.at_fields_free ν (fields X) b o vs) (mono_r 𝓤 (fields_at 𝓤 H full_share
      (fields X) 0 b o vs)
      (conj_r 𝓤 (all 𝓤 (λ (ws : Vals). wand 𝓤 (fields_at 𝓤 H full_share (fields X) 0 b o ws) (H.at
      full_share (ty_struct ν (fields X)) b o (vstruct ws)))) Joins))) $
      split ! $ split ! $ move ! (1 ∷ []) $ split3 ! $ move ! (2 ∷ []) $ drop ! $
      -- [the allocator's cell; the value's cell; the count; the way back; the token; the value]
      move ! (1 ∷ 5 ∷ []) $ use2 𝓛 (‵ (part_at (R X) full_share x b (o + value_at))) (part_in 𝓛 (R
      X) refl full_share x b (o + value_at) v) $
      move ! (1 ∷ []) $ use0 𝓛 (‵ (Z.own_val h (heap_val ∷ []))) (handle_made 𝓛 h) $
      move ! (1 ∷ 0 ∷ []) $
      use2 𝓛 (‵ (part_at Z full_share h b (o + heap_at))) (part_in 𝓛 Z refl full_share h b (o +
      heap_at) heap_val) $
      -- [the allocator; the value; the count; the way back; the token]
      move ! (3 ∷ []) $ use1 𝓛 (‵ (fields_rejoin Z (R X) p)) rejoins $ move ! (1 ∷ 4 ∷ 0 ∷ []) $
      fjoin3 ! $
      fpack ! Z.Denot (dealloc_by Z ghosts.dealloc_token (R X) p) h $ move ! (1 ∷ 2 ∷ 0 ∷ []) $
      fjoin3 ! $ nothing ! $ fpack ! (InBlock p) (λ _. ftrue) tt $ fjoin ! $ done !

  pub apart : (h : Z.Denot) (d : (Inner X).Denot) → d.count ≡ 1
      → ent 𝓤 (sem 𝓛 (box_owns (ghosts.dealloc_token h) (Inner X) (block_ptr b o) d)) (sem 𝓛
      (sole_memory (R X) (block_ptr b o) d.value))
  apart h d one = qed 𝓛 (‵ (box_owns (ghosts.dealloc_token h) (Inner X) (block_ptr b o) d) ∷ []) ∵
      fsplit ! $
      use1 𝓛 (some (λ (u : Val). ‵ (fat full_share (ty_struct ν (fields X)) b o u) ⊛ ‵ ((Inner
      X).own_val d (u ∷ [])))) (part_out 𝓛 (Inner X) refl full_share d b o) $ pick ! (λ u. split ! $
      move ! (1 ∷ []) $
      fpick ! (λ vss. fsplit ! $ feq_l ! (λ whole. fsplit ! $ fsplit ! $
      feq_l ! (λ first. flt_l ! (λ fits. fsplit ! $
      handle_is ! d.alloc vss.1.0 (λ second. fsplit ! $
      value_is X L ! d.value vss.1.1.0 (λ v third good.
      move ! (1 ∷ []) $ drop ! $ move ! (1 ∷ 2 ∷ 0 ∷ []) $
      rewrite ! 0 (λ (w : Val). ‵ (fat full_share (ty_struct ν (fields X)) b o w)) (ap only whole ∙
      (λ i. vstruct (of_list ((first ∙ ap (λ (n : ℕ). vint w64 n ∷ []) one) i ++ (second i ++ (third
      i ++ [])))))) refl $ by ! (cells h d.value v))))))))

pub inner_Good : (X : RattleType) (μ : Sym) (v : Val) → Good X v
    → T (has_ty (ty_struct μ (fields X)) (inner_val X v)) × WT (inner_val X v)
inner_Good X μ v good = as_fields (ty_int w64 ∷ lone Z.mir ∷ lone (R X).mir ∷ []) (vint w64 1 ∷
    heap_val ∷ v ∷ [])
    ((tt, record { fits = lit< tt }), (heap_Good, (good, tt)))

module _ (X : RattleType) (b o : ℕ) where
  abbrev pub value_cell : Val → Fml
  value_cell v = fat full_share (lone (R X).mir) b (o + value_offset Z (R X)) v

  abbrev pub heap_cell : Val → Fml
  heap_cell v = fat full_share (lone Z.mir) b (o + allocator_offset Z (R X)) v

module _ (X : RattleType) (L : Laws X) {M : Type 1} {𝓤 : Ura M} {𝓛 : Logic 𝓤} {K : Type 0} {Γ : List
    (Item 𝓤)} {G : Goal 𝓤 𝓛.H} (b o : ℕ) where
  pub split_pair : K → (x : X.Denot)
      → ((h : Z.Denot) (v : Val) → Good X v → Seq K 𝓛 (‵ (value_cell X b o v)
      ∷ ‵ (heap_cell X b o heap_val) ∷ ‵ (word_at b (o + 0) 1)
      ∷ ‵ (fields_rejoin Z (R X) (block_ptr b o))
      ∷ ‵ (ghosts.dealloc_token h (arc_inner_type Z (R X)) (block_ptr b o))
      ∷ ‵ ((R X).own_val x (v ∷ [])) ∷ Γ) G)
      → Seq K 𝓛 (‵ (fsep (lies_at (R X) full_share (value_of (R X) (block_ptr b o)) x) (fsep
      (word_at b (o + 0) 1) (frees_block (R X) (block_ptr b o)))) ∷ Γ) G
  split_pair t x k = fsplit3 t $
      use1 𝓛 (some (λ (u : Val). ‵ (value_cell X b o u) ⊛ ‵ ((R X).own_val x (u ∷ [])))) (part_out 𝓛
      (R X) refl full_share x b (o + value_offset Z (R X))) $ pick t (λ u. split t $
      move t (1 ∷ []) $
      value_is X L t x (u ∷ []) (λ v e good. rewrite t 1
      (λ (w : Val). ‵ (value_cell X b o w)) (ap only e) refl $
      -- [the value; its cell; the count; the right to free]
      move t (3 ∷ []) $ fpick t (λ h. fsplit3 t $
      use1 𝓛 (some (λ (u : Val). ‵ (fat full_share (lone Z.mir) b (o + allocator_offset Z (R X)) u)
      ⊛ ‵ (Z.own_val h (u ∷ [])))) (part_out 𝓛 Z refl full_share h b (o + allocator_offset Z (R X)))
      $
      pick t (λ u'. split t $ move t (1 ∷ []) $ handle_is t h (u' ∷ []) (λ e'. rewrite t 0
      (λ (w : Val). ‵ (fat full_share (lone Z.mir) b (o + allocator_offset Z (R X)) w)) (ap only e')
      refl $
      -- [the allocator's cell; the token; the way back; the value; its cell; the count]
      move t (4 ∷ 0 ∷ 5 ∷ 2 ∷ 1 ∷ 3 ∷ []) $ k h v good)))))

  pub roomed : K → (v : Val) → Step K 𝓛 (‵ (froom (ty_struct (ν X L 𝓛 b o) (fields X)) b o) ∷ Γ) G
      (‵ (value_cell X b o v) ∷ ‵ (heap_cell X b o heap_val) ∷ ‵ (word_at b (o + 0) 1)
      ∷ ‵ (fields_rejoin Z (R X) (block_ptr b o)) ∷ Γ) G
  roomed t v = step (λ s. let va : ℕ = o + value_offset Z (R X) in
      let ha : ℕ = o + allocator_offset Z (R X) in
      use1 𝓛 (‵ (froom (lone (R X).mir) b va)) (𝓛.laws.at_room (lone (R X).mir) b va v) $
      as_raw t (lone (R X).mir) b va $ move t (1 ∷ []) $
      use1 𝓛 (‵ (froom (lone Z.mir) b ha)) (𝓛.laws.at_room (lone Z.mir) b ha heap_val) $
      as_raw t (lone Z.mir) b ha $ move t (2 ∷ []) $
      use1 𝓛 (‵ (froom (ty_int w64) b (o + 0))) (𝓛.laws.at_room (ty_int w64) b (o + 0) (vint w64 1))
      $ move t (0 ∷ 1 ∷ 2 ∷ []) $ group t 3 $
      use2 𝓛 (‵ (froom (arc_inner_type Z (R X)) b o)) (apply∗ 𝓤 (sep 𝓤 (sem 𝓛 (froom (ty_int w64) b
      (o + 0))) (sep 𝓤 (sem 𝓛 (froom (bare (lone Z.mir)) b ha)) (sem 𝓛 (froom (bare (lone (R
      X).mir)) b va)))) (sem 𝓛 (froom (arc_inner_type Z (R X)) b o))) $
      as_written t (ty_struct (ν X L 𝓛 b o) (fields X)) b o $ s)

module _ (X : RattleType) (L : Laws X) {M : Type 1} {𝓤 : Ura M} (𝓛 : Logic 𝓤) (b o : ℕ) where
  pub rebuilt : (h : Z.Denot) (x : X.Denot) (v : Val)
      → ent 𝓤 (sep 𝓤 (sem 𝓛 (fat full_share (ty_struct (ν X L 𝓛 b o) (fields X)) b o (inner_val X
      v))) (sep 𝓤 (sem 𝓛 (ghosts.dealloc_token h (arc_inner_type Z (R X)) (block_ptr b o))) (sem 𝓛
      ((R X).own_val x (v ∷ [])))))
      (sem 𝓛 (box_owns (ghosts.dealloc_token h) (Inner X) (block_ptr b o) (record {
        count = 1;
        alloc
            = h;
        value = x;
      })))
  rebuilt h x v = let d : (Inner X).Denot = record { count = 1; alloc = h; value = x } in
      let u : Val = inner_val X v in
      qed 𝓛 (‵ (fat full_share (ty_struct (ν X L 𝓛 b o) (fields X)) b o u)
      ∷ ‵ (ghosts.dealloc_token h (arc_inner_type Z (R X)) (block_ptr b o))
      ∷ ‵ ((R X).own_val x (v ∷ [])) ∷ []) ∵
      nothing ! $ move ! (3 ∷ 0 ∷ []) $ fjoin ! $
      use0 𝓛 (‵ (Z.own_val h (heap_val ∷ []))) (handle_made 𝓛 h) $ fjoin ! $
      flt_i ! 1 (2 ^ 64) (lit< tt) $ feq_i ! (List Val) (vint w64 1 ∷ []) (vint w64 1 ∷ []) refl $
      fjoin ! $ fjoin ! $
      feq_i ! (List Val) (u ∷ []) (u ∷ []) refl $ fjoin ! $
      fpack ! (Valss (u64 ∷ Z ∷ R X ∷ [])) (within (shape (inner.the_type (R X))) (
        1,
        (
          (
            (tt, tt),
            tt,
          ),
          (x, tt),
        ),
      ) (u ∷ [])) (vint w64 1 ∷ [], (heap_val ∷ [], (v ∷ [], tt))) $
      move ! (1 ∷ 0 ∷ []) $ use2 𝓛 (‵ (part_at (Inner X) full_share d b o)) (part_in 𝓛 (Inner X)
      refl full_share d b o u) $ fjoin ! $ done !
