-- A block in a box, as the block of an `Rc` that has one owner. Assumes `Logic`.
use Rattle.std.proofs.Common.{◌≡◌, ℕ, ◌+◌, ◌^◌, lit<, List, [], ◌∷◌, ◌++◌, refl, ap, ◌∙◌}
use seplogic.Ra.Ura.{Ura}
use lib.Dec.{T}
use mir.Syntax.{Tys, Sym, impl, dnil, w64, ty_int, ty_struct, tcons, tnil}
use mir.Val.{Val, vint, vstruct, vcons, vnil, of_list, has_ty, WT}
use base.Fraction.{full_share}
use base.Logic.{ent, sep}
use base.Fml.{Fml, fsep, fat, froom}
use types.Logic.{Logic, sem}
use types.Kit.{Item, Goal, Seq, Step, step, ‵, ◌⊛◌, some, ◌$◌, ◌∵◌, !, qed, move, drop, group, use0, use1, use2, pick, split, fsplit, fsplit3, fjoin, fpick, fpack, feq_i, feq_l, flt_i, flt_l, rewrite, done}
use borrow.Table.OneValue.{part_in, part_out}
use denote.RattleType.{RattleType, Valss}
use denote.Memory.{lone, part_at}
use denote.Param.{param}
use denote.Param.Laws.{Laws}
use denote.Builtin.{u64}
use denote.RawPtr.{block_ptr, lies_at}
use denote.Steps.{nothing, only}
use denote.Struct.Struct.{within, as_fields}
use denote.Struct.Declared.{shape}
use Rattle.std.proofs.BoxSteps.Form.{Bx}
use Rattle.std.proofs.Handle.{heap_val}
use Rattle.std.proofs.RawLayout.{as_raw, as_written}
use Rattle.std.proofs.RcSteps.{cell, block_made, block_back}
use Rattle.std.proofs.alloc.Global.TheLaws as heap_laws
use Rattle.std.specs.Box.Ownership.{box_owns}
use Rattle.std.specs.Rc.Ownership.{sole_owns, rc_box_type, allocator_offset, value_offset, fields_rejoin}
use Rattle.std.specs.contracts.impls.GlobalAllocator.TheImpl.{ghosts}
use Rattle.rope_shared.specs.Local.Owning.{counts_one, sole_memory, frees_block, value_of}
use Rattle.rope_shared.specs.contracts.local.sole.Inner as inner
use Rattle.rope_shared.proofs.Words.{Z}
use Rattle.rope_shared.proofs.Boxes.{Good, handle_made, handle_is, heap_Good, value_is}
use Rattle.rope_shared.proofs.LocalWords.{sole_memory_of}

module _ (X : RattleType) where
  abbrev R : RattleType
  R = param 0 X

  abbrev pub Inner : RattleType
  Inner = inner.the_row R

  abbrev pub fields : Tys
  fields = tcons (ty_int w64) (tcons (ty_int w64) (tcons (lone Z.mir) (tcons (lone R.mir) tnil)))

  abbrev pub inner_name : Sym
  inner_name = (inner.the_type R).name

  abbrev pub inner_val : Val → Val
  inner_val v = vstruct (vcons (vint w64 1) (vcons (vint w64 1) (vcons heap_val (vcons v vnil))))

  abbrev pub inner_one : Z.Denot → X.Denot → Inner.Denot
  inner_one h x = record { strong = 1; weak = 1; alloc = h; value = x }

-- the kit's name for an `Rc<X, Global>`
abbrev pub kit : (X : RattleType) → Laws X → Bx
kit X L = record {
  row = X;
  laws = L;
  al = record {
    row = Z;
    laws = heap_laws.the_row_laws;
    g = ghosts;
    d = impl [] tnil dnil;
    drops = impl [] tnil dnil;
  };
}

module _ (X : RattleType) (L : Laws X) {M : Type 1} {𝓤 : Ura M} (𝓛 : Logic 𝓤) (b o : ℕ) where
  pub apart : (h : Z.Denot) (d : (Inner X).Denot) → d.strong ≡ 1 → d.weak ≡ 1
      → ent 𝓤 (sem 𝓛 (box_owns (ghosts.dealloc_token h) (Inner X) (block_ptr b o) d)) (sem 𝓛
      (sole_memory (R X) (block_ptr b o) d.value))
  apart h d one one' = let σ = ty_struct (inner_name X) (fields X) in
      qed 𝓛 (‵ (box_owns (ghosts.dealloc_token h) (Inner X) (block_ptr b o) d) ∷ []) ∵ fsplit ! $
      use1 𝓛 (some (λ (u : Val). ‵ (fat full_share σ b o u) ⊛ ‵ ((Inner X).own_val d (u ∷ []))))
      (part_out 𝓛 (Inner X) refl full_share d b o) $ pick ! (λ u. split ! $ move ! (1 ∷ []) $
      fpick ! (λ vss. fsplit ! $ feq_l ! (λ whole. fsplit ! $
      fsplit ! $ feq_l ! (λ strong. flt_l ! (λ _. fsplit ! $
      fsplit ! $ feq_l ! (λ weak. flt_l ! (λ _. fsplit ! $
      handle_is ! d.alloc vss.1.1.0 (λ third. fsplit ! $
      value_is X L ! d.value vss.1.1.1.0 (λ v fourth good.
      move ! (1 ∷ []) $ drop ! $ move ! (1 ∷ 2 ∷ 0 ∷ []) $
      let counted = λ (n : ℕ). vint w64 n ∷ [] in
      rewrite ! 0 (λ (w : Val). ‵ (fat full_share σ b o w)) (ap only whole ∙ (λ i. vstruct (of_list
      ((strong ∙ ap counted one) i ++ ((weak ∙ ap counted one') i ++ (third i ++ (fourth i ++ [])))
      )))) refl $
      use0 𝓛 (‵ (Z.own_val h (heap_val ∷ []))) (handle_made 𝓛 h) $ move ! (1 ∷ 2 ∷ 0 ∷ 3 ∷ []) $
      group ! 4 $
      use1 𝓛 (‵ (sole_owns Z ghosts.dealloc_token (R X) (block_ptr b o) d.value))
      (block_made (kit X L) 𝓛 (inner_name X) b o h d.value heap_val v) $
      use1 𝓛 (‵ (sole_memory (R X) (block_ptr b o) d.value))
      (sole_memory_of (R X) 𝓛 (block_ptr b o) d.value tt) $ done !)))))))))

module _ (X : RattleType) (b o : ℕ) where
  abbrev pub value_cell : Val → Fml
  value_cell v = fat full_share (lone (R X).mir) b (o + value_offset Z (R X)) v

  abbrev pub heap_cell : Fml
  heap_cell = fat full_share (lone Z.mir) b (o + allocator_offset Z (R X)) heap_val

  abbrev pub token : Z.Denot → Fml
  token h = ghosts.dealloc_token h (rc_box_type Z (R X)) (block_ptr b o)

module _ (X : RattleType) (L : Laws X) {M : Type 1} {𝓤 : Ura M} {𝓛 : Logic 𝓤} {K : Type 0} {Γ : List
    (Item 𝓤)} {G : Goal 𝓤 𝓛.H} (b o : ℕ) where
  pub split_block : K → (x : X.Denot)
      → ((h : Z.Denot) (v : Val) → Good X v → Seq K 𝓛 (‵ (value_cell X b o v) ∷ ‵ (heap_cell X b o)
      ∷ ‵ (cell b o 0 1) ∷ ‵ (cell b o 8 1) ∷ ‵ (fields_rejoin Z (R X) (block_ptr b o))
      ∷ ‵ (token X b o h) ∷ ‵ ((R X).own_val x (v ∷ [])) ∷ Γ) G)
      → Seq K 𝓛 (‵ (fsep (lies_at (R X) full_share (value_of (R X) (block_ptr b o)) x) (fsep
      (counts_one (block_ptr b o)) (frees_block (R X) (block_ptr b o)))) ∷ Γ) G
  split_block t x k = let at : ℕ = o + allocator_offset Z (R X) in fsplit3 t $
      use1 𝓛 (some (λ (u : Val). ‵ (value_cell X b o u) ⊛ ‵ ((R X).own_val x (u ∷ [])))) (part_out 𝓛
      (R X) refl full_share x b (o + value_offset Z (R X))) $ pick t (λ u. split t $
      move t (1 ∷ []) $
      value_is X L t x (u ∷ []) (λ v e good. rewrite t 1
      (λ (w : Val). ‵ (value_cell X b o w)) (ap only e) refl $
      -- [the value; its cell; the counts; the right to free]
      move t (2 ∷ []) $ fsplit t $ fsplit t $ flt_l t (λ _. move t (1 ∷ []) $ fsplit t $
      flt_l t (λ _. move t (4 ∷ []) $ fpick t (λ h. fsplit3 t $
      use1 𝓛 (some (λ (u : Val). ‵ (fat full_share (lone Z.mir) b at u) ⊛ ‵ (Z.own_val h (u ∷ []))))
      (part_out 𝓛 Z refl full_share h b at) $
      pick t (λ u'. split t $ move t (1 ∷ []) $ handle_is t h (u' ∷ []) (λ e'. rewrite t 0
      (λ (w : Val). ‵ (fat full_share (lone Z.mir) b at w)) (ap only e') refl $
      -- [the allocator's cell; the token; the way back; the counts; the value; its cell]
      move t (6 ∷ 0 ∷ 4 ∷ 3 ∷ 2 ∷ 1 ∷ 5 ∷ []) $ k h v good)))))))

  pub roomed : K → (x : X.Denot) (v : Val)
      → Step K 𝓛 (‵ (froom (ty_struct (inner_name X) (fields X)) b o) ∷ Γ) G
      (‵ (value_cell X b o v) ∷ ‵ (heap_cell X b o) ∷ ‵ (cell b o 0 1) ∷ ‵ (cell b o 8 1)
      ∷ ‵ (fields_rejoin Z (R X) (block_ptr b o)) ∷ Γ) G
  roomed t x v = step (λ s. let at : ℕ = o + value_offset Z (R X) in
      use1 𝓛 (‵ (froom (lone (R X).mir) b at)) (𝓛.laws.at_room (lone (R X).mir) b at v) $
      as_raw t (lone (R X).mir) b at $ move t (2 ∷ 3 ∷ 1 ∷ 0 ∷ []) $
      block_back (kit X L) (block_ptr b o) x t 1 1 b o heap_val $
      as_written t (ty_struct (inner_name X) (fields X)) b o $ s)

pub inner_Good : (X : RattleType) (μ : Sym) (v : Val) → Good X v
    → T (has_ty (ty_struct μ (fields X)) (inner_val X v)) × WT (inner_val X v)
inner_Good X μ v good = as_fields (ty_int w64 ∷ ty_int w64 ∷ lone Z.mir ∷ lone (R X).mir ∷ [])
    (vint w64 1 ∷ vint w64 1 ∷ heap_val ∷ v ∷ []) (
      (tt, record { fits = lit< tt }),
      (
        (tt, record { fits = lit< tt }),
        (heap_Good, (good, tt)),
      ),
    )

module _ (X : RattleType) {M : Type 1} {𝓤 : Ura M} (𝓛 : Logic 𝓤) (b o : ℕ) where
  pub rebuilt : (h : Z.Denot) (x : X.Denot) (v : Val)
      → ent 𝓤 (sep 𝓤 (sem 𝓛 (fat full_share (ty_struct (inner_name X) (fields X)) b o (inner_val X
      v))) (sep 𝓤 (sem 𝓛 (token X b o h)) (sem 𝓛 ((R X).own_val x (v ∷ [])))))
      (sem 𝓛 (box_owns (ghosts.dealloc_token h) (Inner X) (block_ptr b o) (inner_one X h x)))
  rebuilt h x v = let u : Val = inner_val X v in let one : List Val = vint w64 1 ∷ [] in
      qed 𝓛 (‵ (fat full_share (ty_struct (inner_name X) (fields X)) b o u) ∷ ‵ (token X b o h)
      ∷ ‵ ((R X).own_val x (v ∷ [])) ∷ []) ∵
      nothing ! $ move ! (3 ∷ 0 ∷ []) $ fjoin ! $
      use0 𝓛 (‵ (Z.own_val h (heap_val ∷ []))) (handle_made 𝓛 h) $ fjoin ! $
      flt_i ! 1 (2 ^ 64) (lit< tt) $ feq_i ! (List Val) one one refl $ fjoin ! $ fjoin ! $
      flt_i ! 1 (2 ^ 64) (lit< tt) $ feq_i ! (List Val) one one refl $ fjoin ! $ fjoin ! $
      feq_i ! (List Val) (u ∷ []) (u ∷ []) refl $ fjoin ! $
      fpack ! (Valss (u64 ∷ u64 ∷ Z ∷ R X ∷ [])) (within (shape (inner.the_type (R X))) (
        1,
        (1, (((tt, tt), tt), (x, tt))),
      ) (u ∷ [])) (one, (one, (heap_val ∷ [], (v ∷ [], tt)))) $ move ! (1 ∷ 0 ∷ []) $
      use2 𝓛 (‵ (part_at (Inner X) full_share (inner_one X h x) b o)) (part_in 𝓛 (Inner X) refl
      full_share (inner_one X h x) b o u) $ fjoin ! $ done !
