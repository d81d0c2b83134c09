-- The counts of an `Rc`, read by one of its owners. Assumes `Logic`.
use Rattle.std.proofs.Common.{◌≡◌, ℕ, ◌^◌, ◌<◌, lit<, true, List, [], ◌∷◌, refl, sym, subst}
use mathlib.Core.List.{not-mem-nil}
use seplogic.Ra.Ura.{Ura}
use base.Mask.{every}
use base.Fml.{Fml, Lft, Share, Incl, Incl-refl, flft, ftok}
use types.Logic.{Logic}
use types.Kit.{Item, Goal, Seq, Soaks, Step, step, ‵, ◌⊛◌, later, ◌$◌, move, drop, group, split, split3, use1, use2, fjoin, fjoin3, fpack, flt_i, rewrite, await}
use types.RcWeak.{part, part_in}
use denote.RattleType.{RattleType}
use denote.RawPtr.{Ptr, InBlock, block_ptr}
use denote.Param.{param}
use denote.Param.Laws.{Laws, param_laws}
use Rattle.std.proofs.RcSteps.{Id, cell, counted, handle, value, weaks, box, sees, Closes, rc-Settles, counted_had, opens_strong, shut, alone}
use Rattle.std.proofs.alloc.Global.TheLaws as heap_laws
use Rattle.std.specs.Rc.Ownership.{counter_at, rc_owns}
use Rattle.std.specs.contracts.impls.GlobalAllocator.TheImpl.{ghosts}
use Rattle.rope_shared.specs.Local.Owning.{sole_memory}
use Rattle.rope_shared.proofs.Words.{Z}
use Rattle.rope_shared.proofs.LocalWords.{of_counted, sole_memory_of}
use Rattle.rope_shared.proofs.LocalBlocks.{kit}

module _ (X : RattleType) (L : Laws X) (c : Ptr) (x : X.Denot) where
  abbrev pub Owner : Fml
  Owner = rc_owns Z ghosts.dealloc_token (param 0 X) c x

  -- all of an owner but the counts, which are n and m
  abbrev pub Held : {M : Type 1} {𝓤 : Ura M} (𝓛 : Logic 𝓤) → Id → ℕ → ℕ → Item 𝓤
  Held 𝓛 a n m = let E = kit X L in ‵ (value E c x a true n) ⊛ ‵ (weaks E c x a m) ⊛ Closes E c x 𝓛
      a ⊛ ‵ (part 64 a.0) ⊛ ‵ (box E c x a) ⊛ ‵ (sees E c x (a.0 ∷ []))

module _ (X : RattleType) (L : Laws X) (c : Ptr) (x : X.Denot) {M : Type 1} {𝓤 : Ura M}
    {𝓛 : Logic 𝓤} {K : Type 0} {Γ : List (Item 𝓤)} {G : Goal 𝓤 𝓛.H} where
  -- the token of κ keeps the value alive, and the thread's token opens the counts
  pub counts_out : K → Soaks G → (κ : Lft) (q : Share) → Incl κ X.lives
      → ((a : Id) (n m b o : ℕ) → c ≡ block_ptr b o → n < 2 ^ 64 → m < 2 ^ 64
      → Seq K 𝓛 (‵ (cell b o 0 n) ∷ ‵ (cell b o 8 m) ∷ Held X L c x 𝓛 a n m ∷ ‵ (flft κ q) ∷ Γ) G)
      → Seq K 𝓛 (‵ (Owner X L c x) ∷ ‵ (flft κ q) ∷ ‵ (ftok every) ∷ Γ) G
  counts_out t z κ q within k = let E = kit X L in
      use2 𝓛 (later (‵ (counted E c x) ⊛ ‵ (flft κ q))) (rc-Settles Z (param 0 X)
      ghosts.dealloc_token heap_laws.the_row_laws (param_laws 0 X L) 𝓛 c x κ
      (λ _ m. absurd (not-mem-nil m)) within κ
      q (Incl-refl κ)) $ await t z $ split t $
      counted_had E c x t (λ i. i.0) (λ a s one. move t (1 ∷ 0 ∷ 5 ∷ []) $
      opens_strong E c x a t z s (λ n m b o is small small' _ _.
      move t (5 ∷ []) $ use1 𝓛 (‵ (part 64 a.0)) (part_in 64 𝓛 a.0 s one) $
      -- [the part; the counts; the value; the weak count; the way back; the invariant; the view]
      move t (3 ∷ 4 ∷ 5 ∷ 0 ∷ 6 ∷ 7 ∷ []) $ group t 6 $ move t (1 ∷ 2 ∷ 0 ∷ []) $
      k a n m b o is small small'))

  opened : K → (a : Id) (n m b o : ℕ)
      → Step K 𝓛 (‵ (cell b o 0 n) ∷ ‵ (cell b o 8 m) ∷ ‵ (value (kit X L) c x a true n)
      ∷ ‵ (weaks (kit X L) c x a m) ∷ Closes (kit X L) c x 𝓛 a ∷ ‵ (part 64 a.0)
      ∷ ‵ (box (kit X L) c x a) ∷ ‵ (sees (kit X L) c x (a.0 ∷ [])) ∷ Γ) G
      (‵ (cell b o 0 n) ∷ ‵ (cell b o 8 m) ∷ Held X L c x 𝓛 a n m ∷ Γ) G
  opened t a n m b o = step (λ s. move t (2 ∷ []) $ split3 t $ move t (2 ∷ []) $ split3 t $
      move t (2 ∷ []) $ split t $ move t (6 ∷ 7 ∷ 4 ∷ 5 ∷ 2 ∷ 3 ∷ 0 ∷ []) $ s)

  pub counts_back : K → Soaks G → (a : Id) (n m b o : ℕ) → c ≡ block_ptr b o → n < 2 ^ 64
      → m < 2 ^ 64 → Step K 𝓛 (‵ (Owner X L c x) ∷ ‵ (ftok every) ∷ Γ) G
      (‵ (cell b o 0 n) ∷ ‵ (cell b o 8 m) ∷ Held X L c x 𝓛 a n m ∷ Γ) G
  counts_back t z a n m b o is small small' = let E = kit X L in step (λ s. opened t a n m b o $
      move t (0 ∷ 1 ∷ 2 ∷ 3 ∷ 4 ∷ 6 ∷ 7 ∷ 5 ∷ []) $
      shut E c x a t z true n m b o is small small' $
      -- [the thread's token; the invariant; the view; the part]
      move t (3 ∷ 1 ∷ 2 ∷ []) $ fjoin3 t $ fpack t Id (handle E c x (λ i. i.0)) a $
      use1 𝓛 (‵ (Owner X L c x)) (of_counted (param 0 X) 𝓛 c x) $ s)

  -- the only owner gets the value and the block
  pub counts_taken : K → Soaks G → (a : Id) (n m b o : ℕ) → c ≡ block_ptr b o → n ≡ 1 → m ≡ 1
      → Step K 𝓛 (‵ (sole_memory (param 0 X) c x) ∷ ‵ (ftok every) ∷ Γ) G
      (‵ (cell b o 0 n) ∷ ‵ (cell b o 8 m) ∷ Held X L c x 𝓛 a n m ∷ Γ) G
  counts_taken t z a n m b o is one one' = let E = kit X L in step (λ s.
      rewrite t 0 (λ (j : ℕ). ‵ (cell b o 0 j)) one refl $
      rewrite t 1 (λ (j : ℕ). ‵ (cell b o 8 j)) one' refl $
      rewrite t 2 (λ (j : ℕ × ℕ). Held X L c x 𝓛 a j.0 j.1) (λ i. (one i, one' i)) refl $
      opened t a 1 1 b o $
      move t (6 ∷ []) $ drop t $ move t (6 ∷ []) $ drop t $ move t (2 ∷ 5 ∷ 3 ∷ 4 ∷ []) $
      alone E c x a t z $
      -- [the thread's token; the value and the block; the counts]
      move t (3 ∷ []) $ flt_i t 1 (2 ^ 64) (lit< tt) $ fjoin t $
      rewrite t 0 (λ (r : Ptr). ‵ (counter_at r 8 1)) (sym is) refl $
      move t (3 ∷ []) $ flt_i t 1 (2 ^ 64) (lit< tt) $ fjoin t $
      rewrite t 0 (λ (r : Ptr). ‵ (counter_at r 0 1)) (sym is) refl $ move t (0 ∷ 1 ∷ 3 ∷ []) $
      fjoin3 t $ use1 𝓛 (‵ (sole_memory (param 0 X) c x)) (sole_memory_of (param 0 X) 𝓛 c x (subst
      InBlock (sym is) tt)) $ s)
