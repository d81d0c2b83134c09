-- A step on the count of an `Arc`, by any of its owners. Assumes `Logic`.
use Rattle.std.proofs.Common.{◌≡◌, ℕ, ◌+◌, ◌-◌, ◌%◌, ◌^◌, ◌<◌, zero, suc, Bool, true, false, true≢false, T, not, eqb, eqb-true, List, [], ◌∷◌, refl, sym, subst, arith}
use mathlib.Core.List.{Mem, not-mem-nil}
use seplogic.Ra.Ura.{Ura}
use base.Fraction.{full_share}
use base.Logic.{SProp, ent, sep, wand, ex, guard, upd, upd_i, ex_i, never, never_e, via}
use base.Fml.{Fml, ftrue, Lft, Share, fsep, fex, flft, fdead, flent, finv, fnamed}
use types.Logic.{Logic, sem}
use types.Kit.{‵, raw, ◌⊛◌, some, later, ◌$◌, ◌∵◌, !, qed, by, move, keep, drop, split, fsplit, fsplit3, fjoin, fjoin3, fpick, fpack, pick, show, check, frame, each, assume, suffices, use1, use2, rewrite, updating, await, now, done}
use types.Tokens.{lent_back}
use types.RcWeak.{part, rest, Fine, whole, gives}
use denote.Steps.{nothing}
use denote.RattleType.{RattleType}
use denote.RawPtr.{Ptr, block_ptr, block_of, count_of}
use Rattle.std.specs.Sync.RawAtomic.{asks, always, Shift, rests, enters, leaves, ends, along, shifted, found, back, if_none, word}
use Rattle.std.specs.Thread.Scope.{refcount_state, refcount_if_alive, refcount_invariant, word_at}
use Rattle.std.specs.Arc.Ownership.{value_and_blocks, fields_shared, owner_owns, sole_owns, counted_owns}
use Rattle.std.specs.contracts.impls.GlobalAllocator.TheImpl.{ghosts}
use Rattle.rope_shared.proofs.Words.{Z, either_owner}

module _ (R : RattleType) (p : Ptr) (x : R.Denot) where
  -- the value, and the right to free the block
  abbrev pub V : Fml
  V = value_and_blocks Z ghosts.dealloc_token R p x

  abbrev pub shown : Lft → Fml
  shown = fields_shared Z ghosts.dealloc_token R p x

  abbrev pub Sole : Fml
  Sole = sole_owns Z ghosts.dealloc_token R p x

  abbrev pub Counted : Fml
  Counted = counted_owns Z ghosts.dealloc_token R p x

  abbrev pub b : ℕ
  b = block_of p

  abbrev pub o : ℕ
  o = count_of p + 0

  -- at hand, or lent for a lifetime that has ended
  abbrev pub home : Bool → Fml
  home true = V
  home false = fex ℕ (λ a. fsep (fdead (a ∷ [])) (flent (a ∷ []) V))

  -- what the last owner has, with the count n
  abbrev pub last : ℕ → Fml
  last n = fsep (word_at b o n) (fex Bool home)

  -- what an owner has after it has read the count n
  abbrev pub claimed : ℕ → Fml
  claimed n = either_owner (last 1) Counted (eqb n 1)

  -- what an owner has after it has lowered the count n
  abbrev pub released : ℕ → Fml
  released n = either_owner (last 0) ftrue (eqb n 1)

module _ (R : RattleType) (p : Ptr) (x : R.Denot) {M : Type 1} {𝓤 : Ura M} (𝓛 : Logic 𝓤) where
  open 𝓛 use {H, A}

  abbrev B : ℕ
  B = b R p x

  abbrev O : ℕ
  O = o R p x

  home_back : (y : Bool) → ent 𝓤 (sem 𝓛 (home R p x y)) (H.⇛ (sem 𝓛 (V R p x)))
  home_back true = 𝓛.laws.⇛_intro (sem 𝓛 (V R p x))
  home_back false = qed 𝓛 (‵ (home R p x false) ∷ []) ∵ updating ! $ fpick ! (λ a. fsplit ! $
      lent_back ! tt $ now ! $ done !)

  pub last_has : (n : ℕ) → ent 𝓤 (sem 𝓛 (last R p x n)) (H.⇛ (sep 𝓤 (sem 𝓛 (word_at B O n)) (sem 𝓛
      (V R p x))))
  last_has n = qed 𝓛 (‵ (last R p x n) ∷ []) ∵ updating ! $ fsplit ! $ move ! (1 ∷ []) $
      fpick ! (λ y.
      use1 𝓛 (later (‵ (V R p x))) (home_back y) $ await ! tt $ now ! $ move ! (1 ∷ 0 ∷ []) $
      done !)

  module _ (a : ℕ) where
    abbrev I : Fml
    I = refcount_invariant (V R p x) B O a

    abbrev Beside : SProp 𝓤
    Beside = sep 𝓤 (sem 𝓛 (part 63 a)) (sep 𝓤 (sem 𝓛 (finv I)) (sem 𝓛 (shown R p x (a ∷ []))))

    abbrev Back : ℕ → ℕ → Fml → SProp 𝓤
    Back j n F = shifted 𝓛 (if_none 𝓛 (sem 𝓛 F)) ((j, I) ∷ [])

    -- the last owner ends the lifetime
    ended : (j n : ℕ) → ent 𝓤 (sep 𝓤 (sem 𝓛 (word_at B O n)) (sep 𝓤 (sem 𝓛 (rest 63 a 1)) (sep 𝓤
        (sem 𝓛 (flent (a ∷ []) (V R p x))) (sem 𝓛 (part 63 a))))) (Back j n (last R p x n))
    ended j n = let F : SProp 𝓤 = sem 𝓛 (last R p x n) in
        let L : List (ℕ × Fml) = (j, I) ∷ [] in let d : Fml = fdead (a ∷ []) in
        let Q : List (ℕ × Fml) → SProp 𝓤 = if_none 𝓛 F in
        let Rest : SProp 𝓤 = upd 𝓤 (sep 𝓤 (sem 𝓛 I) (upd 𝓤 F)) in
        qed 𝓛 (‵ (word_at B O n) ∷ ‵ (rest 63 a 1) ∷ ‵ (flent (a ∷ []) (V R p x))
        ∷ ‵ (part 63 a) ∷ []) ∵
        move ! (1 ∷ 3 ∷ []) $ use2 𝓛 (‵ (flft (a ∷ []) full_share)) (whole 63 𝓛 a) $
        suffices ! _ (ex_i 𝓤 (λ (s : Shift). along 𝓛 s Q L) (ends a (leaves rests))) $
        suffices ! _ (upd_i 𝓤 (sep 𝓤 (A.lft (a ∷ []) full_share) (wand 𝓤 (A.dead (a ∷ [])) Rest))) $
        frame ! $
        assume ! (‵ d) $ use1 𝓛 (‵ d ⊛ ‵ d) (𝓛.lfts.dead_dup (a ∷ [])) $ split ! $
        suffices ! _ (upd_i 𝓤 (sep 𝓤 (sem 𝓛 I) (upd 𝓤 F))) $
        fpack ! Bool (refcount_if_alive (V R p x) B O a) false $ frame ! $
        suffices ! _ (upd_i 𝓤 F) $ move ! (0 ∷ 2 ∷ []) $ fjoin ! $
        fpack ! ℕ (λ i. fsep (fdead (i ∷ [])) (flent (i ∷ []) (V R p x))) a $
        fpack ! Bool (home R p x) false $ move ! (1 ∷ 0 ∷ []) $ fjoin ! $ done !

    read_back : (j n : ℕ) (y : Bool) → (y ≡ true → n ≡ 1)
        → ent 𝓤 (sep 𝓤 (sem 𝓛 (word_at B O n)) (sep 𝓤 (sem 𝓛 (rest 63 a n)) (sep 𝓤 (sem 𝓛 (flent (a
        ∷ []) (V R p x))) Beside)))
        (Back j n (either_owner (last R p x 1) (Counted R p x) y))
    read_back j n true one =
        qed 𝓛 (‵ (word_at B O n) ∷ ‵ (rest 63 a n)
        ∷ ‵ (flent (a ∷ []) (V R p x)) ∷ (‵ (part 63 a) ⊛ ‵ (finv I) ⊛ ‵ (shown R p x (a ∷ []))) ∷
        []) ∵
        rewrite ! 0 (λ (i : ℕ). ‵ (word_at B O i)) (one refl) refl $
        rewrite ! 1 (λ (i : ℕ). ‵ (rest 63 a i)) (one refl) refl $
        move ! (3 ∷ []) $ split ! $ move ! (2 ∷ 3 ∷ 4 ∷ 0 ∷ []) $ keep ! (0 ∷ 1 ∷ 2 ∷ 3 ∷ []) $
        by ! (ended j 1)
    read_back j n false one = let F : SProp 𝓤 = sem 𝓛 (Counted R p x) in
        let L : List (ℕ × Fml) = (j, I) ∷ [] in
        let Q : List (ℕ × Fml) → SProp 𝓤 = if_none 𝓛 F in
        qed 𝓛 (‵ (word_at B O n) ∷ ‵ (rest 63 a n)
        ∷ ‵ (flent (a ∷ []) (V R p x)) ∷ (‵ (part 63 a) ⊛ ‵ (finv I) ⊛ ‵ (shown R p x (a ∷ []))) ∷
        []) ∵
        suffices ! _ (ex_i 𝓤 (λ (s : Shift). along 𝓛 s Q L) (leaves rests)) $
        suffices ! _ (upd_i 𝓤 (sep 𝓤 (sem 𝓛 I) (upd 𝓤 F))) $ fjoin3 ! $
        fpack ! ℕ (refcount_state (V R p x) B O a) n $
        fpack ! Bool (refcount_if_alive (V R p x) B O a) true $ frame ! $ suffices ! _ (upd_i 𝓤 F) $
        types.Kit.split3 ! $ fjoin3 ! $
        fpack ! ℕ (λ i. owner_owns (V R p x) B O i (shown R p x)) a $ done !

    released_back : (j n : ℕ) (y : Bool) → (y ≡ true → n ≡ 1) → (y ≡ false → 1 < n)
        → ent 𝓤 (sep 𝓤 (sem 𝓛 (word_at B O (n - 1))) (sep 𝓤 (sem 𝓛 (rest 63 a n)) (sep 𝓤 (sem 𝓛
        (flent (a ∷ []) (V R p x))) Beside)))
        (Back j n (either_owner (last R p x 0) ftrue y))
    released_back j n true one many =
        qed 𝓛 (‵ (word_at B O (n - 1)) ∷ ‵ (rest 63 a n)
        ∷ ‵ (flent (a ∷ []) (V R p x)) ∷ (‵ (part 63 a) ⊛ ‵ (finv I) ⊛ ‵ (shown R p x (a ∷ []))) ∷
        []) ∵
        rewrite ! 0 (λ (i : ℕ). ‵ (word_at B O (i - 1))) (one refl) refl $
        rewrite ! 1 (λ (i : ℕ). ‵ (rest 63 a i)) (one refl) refl $
        move ! (3 ∷ []) $ split ! $ move ! (2 ∷ 3 ∷ 4 ∷ 0 ∷ []) $ keep ! (0 ∷ 1 ∷ 2 ∷ 3 ∷ []) $
        by ! (ended j 0)
    released_back j n false one many = let F : SProp 𝓤 = sem 𝓛 ftrue in
        let L : List (ℕ × Fml) = (j, I) ∷ [] in
        let Q : List (ℕ × Fml) → SProp 𝓤 = if_none 𝓛 F in
        qed 𝓛 (‵ (word_at B O (n - 1)) ∷ ‵ (rest 63 a n)
        ∷ ‵ (flent (a ∷ []) (V R p x)) ∷ (‵ (part 63 a) ⊛ ‵ (finv I) ⊛ ‵ (shown R p x (a ∷ []))) ∷
        []) ∵
        move ! (3 ∷ []) $ split ! $ move ! (3 ∷ 0 ∷ []) $
        use2 𝓛 (‵ (rest 63 a (n - 1))) (gives 63 𝓛 a n (many refl)) $ move ! (2 ∷ 0 ∷ 3 ∷ []) $
        suffices ! _ (ex_i 𝓤 (λ (s : Shift). along 𝓛 s Q L) (leaves rests)) $
        suffices ! _ (upd_i 𝓤 (sep 𝓤 (sem 𝓛 I) (upd 𝓤 F))) $ fjoin3 ! $
        fpack ! ℕ (refcount_state (V R p x) B O a) (n - 1) $
        fpack ! Bool (refcount_if_alive (V R p x) B O a) true $ frame ! $ suffices ! _ (upd_i 𝓤 F) $
        nothing ! $ keep ! (0 ∷ []) $ done !

  -- a step that makes the count f n of n, where an owner has `after n` once it has read n
  module _ (f : ℕ → ℕ) (after : ℕ → Fml) (alone : ent 𝓤 (sep 𝓤 (sem 𝓛 (word_at B O (f 1))) (sem 𝓛 (V
      R p x))) (sem 𝓛 (after 1)))
      (turn : (a j n : ℕ) → 0 < n → n < 2 ^ 63
      → ent 𝓤 (sep 𝓤 (sem 𝓛 (word_at B O (f n))) (sep 𝓤 (sem 𝓛 (rest 63 a n)) (sep 𝓤 (sem 𝓛 (flent
      (a ∷ []) (V R p x))) (Beside a)))) (Back a j n (after n))) where
    opened : (a j : ℕ) (s : Bool) → ent 𝓤 (sep 𝓤 (sem 𝓛 (refcount_if_alive (V R p x) B O a s))
        (Beside a)) (upd 𝓤 (ex 𝓤 (found 𝓛 ((j, I a) ∷ []) B O f always after)))
    opened a j true = let L : List (ℕ × Fml) = (j, I a) ∷ [] in
        let G : SProp 𝓤 = ex 𝓤 (found 𝓛 L B O f always after) in
        qed 𝓛 (‵ (fex ℕ (refcount_state (V R p x) B O a)) ∷ raw (Beside a) ∷ []) ∵ fpick !
        (λ n. fsplit3 ! $ suffices ! _ (upd_i 𝓤 G) $
        show ! (found 𝓛 L B O f always after) n $ frame ! $
        fpick ! (λ r. fpick ! (λ c. fpack ! (Fine 63 n r) (λ _. flft (a ∷ []) r) c $
        fpack ! Share (λ s. fex (Fine 63 n s) (λ _. flft (a ∷ []) s)) r $
        each ! (λ (_ : always n). back 𝓛 L B O f after n) (λ _. assume ! (‵ (word B O (f n))) $
        by ! (turn a j n c.0 c.1)))))
    opened a j false = let G : SProp 𝓤 = upd 𝓤 (ex 𝓤 (found 𝓛 ((j, I a) ∷ []) B O f always after))
        in
        qed 𝓛 (‵ (fdead (a ∷ [])) ∷ (‵ (part 63 a) ⊛ ‵ (finv (I a)) ⊛ ‵ (shown R p x (a ∷ []))) ∷
        []) ∵ move ! (1 ∷ []) $ split ! $
        fpick ! (λ e. fpick ! (λ c. keep ! (0 ∷ 2 ∷ []) $
        by ! (via 𝓤 (never 𝓤) (𝓛.lfts.lft-dead (a ∷ []) e) (never_e 𝓤 G))))

    pub stepped : (y : Bool) → ent 𝓤 (sem 𝓛 (either_owner (Sole R p x) (Counted R p x) y)) (asks 𝓛
        (block_ptr B O) f always after)
    stepped true = let K : List (ℕ × Fml) → SProp 𝓤 = λ l. ex 𝓤 (found 𝓛 l B O f always after) in
        let F : SProp 𝓤 = sem 𝓛 (after 1) in
        qed 𝓛 (‵ (Sole R p x) ∷ []) ∵ suffices ! _ (ex_i 𝓤 (λ (s : Shift). along 𝓛 s K []) rests) $
        suffices ! _ (upd_i 𝓤 (K [])) $ fsplit ! $
        show ! (found 𝓛 [] B O f always after) 1 $ frame ! $
        each ! (λ (_ : always 1). back 𝓛 [] B O f after 1) (λ _. assume ! (‵ (word B O (f 1))) $
        suffices ! _ (ex_i 𝓤 (λ (s : Shift). along 𝓛 s (if_none 𝓛 F) []) rests) $
        suffices ! _ (upd_i 𝓤 F) $ by ! alone)
    stepped false = let K : List (ℕ × Fml) → SProp 𝓤 = λ l. ex 𝓤 (found 𝓛 l B O f always after) in
        qed 𝓛 (‵ (Counted R p x) ∷ []) ∵ fpick ! (λ a. fsplit3 ! $ move ! (1 ∷ []) $
        use1 𝓛 (‵ (finv (I a)) ⊛ ‵ (finv (I a))) (𝓛.invs.inv_dup (I a)) $ split ! $
        use1 𝓛 (some (λ (j : ℕ). ‵ (fnamed j (I a)))) (𝓛.invs.inv_named (I a)) $
        pick ! (λ j. let L : List (ℕ × Fml) = (j, I a) ∷ [] in
        suffices ! _ (ex_i 𝓤 (λ (s : Shift). along 𝓛 s K []) (enters j (I a) rests)) $
        suffices ! _ (upd_i 𝓤 (guard 𝓤 (¬ Mem j []) (sep 𝓤 (A.named j (I a)) (wand 𝓤 (sem 𝓛 (I a))
        (upd 𝓤 (K L)))))) $
        check ! (λ m. not-mem-nil m) $ frame ! $ assume ! (‵ (I a)) $ move ! (0 ∷ 2 ∷ 1 ∷ 3 ∷ []) $
        fpick ! (λ s. by ! (opened a j s))))

  many : (n : ℕ) → 0 < n → eqb n 1 ≡ false → 1 < n
  many zero some' e = omega (arith, some')
  many (suc zero) some' e = absurd (true≢false e)
  many (suc (suc k)) some' e = omega arith

  at_hand : (n : ℕ) → ent 𝓤 (sep 𝓤 (sem 𝓛 (word_at B O n)) (sem 𝓛 (V R p x))) (sem 𝓛 (last R p x n))
  at_hand n = qed 𝓛 (‵ (word_at B O n) ∷ ‵ (V R p x) ∷ []) ∵ move ! (1 ∷ []) $
      fpack ! Bool (home R p x) true $ move ! (1 ∷ 0 ∷ []) $ fjoin ! $ done !

  -- the count is read
  pub reads : ent 𝓤 (sem 𝓛 (fex Bool (either_owner (Sole R p x) (Counted R p x)))) (asks 𝓛
      (block_ptr B O) (λ n. n) always (claimed R p x))
  reads = qed 𝓛 (‵ (fex Bool (either_owner (Sole R p x) (Counted R p x))) ∷ []) ∵
      fpick ! (λ y. by ! (stepped (λ n. n) (claimed R p x) (at_hand 1)
      (λ a j n some' small. read_back a j n (eqb n 1) (eqb-true n 1)) y))

  less : (n : ℕ) → 0 < n → n < 2 ^ 63 → (n + (2 ^ 64 - 1)) % 2 ^ 64 ≡ n - 1
  less n some' small = omega (arith, some', small)

  -- the count is lowered by 1
  pub drops : ent 𝓤 (sem 𝓛 (fex Bool (either_owner (Sole R p x) (Counted R p x)))) (asks 𝓛
      (block_ptr B O) (λ n. (n + (2 ^ 64 - 1)) % 2 ^ 64) always (released R p x))
  drops = let f : ℕ → ℕ = λ n. (n + (2 ^ 64 - 1)) % 2 ^ 64 in
      qed 𝓛 (‵ (fex Bool (either_owner (Sole R p x) (Counted R p x))) ∷ []) ∵
      fpick ! (λ y. by ! (stepped f (released R p x) (at_hand 0) (λ a j n some' small.
      subst (λ (m : ℕ). ent 𝓤 (sep 𝓤 (sem 𝓛 (word_at B O m)) (sep 𝓤 (sem 𝓛 (rest 63 a n)) (sep 𝓤
      (sem 𝓛 (flent (a ∷ []) (V R p x))) (Beside a)))) (Back a j n (released R p x n)))
      (sym (less n some' small)) (released_back a j n (eqb n 1) (eqb-true n 1) (many n some'))) y))

pub is_true : (y : Bool) → T y → y ≡ true
is_true true t = refl
is_true false t = absurd t

pub is_false : (y : Bool) → T (not y) → y ≡ false
is_false true t = absurd t
is_false false t = refl
