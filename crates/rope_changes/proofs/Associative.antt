-- Three changes in a row are one change, in whichever order they are composed.
use Rattle.std.proofs.Common.{◌≡◌, ℕ, List, [], ◌∷◌, refl, ap, sym, ◌∙◌}
use Rattle.rope_changes.specs.Ops.{Op, keep, delete, insert}
use Rattle.rope_changes.specs.Combined.{onto_kept, onto_inserted, compose}
use Rattle.rope_changes.specs.Normal.{delete_after, normal_form, composed}
use Rattle.rope_changes.proofs.NormalLaws.{normal_twice}

-- the first change begins with a character that is kept, or inserted; `rest` composes what follows
module _ (a : List Op)
    (rest : (b c : List Op) → compose (compose a b) c ≡ compose a (compose b c)) where
  kept_none : (c : List Op) → onto_kept (compose (compose a [])) c ≡ onto_kept (compose a) c
  kept_none [] = ap (λ u. keep ∷ u) (rest [] [])
  kept_none (keep ∷ c) = ap (λ u. keep ∷ u) (rest [] c)
  kept_none (delete ∷ c) = ap (λ u. delete ∷ u) (rest [] c)
  kept_none (insert y ∷ c) = ap (λ u. insert y ∷ u) (kept_none c)

  kept_kept : (b c : List Op)
      → onto_kept (compose (compose a b)) c ≡ onto_kept (compose a) (onto_kept (compose b) c)
  kept_kept b [] = ap (λ u. keep ∷ u) (rest b [])
  kept_kept b (keep ∷ c) = ap (λ u. keep ∷ u) (rest b c)
  kept_kept b (delete ∷ c) = ap (λ u. delete ∷ u) (rest b c)
  kept_kept b (insert y ∷ c) = ap (λ u. insert y ∷ u) (kept_kept b c)

  kept_inserted : (y : ℕ) (b : List Op)
      → ((d : List Op) → compose (onto_kept (compose a) b) d ≡ onto_kept (compose a) (compose b d))
      → (c : List Op) → onto_inserted y (compose (onto_kept (compose a) b)) c
      ≡ onto_kept (compose a) (onto_inserted y (compose b) c)
  kept_inserted y b later [] = ap (λ u. insert y ∷ u) (later [])
  kept_inserted y b later (keep ∷ c) = ap (λ u. insert y ∷ u) (later c)
  kept_inserted y b later (delete ∷ c) = later c
  kept_inserted y b later (insert z ∷ c) = ap (λ u. insert z ∷ u) (kept_inserted y b later c)

  kept : (b c : List Op)
      → compose (onto_kept (compose a) b) c ≡ onto_kept (compose a) (compose b c)
  kept [] c = kept_none c
  kept (keep ∷ b) c = kept_kept b c
  kept (delete ∷ b) c = ap (λ u. delete ∷ u) (rest b c)
  kept (insert y ∷ b) c = kept_inserted y b (λ d. kept b d) c

  module _ (x : ℕ) where
    inserted_none : (c : List Op)
        → onto_inserted x (compose (compose a [])) c ≡ onto_inserted x (compose a) c
    inserted_none [] = ap (λ u. insert x ∷ u) (rest [] [])
    inserted_none (keep ∷ c) = ap (λ u. insert x ∷ u) (rest [] c)
    inserted_none (delete ∷ c) = rest [] c
    inserted_none (insert y ∷ c) = ap (λ u. insert y ∷ u) (inserted_none c)

    inserted_kept : (b c : List Op) → onto_inserted x (compose (compose a b)) c
        ≡ onto_inserted x (compose a) (onto_kept (compose b) c)
    inserted_kept b [] = ap (λ u. insert x ∷ u) (rest b [])
    inserted_kept b (keep ∷ c) = ap (λ u. insert x ∷ u) (rest b c)
    inserted_kept b (delete ∷ c) = rest b c
    inserted_kept b (insert y ∷ c) = ap (λ u. insert y ∷ u) (inserted_kept b c)

    inserted_inserted : (y : ℕ) (b : List Op)
        → ((d : List Op) → compose (onto_inserted x (compose a) b) d
        ≡ onto_inserted x (compose a) (compose b d))
        → (c : List Op) → onto_inserted y (compose (onto_inserted x (compose a) b)) c
        ≡ onto_inserted x (compose a) (onto_inserted y (compose b) c)
    inserted_inserted y b later [] = ap (λ u. insert y ∷ u) (later [])
    inserted_inserted y b later (keep ∷ c) = ap (λ u. insert y ∷ u) (later c)
    inserted_inserted y b later (delete ∷ c) = later c
    inserted_inserted y b later (insert z ∷ c) =
        ap (λ u. insert z ∷ u) (inserted_inserted y b later c)

    inserted : (b c : List Op) → compose (onto_inserted x (compose a) b) c
        ≡ onto_inserted x (compose a) (compose b c)
    inserted [] c = inserted_none c
    inserted (keep ∷ b) c = inserted_kept b c
    inserted (delete ∷ b) c = rest b c
    inserted (insert y ∷ b) c = inserted_inserted y b (λ d. inserted b d) c

pub compose_twice : (a b c : List Op) → compose (compose a b) c ≡ compose a (compose b c)
compose_twice [] b c = refl
compose_twice (keep ∷ a) b c = kept a (λ d e. compose_twice a d e) b c
compose_twice (delete ∷ a) b c = ap (λ u. delete ∷ u) (compose_twice a b c)
compose_twice (insert x ∷ a) b c = inserted a (λ d e. compose_twice a d e) x b c

-- changes with one normal form, before a later change
module _ (f g : List Op → List Op)
    (same : (c : List Op) → normal_form (f c) ≡ normal_form (g c)) where
  kept_same : (c : List Op) → normal_form (onto_kept f c) ≡ normal_form (onto_kept g c)
  kept_same [] = ap (λ u. keep ∷ u) (same [])
  kept_same (keep ∷ c) = ap (λ u. keep ∷ u) (same c)
  kept_same (delete ∷ c) = ap delete_after (same c)
  kept_same (insert y ∷ c) = ap (λ u. insert y ∷ u) (kept_same c)

  inserted_same : (x : ℕ) (c : List Op)
      → normal_form (onto_inserted x f c) ≡ normal_form (onto_inserted x g c)
  inserted_same x [] = ap (λ u. insert x ∷ u) (same [])
  inserted_same x (keep ∷ c) = ap (λ u. insert x ∷ u) (same c)
  inserted_same x (delete ∷ c) = same c
  inserted_same x (insert y ∷ c) = ap (λ u. insert y ∷ u) (inserted_same x c)

-- a character that the first change deletes
module _ (x : ℕ) (n : List Op)
    (rest : (c : List Op) → normal_form (compose (delete_after n) c)
    ≡ delete_after (normal_form (compose n c))) where
  deleted_inserted : (c : List Op) → normal_form (onto_inserted x (compose (delete_after n)) c)
      ≡ delete_after (normal_form (onto_inserted x (compose n) c))
  deleted_inserted [] = ap (λ u. insert x ∷ u) (rest [])
  deleted_inserted (keep ∷ c) = ap (λ u. insert x ∷ u) (rest c)
  deleted_inserted (delete ∷ c) = rest c
  deleted_inserted (insert y ∷ c) = ap (λ u. insert y ∷ u) (deleted_inserted c)

first_deletes : (n c : List Op)
    → normal_form (compose (delete_after n) c) ≡ delete_after (normal_form (compose n c))
first_deletes [] c = refl
first_deletes (keep ∷ n) c = refl
first_deletes (delete ∷ n) c = refl
first_deletes (insert x ∷ n) c = deleted_inserted x n (λ d. first_deletes n d) c

pub first_normal : (a c : List Op)
    → normal_form (compose (normal_form a) c) ≡ normal_form (compose a c)
first_normal [] c = refl
first_normal (keep ∷ a) c =
    kept_same (compose (normal_form a)) (compose a) (λ d. first_normal a d) c
first_normal (delete ∷ a) c =
    first_deletes (normal_form a) c ∙ ap delete_after (first_normal a c)
first_normal (insert x ∷ a) c =
    inserted_same (compose (normal_form a)) (compose a) (λ d. first_normal a d) x c

-- a later change that begins with an insert, or with a deletion
insert_leads : (a : List Op) (y : ℕ) (n : List Op)
    → normal_form (compose a (insert y ∷ n)) ≡ insert y ∷ normal_form (compose a n)
insert_leads [] y n = refl
insert_leads (keep ∷ a) y n = refl
insert_leads (delete ∷ a) y n = ap delete_after (insert_leads a y n)
insert_leads (insert x ∷ a) y n = refl

kept_deletes : (a n : List Op) → normal_form (onto_kept (compose a) (delete_after n))
    ≡ delete_after (normal_form (compose a n))
kept_deletes a [] = refl
kept_deletes a (keep ∷ n) = refl
kept_deletes a (delete ∷ n) = refl
kept_deletes a (insert y ∷ n) =
    ap (λ u. insert y ∷ u) (kept_deletes a n) ∙ ap delete_after (sym (insert_leads a y n))

inserted_deletes : (x : ℕ) (a n : List Op)
    → normal_form (onto_inserted x (compose a) (delete_after n)) ≡ normal_form (compose a n)
inserted_deletes x a [] = refl
inserted_deletes x a (keep ∷ n) = refl
inserted_deletes x a (delete ∷ n) = refl
inserted_deletes x a (insert y ∷ n) =
    ap (λ u. insert y ∷ u) (inserted_deletes x a n) ∙ sym (insert_leads a y n)

module _ (a : List Op)
    (rest : (c : List Op)
    → normal_form (compose a (normal_form c)) ≡ normal_form (compose a c)) where
  kept_later : (c : List Op)
      → normal_form (onto_kept (compose a) (normal_form c)) ≡ normal_form (onto_kept (compose a) c)
  kept_later [] = refl
  kept_later (keep ∷ c) = ap (λ u. keep ∷ u) (rest c)
  kept_later (delete ∷ c) = kept_deletes a (normal_form c) ∙ ap delete_after (rest c)
  kept_later (insert y ∷ c) = ap (λ u. insert y ∷ u) (kept_later c)

  inserted_later : (x : ℕ) (c : List Op) → normal_form (onto_inserted x (compose a) (normal_form c))
      ≡ normal_form (onto_inserted x (compose a) c)
  inserted_later x [] = refl
  inserted_later x (keep ∷ c) = ap (λ u. insert x ∷ u) (rest c)
  inserted_later x (delete ∷ c) = inserted_deletes x a (normal_form c) ∙ rest c
  inserted_later x (insert y ∷ c) = ap (λ u. insert y ∷ u) (inserted_later x c)

pub later_normal : (a c : List Op)
    → normal_form (compose a (normal_form c)) ≡ normal_form (compose a c)
later_normal [] c = normal_twice c
later_normal (keep ∷ a) c = kept_later a (λ d. later_normal a d) c
later_normal (delete ∷ a) c = ap delete_after (later_normal a c)
later_normal (insert x ∷ a) c = inserted_later a (λ d. later_normal a d) x c

pub composed_twice : (a b c : List Op) → composed (composed a b) c ≡ composed a (composed b c)
composed_twice a b c =
    first_normal (compose a b) c ∙ ap normal_form (compose_twice a b c)
    ∙ sym (later_normal a (compose b c))
